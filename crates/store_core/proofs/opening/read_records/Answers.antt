use Rattle.std.proofs.Common.{◌≤◌, ◌*◌, ℕ, [], ◌∷◌, ◌++◌, length, refl, sym, ◌∙◌, arith}
use Rattle.smore_base.proofs.Told.{IfSome-both}
use Rattle.store_core.specs.Opening.{array_by}
use Rattle.store_core.proofs.ReadSteps.{any_none, any_then, any_answered}
use Rattle.store_core.proofs.SetRecords.{open_more}
use Rattle.store_core.proofs.ReadRecords.{can_read, read_more, read_other, read_none, read_all}
use Rattle.store_core.proofs.opening.read_records.Goals as goal

pub loop-records-init : goal.loop-records-init
loop-records-init g c =
    let bay = g.B.Bay.state c.args.bay.now in
    let label = c.requires.label in
    record {
      reads = any_none bay _ (λ no. no);
      zone = c.new-reader.ensures.zone;
      can = can_read bay c.new-reader.result (array_by c.args.label.now) c.args.written c.new-reader.ensures.zone (omega (arith, label.of_bay.devices)) (omega (arith, label.of_bay.zones, label.limits.zones_from)) c.requires.written;
      blocks = c.new-records.ensures.limits.0;
      shard = c.new-records.ensures.limits.1;
      some = ([], c.new-records.ensures.read, record { no_digest = refl; first = refl }, IfSome-both bay.contents _ _ _ c.requires.written c.requires.written (λ held n again. sym (c.new-reader.ensures.records (held 0 2))));
    }

pub returns-then-not-branch-clause-found : goal.returns-then-not-branch-clause-found
returns-then-not-branch-clause-found g c =
    let l = c.loop-records in
    let some = l.invariant.some in
    let bay = g.B.Bay.state c.args.bay.now in
    let fits = IfSome-both bay.contents _ (λ held. (d z : ℕ) → length (held d z) ≤ 512 * bay.shape.blocks) (λ held. length (held 0 2) ≤ 512 * l.records.blocks) (g.met.B.Bay.sound c.args.bay.now).fits (g.met.B.Bay.sound c.args.bay.now).fits
    (λ held within again. omega (arith, within 0 2, c.requires.label.of_bay.blocks, l.invariant.blocks)) in
    read_other (array_by c.args.label.now) bay.contents (g.B.Bay.state l.bay).contents l.invariant.reads.only.contents l.reader c.args.written l.invariant.zone l.records some.0 some.1 some.3
    c.next.new.self c.in_ok-marker.field-0 c.in-Some.marker c.in-Some.is c.in_ok-marker.ensures.gives c.requires.label.one_source c.requires.label.one_parity l.invariant.shard fits
    (λ can. let is = c.in_ok-add.ensures.added.1 can in let other = c.if-not-branch.true in absurd cc)

pub loop-records-preserved : goal.loop-records-preserved
loop-records-preserved g c =
    let l = c.loop-records in
    let some = l.invariant.some in
    let bay = g.B.Bay.state c.args.bay.now in
    let can = c.in_ok-add.ensures.added.0 c.if-not-branch.false in
    record {
      reads = any_then ⊥ ⊥ _ _ _ (λ no. no) l.invariant.reads (any_answered _ _ _ (λ d m failed. let no = failed.0 in absurd cc) c.in_ok-marker.ensures.only);
      zone = c.next.ensures.same ∙ l.invariant.zone;
      can = c.next.ensures.still;
      blocks = c.add.ensures.limits.0 ∙ l.invariant.blocks;
      shard = c.add.ensures.limits.1 ∙ l.invariant.shard;
      some = (
        some.0 ++ c.in-Some.marker ∷ [],
        c.in_ok-add.ensures.read c.if-not-branch.false some.0 some.1,
        open_more l.records.shard some.0 c.in-Some.marker some.2 can.fitting,
        read_more (array_by c.args.label.now) bay.contents (g.B.Bay.state l.bay).contents l.invariant.reads.only.contents l.reader c.args.written l.invariant.zone l.records some.0 some.1 some.3
            c.next.new.self c.in_ok-marker.field-0 c.in-Some.marker c.in-Some.is c.in_ok-marker.ensures.gives,
      );
    }

pub returns-then-records-clause-found : goal.returns-then-records-clause-found
returns-then-records-clause-found g c =
    let l = c.loop-records in
    let some = l.invariant.some in
    let bay = g.B.Bay.state c.args.bay.now in
    read_all (array_by c.args.label.now) bay.contents (g.B.Bay.state l.bay).contents l.invariant.reads.only.contents l.reader c.args.written l.invariant.zone l.records some.0 some.1 some.3
    c.next.new.self c.in_ok-marker.field-0 c.in_default.is c.in_ok-marker.ensures.gives some.2 c.if-records.true c.within.result (c.within.ensures.read some.0 some.1) c.within.ensures.torn c.requires.written

pub returns-else-records-clause-found : goal.returns-else-records-clause-found
returns-else-records-clause-found g c =
    let l = c.loop-records in
    let some = l.invariant.some in
    let bay = g.B.Bay.state c.args.bay.now in
    read_none (array_by c.args.label.now) bay.contents (g.B.Bay.state l.bay).contents l.invariant.reads.only.contents l.reader c.args.written l.invariant.zone l.records some.0 some.1 some.3
    c.next.new.self c.in_ok-marker.field-0 c.in_default.is c.in_ok-marker.ensures.gives c.if-records.false
