use Rattle.std.proofs.Common.{ℕ, ◌+◌, List, sym, subst, ◌∙◌}
use Rattle.array_scan.specs.declared.set_read.SetRead.{SetRead}
use Rattle.array_scan.specs.SetRead.{array_by}
use Rattle.array_scan.proofs.SeenSets.{SetsSeen, sets_none, sets_more}
use Rattle.array_scan.proofs.read_sets.read_sets.Goals as goal

pub loop-id-init : goal.loop-id-init
loop-id-init g c =
    let bay = g.B.Bay.state c.args.bay.now in
    let array = array_by c.args.label.now in
    let indexes = c.args.label.now.geometry.k + c.args.label.now.geometry.p in
    subst (λ (l : List SetRead). SetsSeen array indexes bay bay c.args.heads.now l c.into_iter-id-iterator.result) (sym c.new-sets.ensures.items)
    (sets_none array indexes bay c.args.heads.now c.into_iter-id-iterator.result (c.into_iter-id-iterator.ensures.into_iter_gives.0 ∙ c.in_ok-ids.ensures))

pub loop-id-preserved : goal.loop-id-preserved
loop-id-preserved g c =
    let before = g.B.Bay.state c.args.bay.now in
    let mid = g.B.Bay.state c.loop-id.bay in
    let after = g.B.Bay.state c.read_set.new.bay in
    let array = array_by c.args.label.now in
    let indexes = c.args.label.now.geometry.k + c.args.label.now.geometry.p in
    subst (λ (l : List SetRead). SetsSeen array indexes before after c.args.heads.now l c.next.new.self) (sym c.in_ok-push.ensures.items)
    (sets_more array indexes before mid after c.args.heads.now c.loop-id.sets.items c.in-Some.id.now c.next.new.self c.in_ok-read_set.field-0
    (subst (λ (l : List ℕ). SetsSeen array indexes before mid c.args.heads.now c.loop-id.sets.items l) c.in-Some.ensures.steps c.loop-id.invariant)
    c.in_ok-read_set.ensures.reads c.in_ok-read_set.ensures.fits c.in_ok-read_set.ensures.seen)
