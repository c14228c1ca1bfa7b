use Rattle.std.proofs.Common.{ap₂, sym, ◌∙◌}
use Rattle.std.specs.Str.{bytes_eq}
use Rattle.array_model.specs.NeedTests.{is_same}
use Rattle.array_scan.specs.Valid.{item_with, payload_with}
use Rattle.array_scan.specs.Scan.{payload_held}
use Rattle.array_scan.proofs.Calls.{told_at, told_from, same_held}
use Rattle.array_scan.proofs.NeededRecords.{unlike, alike_only, alike_with, if_true, if_false}
use Rattle.array_scan.proofs.needed.is_copy.Goals as goal

pub returns-then-not-is_alike-clause-copy : goal.returns-then-not-is_alike-clause-copy
returns-then-not-is_alike-clause-copy g c =
    let bay = g.B.Bay.state c.args.bay.now in
    let copy = c.args.copy.now in
    let of = c.args.of.now in
    told_from bay.contents _ (λ held is wanted.
    let p = payload_held c.args.code.now.k held in
    unlike (is_same (item_with p copy) (item_with p of)) c.is_alike.result _ (c.is_alike.ensures (p copy.set.now.carriers.items) (p of.set.now.carriers.items) wanted) c.if-not-is_alike.true)

pub returns-then-not-has_payload-clause-copy : goal.returns-then-not-has_payload-clause-copy
returns-then-not-has_payload-clause-copy g c =
    let bay = g.B.Bay.state c.args.bay.now in
    let copy = c.args.copy.now in
    let of = c.args.of.now in
    told_from bay.contents _ (λ held is wanted.
    let p = payload_held c.args.code.now.k held in
    alike_only (is_same (item_with p copy) (item_with p of)) c.is_alike.result _ (c.is_alike.ensures (p copy.set.now.carriers.items) (p of.set.now.carriers.items) wanted) c.if-not-is_alike.false
    (c.has_payload.ensures (p of.set.now.carriers.items) (payload_with p copy) (payload_with p of) ∙ if_false c.has_payload.result _ c.if-not-has_payload.true))

pub returns-clause-copy : goal.returns-clause-copy
returns-clause-copy g c =
    let bay = g.B.Bay.state c.args.bay.now in
    let copy = c.args.copy.now in
    let of = c.args.of.now in
    told_from bay.contents _ (λ held is wanted.
    let p = payload_held c.args.code.now.k held in
    alike_with (is_same (item_with p copy) (item_with p of)) c.is_alike.result _ _ (c.is_alike.ensures (p copy.set.now.carriers.items) (p of.set.now.carriers.items) wanted) c.if-not-is_alike.false
    (c.eq.ensures ∙ ap₂ bytes_eq (c.as_slice.ensures.value ∙ told_at bay.contents _ held is c.in_ok-one.ensures.payload) (c.as_slice-2.ensures.value ∙ told_at _ _ held (same_held bay (g.B.Bay.state c.read_payload.new.bay) _ c.in_ok-one.ensures.reads ∙ is) c.in_ok-other.ensures.payload) ∙ sym (c.has_payload.ensures (p of.set.now.carriers.items) (payload_with p copy) (payload_with p of) ∙ if_true c.has_payload.result _ c.if-not-has_payload.false)))
