use Rattle.std.proofs.Common.{◌≡◌, List, map, ap, sym, subst, ◌∙◌}
use Rattle.std.specs.List.{AllByRecursion}
use Rattle.std.specs.Option.{option_copied}
use Rattle.array_model.specs.Sets.{placed}
use Rattle.array_model.specs.Map.{value_of}
use Rattle.array_scan.specs.declared.records.ValidRecord.{ValidRecord}
use Rattle.array_scan.specs.Judged.{Payloads, valid_with}
use Rattle.array_scan.specs.Valid.{placed_with, items_with, IsOfStanding}
use Rattle.array_scan.specs.Scan.{payload_held}
use Rattle.array_scan.proofs.Calls.{told_at, told_from, ok_with}
use Rattle.array_scan.proofs.NamedObjects.{readable, readable_by, named_object, no_object}
use Rattle.array_scan.proofs.answers.Scan.object.Goals as goal

pub returns-in_default-clause-object : goal.returns-in_default-clause-object
returns-in_default-clause-object g c =
    let bay = g.B.Bay.state c.args.bay.now in
    told_from bay.contents _ (λ held is away scan. no_object bay.shape held away c.args.self.now scan c.args.name.now (ap option_copied (sym c.in_default.is) ∙ c.label.ensures))

pub read_object-requires : goal.read_object-requires
read_object-requires g c =
    let bay = g.B.Bay.state c.args.bay.now in
    let l = c.in-Some.label.now in
    let code = c.new-code.result in
    record {
      readable = readable_by bay.shape l code.k code.p c.deref.result.now c.new-code.ensures.k c.new-code.ensures.p
          (readable bay.shape c.args.self.now l c.deref.result.now c.requires (ap option_copied (sym c.in-Some.is) ∙ c.label.ensures)
          (subst (λ (rs : List ValidRecord). AllByRecursion (IsOfStanding c.args.self.now.sets.list.items) rs) (sym c.deref.ensures.value) c.in_ok-records.ensures.of_sets));
    }

pub returns-clause-object : goal.returns-clause-object
returns-clause-object g c =
    let bay = g.B.Bay.state c.args.bay.now in
    let l = c.in-Some.label.now in
    told_from bay.contents _ (λ held is.
    ok_with c.read_object.result _ _
    (λ object read away scan.
    named_object bay.shape held away c.args.self.now scan c.args.name.now l (ap option_copied (sym c.in-Some.is) ∙ c.label.ensures) c.deref.result.now
    (subst (λ (rs : List ValidRecord). (payload : Payloads) → map (placed_with payload) rs ≡ placed (valid_with payload c.args.self.now.sets.list.items)) (sym c.deref.ensures.value) c.in_ok-records.ensures.records)
    _ (read ∙ ap (λ k. value_of (items_with (payload_held k held) c.deref.result.now) c.args.name.now) c.new-code.ensures.k))
    (told_at bay.contents _ held is c.read_object.ensures.object))
