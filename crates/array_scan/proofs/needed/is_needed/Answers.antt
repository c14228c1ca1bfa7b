use Rattle.std.proofs.Common.{◌≡◌, ◌+◌, true, false, List, [], map, drop, ap, sym, subst, ◌∙◌}
use Rattle.std.specs.Prelude.{not}
use Rattle.std.specs.List.{list_any}
use Rattle.std.proofs.lemmas.List.{take_rest}
use Rattle.array_model.specs.Sets.{Placed}
use Rattle.array_model.specs.NeedTests.{is_same, is_wanted, is_last_cut, is_needed}
use Rattle.array_scan.specs.declared.records.ValidRecord.{ValidRecord}
use Rattle.array_scan.specs.Judged.{sets_with}
use Rattle.array_scan.specs.Valid.{item_with, items_with, placed_with}
use Rattle.array_scan.specs.Scan.{payload_held}
use Rattle.array_scan.proofs.Calls.{told_at, told_from}
use Rattle.array_scan.proofs.ReadMap.{held_lengths}
use Rattle.array_scan.proofs.NeededRecords.{may_be, by_cut, unwanted, by_copies, same_at}
use Rattle.array_scan.proofs.needed.is_needed.Goals as goal

pub returns-then-is_last_cut-clause-needed : goal.returns-then-is_last_cut-clause-needed
returns-then-is_last_cut-clause-needed g c =
    let bay = g.B.Bay.state c.args.bay.now in
    let records = c.args.records.now in
    let it = c.index-records-i.result in
    told_from bay.contents _ (λ held is v before here alike.
    let p = payload_held c.args.code.now.k held in
    let items = items_with p records in
    let after = map (placed_with p) (drop (c.args.i + 1) records) in
    let last = c.is_last_cut.ensures p (p it.set.now.carriers.items) ∙ ap (λ (l : List ValidRecord). is_last_cut (sets_with p c.args.sets.now) (map (placed_with p) l) (item_with p it)) (take_rest records (c.args.i + 1)) in
    subst (λ (v : ValidRecord). true ≡ is_needed [] (sets_with p c.args.sets.now) items (record { before = before; after = after }) (item_with p v)) (same_at records c.args.i it v c.requires.there c.index-records-i.is here)
    (by_cut (is_wanted [] items (item_with p it)) (list_any (λ copy. is_same copy.item (item_with p it)) before) (is_last_cut (sets_with p c.args.sets.now) after (item_with p it)) (sym last ∙ c.if-is_last_cut.true)))

pub returns-then-not-is_wanted-clause-needed : goal.returns-then-not-is_wanted-clause-needed
returns-then-not-is_wanted-clause-needed g c =
    let bay = g.B.Bay.state c.args.bay.now in
    let records = c.args.records.now in
    let it = c.index-records-i.result in
    told_from bay.contents _ (λ held is v before here alike.
    let p = payload_held c.args.code.now.k held in
    let items = items_with p records in
    let after = map (placed_with p) (drop (c.args.i + 1) records) in
    let last = c.is_last_cut.ensures p (p it.set.now.carriers.items) ∙ ap (λ (l : List ValidRecord). is_last_cut (sets_with p c.args.sets.now) (map (placed_with p) l) (item_with p it)) (take_rest records (c.args.i + 1)) in
    let wanted = c.is_wanted.ensures p (p it.set.now.carriers.items) (held_lengths c.args.code.now.k held c.args.code.now.has_source) in
    subst (λ (v : ValidRecord). false ≡ is_needed [] (sets_with p c.args.sets.now) items (record { before = before; after = after }) (item_with p v)) (same_at records c.args.i it v c.requires.there c.index-records-i.is here)
    (unwanted (is_wanted [] items (item_with p it)) (list_any (λ copy. is_same copy.item (item_with p it)) before) (is_last_cut (sets_with p c.args.sets.now) after (item_with p it)) (sym last ∙ c.if-is_last_cut.false) (sym wanted ∙ c.if-not-is_wanted.true)))

pub returns-clause-needed : goal.returns-clause-needed
returns-clause-needed g c =
    let bay = g.B.Bay.state c.args.bay.now in
    let records = c.args.records.now in
    let it = c.index-records-i.result in
    told_from bay.contents _ (λ held is v before here alike.
    let p = payload_held c.args.code.now.k held in
    let items = items_with p records in
    let after = map (placed_with p) (drop (c.args.i + 1) records) in
    let last = c.is_last_cut.ensures p (p it.set.now.carriers.items) ∙ ap (λ (l : List ValidRecord). is_last_cut (sets_with p c.args.sets.now) (map (placed_with p) l) (item_with p it)) (take_rest records (c.args.i + 1)) in
    let wanted = c.is_wanted.ensures p (p it.set.now.carriers.items) (held_lengths c.args.code.now.k held c.args.code.now.has_source) in
    let w = sym wanted ∙ c.if-not-is_wanted.false in
    let test = λ (copy : Placed). is_same copy.item (item_with p it) in
    subst (λ (v : ValidRecord). not c.in_ok-has_copy.field-0 ≡ is_needed [] (sets_with p c.args.sets.now) items (record { before = before; after = after }) (item_with p v)) (same_at records c.args.i it v c.requires.there c.index-records-i.is here)
    (by_copies (is_wanted [] items (item_with p it)) (list_any test before) (is_last_cut (sets_with p c.args.sets.now) after (item_with p it)) _ (sym last ∙ c.if-is_last_cut.false) w
    (told_at bay.contents _ held is c.in_ok-has_copy.ensures.copy (may_be items (item_with p it) w) ∙ sym (alike test))))
