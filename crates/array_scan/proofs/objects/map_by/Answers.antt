use Rattle.std.proofs.Common.{◌-◌, List, [], length, drop, get_or, sym, ap, subst, refl, arith}
use Rattle.std.proofs.lemmas.List.{drop_all}
use Rattle.array_model.specs.Map.{map_by}
use Rattle.array_scan.specs.declared.records.ValidRecord.{ValidRecord}
use Rattle.array_scan.specs.Valid.{items_with}
use Rattle.array_scan.specs.Objects.{Tells}
use Rattle.array_scan.proofs.JudgedSets.{from_last}
use Rattle.array_scan.proofs.ToldObjects.{told_none, told_other}
use Rattle.array_scan.proofs.objects.map_by.Goals as goal

pub loop-i-init : goal.loop-i-init
loop-i-init c = λ payload lengths.
    let records = c.args.records.now in
    told_other c.new-objects.result (map_by (items_with payload records) (items_with payload [])) _ (ap (λ l. map_by (items_with payload records) (items_with payload l)) (drop_all (length records - 0) records (omega arith))) (told_none c.new-objects.result c.new-objects.ensures.empty)

pub loop-i-preserved : goal.loop-i-preserved
loop-i-preserved c = λ payload lengths.
    let records = c.args.records.now in
    let i = c.loop-i.i in
    let v = get_or records (length records - 1 - i) c.index-records-count.result in
    subst (λ (l : List ValidRecord). Tells c.tell.new.objects (map_by (items_with payload records) (items_with payload l))) (sym (from_last records i v c.index-records-count.result (omega (arith, c.loop-i-test.true)) refl))
    (c.in_ok-tell.ensures payload (payload v.set.now.carriers.items) (items_with payload (drop (length records - i) records)) lengths (c.loop-i.invariant payload lengths))
