use Rattle.std.proofs.Common.{◌+◌, List, [], map, ap₂, sym, subst, ◌∙◌}
use Rattle.std.specs.List.{AllByRecursion}
use Rattle.array_model.specs.NeedTests.{needed_among}
use Rattle.array_scan.specs.declared.judge.SetScan.{SetScan}
use Rattle.array_scan.specs.declared.records.ValidRecord.{ValidRecord}
use Rattle.array_scan.specs.Judged.{sets_with}
use Rattle.array_scan.specs.Valid.{items_with, placed_with}
use Rattle.array_scan.specs.Objects.{IsReadable}
use Rattle.array_scan.specs.Scan.{payload_held}
use Rattle.array_scan.proofs.Calls.{told_at, told_from, ok_with}
use Rattle.array_scan.proofs.NamedObjects.{readable_of, needed_by}
use Rattle.array_scan.proofs.needed.needed_of.Goals as goal

pub needed_among-requires : goal.needed_among-requires
needed_among-requires g c =
    let bay = g.B.Bay.state c.args.bay.now in
    let code = c.args.code.now in
    record {
      readable = subst (λ (rs : List ValidRecord). AllByRecursion (IsReadable bay.shape code.k (code.k + code.p)) rs) (sym c.deref-2.ensures.value)
          (readable_of bay.shape code.k (code.k + code.p) c.args.sets.now c.in_ok-records.records.items c.requires.k c.requires.fit c.in_ok-records.ensures.of_sets);
    }

pub returns-clause-needed : goal.returns-clause-needed
returns-clause-needed g c =
    let bay = g.B.Bay.state c.args.bay.now in
    let k = c.args.code.now.k in
    told_from bay.contents _ (λ held is.
    let p = payload_held k held in
    ok_with c.needed_among.result _ _
    (λ needed found.
    needed_by k c.args.sets.now p c.in_ok-records.records.items (map (placed_with p) needed.items) c.requires.k c.in_ok-records.ensures.records
    (found ∙ ap₂ (λ (sets : List SetScan) (records : List ValidRecord). needed_among [] (sets_with p sets) (items_with p records) [] (map (placed_with p) records)) c.deref.ensures.value c.deref-2.ensures.value))
    (told_at bay.contents _ held is c.needed_among.ensures.needed))
