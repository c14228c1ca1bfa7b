use Rattle.std.proofs.Common.{◌≡◌, List, map, sym, subst}
use Rattle.array_model.specs.Sets.{placed}
use Rattle.array_scan.specs.declared.records.ValidRecord.{ValidRecord}
use Rattle.array_scan.specs.Judged.{Payloads, valid_with}
use Rattle.array_scan.specs.Valid.{placed_with}
use Rattle.array_scan.proofs.Calls.{ok_with}
use Rattle.array_scan.proofs.ReadMap.{scan_tells}
use Rattle.array_scan.proofs.answers.Scan.map.Goals as goal

pub returns : goal.returns
returns c = ok_with c.map_by.result _ _
    (λ objects told shape held away scan.
    scan_tells shape held away c.args.self.now scan c.deref.result.now
    (subst (λ (l : List ValidRecord). (payload : Payloads) → map (placed_with payload) l ≡ placed (valid_with payload c.args.self.now.sets.list.items)) (sym c.deref.ensures.value) c.in_ok-records.ensures.records)
    objects told)
    c.map_by.ensures
