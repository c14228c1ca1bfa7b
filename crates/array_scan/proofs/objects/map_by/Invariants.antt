use Rattle.std.proofs.Common.{◌-◌, drop}
use Rattle.array_model.specs.Map.{map_by}
use Rattle.array_scan.specs.Judged.{Payloads}
use Rattle.array_scan.specs.Valid.{items_with}
use Rattle.array_scan.specs.Objects.{HasLengths, Tells}
use Rattle.array_scan.proofs.objects.map_by.Given as goal

abbrev pub invariant-loop-i : goal.invariant-loop-i
invariant-loop-i l = (payload : Payloads) → HasLengths payload → Tells l.objects (map_by (items_with payload l.records) (items_with payload (drop (l.count - l.i) l.records)))
