use Rattle.std.proofs.Common.{◌≡◌, drop}
use Rattle.std.specs.List.{list_any}
use Rattle.array_model.specs.NeedTests.{completes}
use Rattle.array_scan.specs.Judged.{Payloads}
use Rattle.array_scan.specs.Valid.{items_with}
use Rattle.array_scan.specs.Objects.{HasLengths}
use Rattle.array_scan.proofs.snapshots.is_complete.Given as goal

abbrev pub invariant-loop-valid : goal.invariant-loop-valid
invariant-loop-valid l = (payload : Payloads) → HasLengths payload → let items = items_with payload l.records in list_any (completes items l.stamp) items ≡ list_any (completes items l.stamp) (items_with payload (drop l.valid-index l.records))
