use Rattle.std.proofs.Common.{◌≡◌, drop}
use Rattle.std.specs.List.{list_any}
use Rattle.array_model.specs.NeedTests.{names_upload}
use Rattle.array_scan.specs.Judged.{Payloads}
use Rattle.array_scan.specs.Valid.{items_with}
use Rattle.array_scan.proofs.need.is_upload_named.Given as goal

abbrev pub invariant-loop-valid : goal.invariant-loop-valid
invariant-loop-valid l = (payload : Payloads) → let items = items_with payload l.records in list_any (names_upload items l.upload) items ≡ list_any (names_upload items l.upload) (items_with payload (drop l.valid-index l.records))
