use Rattle.std.proofs.Common.{◌≡◌, ◌+◌, ◌≤◌, drop, count_by, is_some}
use Rattle.array_model.specs.Record.{note_stamp}
use Rattle.array_scan.specs.Judged.{Payloads}
use Rattle.array_scan.specs.Valid.{items_with}
use Rattle.array_scan.proofs.need.count_notes.Given as goal

abbrev pub invariant-loop-valid : goal.invariant-loop-valid
invariant-loop-valid l = (l.count ≤ l.valid-index) × ((payload : Payloads) → count_by (λ item. is_some (note_stamp l.name item)) (items_with payload l.records) ≡ l.count + count_by (λ item. is_some (note_stamp l.name item)) (items_with payload (drop l.valid-index l.records)))
