use Rattle.std.proofs.Common.{◌≡◌, ℕ, List, map, drop}
use Rattle.std.specs.List.{list_any}
use Rattle.array_model.specs.Record.{is_ready}
use Rattle.array_scan.specs.declared.set_read.RecordAt.{RecordAt}
use Rattle.array_scan.specs.Judged.{record_with}
use Rattle.array_scan.proofs.judge.has_ready.Given as goal

abbrev pub invariant-loop-record : goal.invariant-loop-record
invariant-loop-record l = (payload : RecordAt → List ℕ) → list_any is_ready (map (record_with payload) l.records) ≡ list_any is_ready (map (record_with payload) (drop l.record-index l.records))
