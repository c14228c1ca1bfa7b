use Rattle.std.proofs.Common.{◌≡◌, ◌-◌, ℕ, List, map, drop}
use Rattle.array_model.specs.Sets.{lesser, least_kept}
use Rattle.array_scan.specs.declared.set_read.RecordAt.{RecordAt}
use Rattle.array_scan.specs.Judged.{record_with, noted}
use Rattle.array_scan.proofs.judge.note_cuts.Given as goal

abbrev pub invariant-loop-i : goal.invariant-loop-i
invariant-loop-i l = (payload : RecordAt → List ℕ) (target : ℕ) → noted l.kept target ≡ lesser (least_kept target (map (record_with payload) (drop (l.count - l.i) l.records))) (noted l.fn.kept target)
