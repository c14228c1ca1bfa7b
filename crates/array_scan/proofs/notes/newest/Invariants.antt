use Rattle.std.proofs.Common.{◌-◌, drop}
use Rattle.array_scan.proofs.FoundNotes.{NewestSoFar}
use Rattle.array_scan.proofs.notes.newest.Given as goal

abbrev pub invariant-loop-i : goal.invariant-loop-i
invariant-loop-i l = NewestSoFar l.name (drop (l.count - l.i) l.records) l.found
