use Rattle.std.proofs.Common.{length}
use Rattle.array_scan.proofs.JudgedSets.{JudgedSoFar}
use Rattle.array_scan.proofs.judge.judge.Given as goal

abbrev pub invariant-loop-read : goal.invariant-loop-read
invariant-loop-read l = JudgedSoFar l.k l.fn.sets.items l.sets.items l.judged.items l.kept

abbrev pub decreases-loop-read : goal.decreases-loop-read
decreases-loop-read l = length l.sets.items
