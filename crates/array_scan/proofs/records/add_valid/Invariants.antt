use Rattle.array_scan.proofs.ValidRecords.{AddedSoFar}
use Rattle.array_scan.proofs.records.add_valid.Given as goal

abbrev pub invariant-loop-position : goal.invariant-loop-position
invariant-loop-position l = AddedSoFar l.set l.fn.records.items l.records.items l.position
