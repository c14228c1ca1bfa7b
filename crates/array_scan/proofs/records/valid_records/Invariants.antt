use Rattle.array_scan.proofs.ValidRecords.{ValidSoFar}
use Rattle.array_scan.proofs.records.valid_records.Given as goal

abbrev pub invariant-loop-set : goal.invariant-loop-set
invariant-loop-set l = ValidSoFar l.sets.list.items l.set-index l.records.items
