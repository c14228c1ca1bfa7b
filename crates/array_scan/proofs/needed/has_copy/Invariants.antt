use Rattle.array_scan.proofs.NeededRecords.{NoCopySoFar}
use Rattle.array_scan.proofs.needed.has_copy.Given as goal

abbrev pub invariant-loop-valid : goal.invariant-loop-valid
invariant-loop-valid g l = NoCopySoFar l.code.k (g.B.Bay.state l.fn.bay) (g.B.Bay.state l.bay) l.before l.of l.valid-index
