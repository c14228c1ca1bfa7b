use Rattle.array_scan.proofs.NeededRecords.{FoundSoFar}
use Rattle.array_scan.proofs.needed.needed_among.Given as goal

abbrev pub invariant-loop-i : goal.invariant-loop-i
invariant-loop-i g l = FoundSoFar l.code.k (g.B.Bay.state l.fn.bay) (g.B.Bay.state l.bay) l.sets l.records l.i l.needed.items
