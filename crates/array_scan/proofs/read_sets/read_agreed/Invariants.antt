use Rattle.array_scan.specs.SetRead.{array_by}
use Rattle.array_scan.proofs.AgreedLists.{AgreedRead}
use Rattle.array_scan.proofs.read_sets.read_agreed.Given as goal

abbrev pub invariant-loop-i : goal.invariant-loop-i
invariant-loop-i g l = AgreedRead (array_by l.label) (g.B.Bay.state l.fn.bay) (g.B.Bay.state l.bay) l.carriers l.i l.agreed.records.items l.agreed.closed
