use Rattle.array_scan.specs.SetRead.{place_of}
use Rattle.array_scan.proofs.ReadPayloads.{BlocksRead}
use Rattle.array_scan.proofs.payload.add_fragment.Given as goal

abbrev pub invariant-loop-i : goal.invariant-loop-i
invariant-loop-i g l = BlocksRead (place_of l.fn.place) l.at.block (g.B.Bay.state l.fn.bay) (g.B.Bay.state l.bay) l.fn.out.items l.out.items l.i
