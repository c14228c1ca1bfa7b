use Rattle.array_scan.proofs.ReadPayloads.{FragmentsRead}
use Rattle.array_scan.proofs.payload.read_fragments.Given as goal

abbrev pub invariant-loop-carrier : goal.invariant-loop-carrier
invariant-loop-carrier g l = FragmentsRead l.at l.f l.carriers (g.B.Bay.state l.fn.bay) (g.B.Bay.state l.bay) l.given.have.items l.given.fragments.items l.carrier-index
