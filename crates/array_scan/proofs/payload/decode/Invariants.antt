use Rattle.std.proofs.Common.{◌+◌}
use Rattle.array_scan.proofs.DecodedPayloads.{DecodedSoFar}
use Rattle.array_scan.proofs.payload.decode.Given as goal

abbrev pub invariant-loop-index : goal.invariant-loop-index
invariant-loop-index l = DecodedSoFar l.code.k (l.code.k + l.code.p) l.f l.given.have.items l.given.fragments.items l.payload.items l.index
