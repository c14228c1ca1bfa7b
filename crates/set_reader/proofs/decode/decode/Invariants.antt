use Rattle.std.proofs.Common.{◌+◌, ◌<◌, ℕ}
use Rattle.rs_code.specs.Fragments.{GivesFragment, piece}
use Rattle.set_reader.proofs.decode.decode.Given as goal

abbrev pub invariant-loop-index : goal.invariant-loop-index
invariant-loop-index l = (i : ℕ) → i < l.index → GivesFragment l.code.k (l.code.k + l.code.p) l.f l.have l.rows i (piece l.out l.f i)
