use Rattle.std.proofs.Common.{ℕ, ◌+◌, ◌*◌, ◌<◌}
use Rattle.rs_code.specs.Fragments.{piece, GivesFragment, sources}
use Rattle.rs_code.proofs.code.Code.parities_into.Given as goal

abbrev pub invariant-loop-pair : goal.invariant-loop-pair
invariant-loop-pair l =
    (i : ℕ) → i < 2 * l.pair → GivesFragment l.self.k (l.self.k + l.self.p) l.f (sources l.self.k) l.shards (l.self.k + i) (piece l.out l.f i)
