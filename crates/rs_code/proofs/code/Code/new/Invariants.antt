use Rattle.std.proofs.Common.{◌≡◌, ℕ, ◌+◌, ◌<◌, [], length, get_or}
use Rattle.rs_code.specs.Factor.{AreFactors}
use Rattle.rs_code.proofs.code.Code.new.Given as goal

abbrev pub invariant-loop-j : goal.invariant-loop-j
invariant-loop-j l = record {
  whole : length l.factors ≡ 20;
  so_far : (m : ℕ) → m < l.j → AreFactors l.have (l.k + m) (get_or l.factors m []);
}
