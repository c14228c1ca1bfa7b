use Rattle.std.proofs.Common.{◌≡◌, ℕ, ◌<◌, length, get_or}
use Rattle.rs_code.specs.Factor.{IsFactor}
use Rattle.rs_code.proofs.factor.factors_of.Given as goal

abbrev pub invariant-loop-i : goal.invariant-loop-i
invariant-loop-i l = record {
  whole : length l.factors ≡ 20;
  so_far : (k : ℕ) → k < l.i → IsFactor l.points (get_or l.points k 0) l.want (get_or l.factors k 0);
}
