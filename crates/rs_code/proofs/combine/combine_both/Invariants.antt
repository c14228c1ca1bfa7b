use Rattle.std.proofs.Common.{◌≡◌, ℕ, ◌<◌, get_or}
use Rattle.rs_code.specs.Factor.{sum_of, weighted_byte}
use Rattle.rs_code.proofs.combine.combine_both.Given as goal

abbrev pub invariant-loop-i : goal.invariant-loop-i
invariant-loop-i l = record {
  first : (c : ℕ) → c < l.f → get_or l.first c 0 ≡ sum_of (weighted_byte l.factors l.rows l.f c) l.i;
  second : (c : ℕ) → c < l.f → get_or l.second c 0 ≡ sum_of (weighted_byte l.others l.rows l.f c) l.i;
}
