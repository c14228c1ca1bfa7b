use Rattle.std.proofs.Common.{◌≡◌, ℕ, ◌<◌, get_or}
use Rattle.rs_code.specs.Factor.{sum_of, weighted_byte}
use Rattle.rs_code.proofs.combine.combine.Given as goal

abbrev pub invariant-loop-i : goal.invariant-loop-i
invariant-loop-i l = (c : ℕ) → c < l.f → get_or l.out c 0 ≡ sum_of (weighted_byte l.factors l.rows l.f c) l.i
