use Rattle.std.proofs.Common.{◌<◌, ℕ, get_or}
use Rattle.set_writer.proofs.open.check_cuts.Given as goal

abbrev pub invariant-loop-cut : goal.invariant-loop-cut
invariant-loop-cut l = (i : ℕ) (d : ℕ × ℕ) → i < l.cut-index → (get_or l.cuts i d).1 < 65536
