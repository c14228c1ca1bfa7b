use Rattle.std.proofs.Common.{◌*◌}
use Rattle.gf_kernel.specs.Lanes.{looked_up}
use Rattle.gf_kernel.specs.Rows.{made_byte, IsMadeBelow}
use Rattle.gf_kernel.proofs.long_rows.make_long_row.Given as goal

abbrev pub invariant-loop-step : goal.invariant-loop-step
invariant-loop-step l = IsMadeBelow (l.step * 32) (made_byte l.keep (looked_up l.halves.lower l.halves.upper) l.fn.out l.src) l.fn.out l.out
