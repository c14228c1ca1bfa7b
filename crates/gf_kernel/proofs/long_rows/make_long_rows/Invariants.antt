use Rattle.std.proofs.Common.{◌*◌}
use Rattle.gf_kernel.specs.Lanes.{looked_up}
use Rattle.gf_kernel.specs.Rows.{made_byte, IsMadeBelow}
use Rattle.gf_kernel.proofs.long_rows.make_long_rows.Given as goal

abbrev pub invariant-loop-step : goal.invariant-loop-step
invariant-loop-step l = record {
  first : IsMadeBelow (l.step * 32) (made_byte l.keep (looked_up l.one.lower l.one.upper) l.fn.first l.src) l.fn.first l.first;
  second : IsMadeBelow (l.step * 32) (made_byte l.keep (looked_up l.other.lower l.other.upper) l.fn.second l.src) l.fn.second l.second;
}
