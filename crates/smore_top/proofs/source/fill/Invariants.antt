use Rattle.std.proofs.Common.{◌≡◌, ℕ, ◌-◌, ◌≤◌, ◌++◌, length, take, Ok}
use Rattle.smore_base.specs.Told.{Told}
use Rattle.zone_bay.specs.declared.failed.Failed.{Failed}
use Rattle.zone_bay.specs.Outside.{HasCause}
use Rattle.smore_top.proofs.source.fill.Given as goal

abbrev pub invariant-loop-filled : goal.invariant-loop-filled
invariant-loop-filled g l = record {
  within : l.filled ≤ length l.out;
  taken : Told (g.S.Source.left l.fn.source) (g.S.Source.left l.source) (λ before after. before ≡ take l.filled l.out ++ after);
  cause : HasCause {T = ℕ} {E = Failed} (Ok 0) (g.S.Source.faults l.fn.source) (g.S.Source.faults l.source);
}

abbrev pub decreases-loop-filled : goal.decreases-loop-filled
decreases-loop-filled g l = length l.out - l.filled
