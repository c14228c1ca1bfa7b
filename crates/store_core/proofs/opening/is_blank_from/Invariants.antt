use Rattle.std.proofs.Common.{ℕ, Ok, IfSome}
use Rattle.zone_bay.specs.declared.failed.Failed.{Failed}
use Rattle.zone_bay.specs.OneDevice.{ReadsOn}
use Rattle.store_core.specs.Opening.{IsBlankFrom}
use Rattle.store_core.proofs.opening.is_blank_from.Given as goal

abbrev pub invariant-loop-zone : goal.invariant-loop-zone
invariant-loop-zone g l = record {
  reads : ReadsOn {T = ℕ} {E = Failed} l.drive (g.B.Bay.state l.initial.bay) (g.B.Bay.state l.bay) (Ok 0);
  blank : IfSome (g.B.Bay.state l.initial.bay).contents (λ held. IsBlankFrom l.first l.zone (held l.drive));
}
