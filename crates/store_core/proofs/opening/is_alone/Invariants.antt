use Rattle.std.proofs.Common.{IfSome}
use Rattle.store_core.specs.DeviceCalls.{ReadsAny}
use Rattle.store_core.specs.Opening.{IsBlankFrom}
use Rattle.store_core.proofs.BlankZones.{AreBlank}
use Rattle.store_core.proofs.opening.is_alone.Given as goal

abbrev pub invariant-loop-drive : goal.invariant-loop-drive
invariant-loop-drive g l = record {
  reads : ReadsAny ⊥ (g.B.Bay.state l.fn.bay) (g.B.Bay.state l.bay);
  own : IfSome (g.B.Bay.state l.fn.bay).contents (λ held. IsBlankFrom 3 (g.B.Bay.state l.fn.bay).shape.zones (held 0));
  others : IfSome (g.B.Bay.state l.fn.bay).contents (λ held. AreBlank l.drive (g.B.Bay.state l.fn.bay).shape.zones held);
}
