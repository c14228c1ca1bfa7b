use Rattle.smore_base.specs.Told.{Told}
use Rattle.store_core.specs.Format.{AreEmptied, KeepsFirm}
use Rattle.store_core.proofs.FormatSteps.{AreAnswered}
use Rattle.store_core.proofs.format.empty_device.Given as goal

abbrev pub invariant-loop-zone : goal.invariant-loop-zone
invariant-loop-zone g l =
    AreAnswered (g.B.Bay.state l.initial.bay) (g.B.Bay.state l.bay)
    × Told (g.B.Bay.state l.initial.bay).contents (g.B.Bay.state l.bay).contents (AreEmptied l.device l.zone)
    × KeepsFirm l.device (g.B.Bay.state l.initial.bay) (g.B.Bay.state l.bay)
