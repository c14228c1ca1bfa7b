use Rattle.smore_base.specs.Told.{Told}
use Rattle.std.proofs.Common.{◌≡◌, ℕ, ◌<◌, length}
use Rattle.store_core.specs.Format.{AreFormatted, IsFirmOn}
use Rattle.store_core.proofs.FormatSteps.{AreAnswered}
use Rattle.store_core.proofs.store.Core.format.Given as goal

abbrev pub invariant-loop-device : goal.invariant-loop-device
invariant-loop-device g l =
    AreAnswered (g.B.Bay.state l.initial.bay) (g.B.Bay.state l.bay)
    × Told (g.B.Bay.state l.initial.bay).contents (g.B.Bay.state l.bay).contents (λ _ held. AreFormatted l.device (g.B.Bay.state l.initial.bay).shape.zones (record { geometry = l.geometry; id = l.array }) held)
    × ((d : ℕ) → d < l.device → IsFirmOn d (g.B.Bay.state l.bay))
    × (length l.array ≡ 16)
