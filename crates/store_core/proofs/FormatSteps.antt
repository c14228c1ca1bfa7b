-- Formatting goes over the zones of a device, and over the devices.
use Rattle.std.proofs.Common.{◌≡◌, ℕ, ◌≤◌, ◌⊎◌, inl, inr, [], length, Option, Some, None, sym, arith}
use Rattle.std.specs.Prelude.{⊤, IfSome}
use Rattle.std.proofs.lemmas.Bool.{cases_lt}
use Rattle.smore_base.specs.Geometry.{IsWithinLimits}
use Rattle.smore_base.specs.Told.{Told}
use Rattle.zone_bay.specs.Contents.{Shape, Contents}
use Rattle.zone_bay.specs.Bay.{BayState}
use Rattle.zone_bay.specs.Stretch.{GoesOn}
use Rattle.marker_format.specs.Zone.{Array}
use Rattle.array_model.specs.Kept.{IsFormatted}
use Rattle.zone_bay.specs.Contents.{IsOfBay}
use Rattle.store_core.specs.Format.{AreFormatted}

-- calls that were all answered
abbrev pub AreAnswered : BayState → BayState → Type 0
AreAnswered old new = GoesOn old new (λ _ _. ⊤) (λ _ _. ⊥)

-- once all devices hold their labels alone, the array is a new one: nothing is held outside the devices and their zones
pub formatted : (array : Array) (shape : Shape) (old new : Option Contents) (count : ℕ) → IsWithinLimits array.geometry → length array.id ≡ 16 → IsOfBay array.geometry shape → shape.devices ≤ count
    → IfSome new (λ held. (d z : ℕ) → (shape.devices ≤ d) ⊎ (shape.zones ≤ z) → held d z ≡ [])
    → Told old new (λ _ held. AreFormatted count shape.zones array held) → Told old new (λ _ held. IsFormatted array shape held)
formatted array shape None None count within long shaped all inside made = tt
formatted array shape None (Some held) count within long shaped all inside made = absurd made
formatted array shape (Some was) None count within long shaped all inside made = absurd made
formatted array shape (Some was) (Some held) count within long shaped all inside made = record {
  fits = record { within = within; id = long; devices = shaped.devices; zones = shaped.zones; blocks = shaped.blocks };
  label = λ device below. (made device (omega (arith, all))).first;
  nothing = λ device zone behind. elim (cases_lt device shape.devices) [
    | inl below ↦ elim (cases_lt zone shape.zones) [
      | inl in_it ↦ (made device (omega (arith, all))).rest zone behind in_it
      | inr beyond ↦ inside device zone (inr beyond)
    ]
    | inr beyond ↦ inside device zone (inl beyond)
  ];
}
