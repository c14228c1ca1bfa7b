-- What formatting makes of the devices.
use Rattle.std.specs.Prelude.{◌≡◌, ◌≢◌, ◌⊎◌, ℕ, ◌<◌, ◌≤◌, List, [], length, IfSome, IsSome}
use Rattle.std.specs.FinMap as finmap
use Rattle.zone_bay.specs.Contents.{Contents}
use Rattle.zone_bay.specs.Bay.{BayState}
use Rattle.marker_format.specs.Block.{label_block}
use Rattle.marker_format.specs.Zone.{Array}
use Rattle.array_model.specs.Kept.{label_of}
use Rattle.store_core.specs.Stopped.{Keeps}

-- one zone holds these bytes now, and the others what they held
pub record ZoneHolds (device zone : ℕ) (bytes : List ℕ) (before after : Contents) : Type 0 where
  pub bytes_now : after device zone ≡ bytes
  pub others : (d z : ℕ) → (d ≢ device) ⊎ (z ≢ zone) → after d z ≡ before d z

-- the first zones of a device are empty, so many of them, and the other devices hold what they held
pub record AreEmptied (device count : ℕ) (before after : Contents) : Type 0 where
  pub empty : (z : ℕ) → z < count → after device z ≡ []
  pub others : (d z : ℕ) → d ≢ device → after d z ≡ before d z

-- a device of so many zones holds this block alone, in its first zone
pub record HoldsOnly (zones : ℕ) (block : List ℕ) (held : ℕ → List ℕ) : Type 0 where
  pub first : held 0 ≡ block
  pub rest : (z : ℕ) → 1 ≤ z → z < zones → held z ≡ []

-- a device holds this block alone now, and the other devices what they held
pub record DeviceHolds (device zones : ℕ) (block : List ℕ) (before after : Contents) : Type 0 where
  pub only : HoldsOnly zones block (after device)
  pub others : (d z : ℕ) → d ≢ device → after d z ≡ before d z

-- the first devices, so many of them, hold their labels alone
abbrev pub AreFormatted : ℕ → ℕ → Array → Contents → Type 0
AreFormatted count zones array held = (d : ℕ) → d < count → HoldsOnly zones (label_block (label_of array d)) (held d)

-- all that the device holds is firm
abbrev pub IsFirmOn : ℕ → BayState → Type 0
IsFirmOn device bay = IfSome bay.contents (λ held. (z : ℕ) → bay.firm device z ≡ length (held device z))

-- each other device that was so still is
abbrev pub KeepsFirm : ℕ → BayState → BayState → Type 0
KeepsFirm device old new = (d : ℕ) → d ≢ device → IsFirmOn d old → IsFirmOn d new

-- Where such an array can be opened, a crash now leaves what recovers to no object.
abbrev pub KeepsNone : Array → BayState → Type 0
KeepsNone array bay = array.geometry.k ≡ 1 → array.geometry.p ≡ 1 → IsSome bay.contents → Keeps array finmap.empty bay
