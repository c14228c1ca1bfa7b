-- Which bays can be opened.
use Rattle.std.specs.Prelude.{◌≡◌, ◌≢◌, ◌⊎◌, ℕ, ◌+◌, ◌*◌, ◌<◌, ◌≤◌, true, false, List, [], length, take, Some}
use Rattle.std.specs.List.{list_any}
use Rattle.smore_base.specs.declared.limits.TheConstants.{BLOCK_BYTES}
use Rattle.zone_bay.specs.Contents.{Shape, Contents}
use Rattle.marker_format.specs.declared.kind.Kind.TheVariants.{Ready, Digest}
use Rattle.marker_format.specs.declared.label.Label.{Label}
use Rattle.marker_format.specs.Zone.{Array, has_kind, end_from, is_rebuilt, whole_records}
use Rattle.array_model.specs.Drives.{label_on}
use Rattle.array_model.specs.Kept.{label_of}
use Rattle.store_core.specs.declared.store.TheConstants.{DRIVE, ZONE, FIRST_SET_ZONE}
use Rattle.store_core.specs.Zone.{opening_bytes}

-- the array that a label is of
abbrev pub array_by : Label → Array
array_by l = record { geometry = l.geometry; id = l.array }

-- The bytes are a first part of the head and the ready record that a set begins with, and not all of them: those of a blank
-- zone, or of one in which an opening was stopped.
pub record BeginsSet (array : Array) (bytes : List ℕ) : Type 0 where
  pub part : bytes ≡ take (length bytes) (opening_bytes array)
  pub less : length bytes < length (opening_bytes array)

-- The bytes of a zone with a set's records: a ready record is among the whole ones, and none of a digest. A part of a record may
-- stand behind them, where an append was stopped. It is no rebuilt zone.
pub record HoldsSet (array : Array) (bytes : List ℕ) : Type 0 where
  pub ready : list_any (has_kind Ready) (whole_records array bytes) ≡ true
  pub no_digest : list_any (has_kind Digest) (whole_records array bytes) ≡ false
  pub first : is_rebuilt (whole_records array bytes) ≡ false

-- The bytes of a zone to which records can be added: whole records and nothing behind them, among them a ready record and
-- none of a digest.
pub record IsOpenZone (array : Array) (bytes : List ℕ) : Type 0 where
  pub full : BLOCK_BYTES * end_from 0 (whole_records array bytes) ≡ length bytes
  pub ready : list_any (has_kind Ready) (whole_records array bytes) ≡ true
  pub no_digest : list_any (has_kind Digest) (whole_records array bytes) ≡ false

-- from this zone on none of a device is written
abbrev pub IsBlankFrom : (first zones : ℕ) → (ℕ → List ℕ) → Type 0
IsBlankFrom first zones held = (z : ℕ) → first ≤ z → z < zones → held z ≡ []

-- no other set zone of a drive is written: the last device is the flash, and no drive
abbrev pub IsAlone : Shape → Contents → Type 0
IsAlone shape held = (d z : ℕ) → d + 1 < shape.devices → FIRST_SET_ZONE ≤ z → z < shape.zones → (d ≢ DRIVE) ⊎ (z ≢ ZONE) → held d z ≡ []

-- Drive 0 has a label of this bay, of this array, which has k 1 and p 1. Its zone 2 begins a set or has a set's records, and no
-- other set zone is written.
pub record CanOpen (shape : Shape) (held : Contents) (array : Array) : Type 0 where
  pub label : label_on shape held DRIVE ≡ Some (label_of array DRIVE)
  pub one_source : array.geometry.k ≡ 1
  pub one_parity : array.geometry.p ≡ 1
  pub zone : BeginsSet array (held DRIVE ZONE) ⊎ HoldsSet array (held DRIVE ZONE)
  pub alone : IsAlone shape held

-- the bay is none that can be opened
abbrev pub CanNotOpen : Shape → Contents → Type 0
CanNotOpen shape held = (array : Array) → CanOpen shape held array → ⊥
