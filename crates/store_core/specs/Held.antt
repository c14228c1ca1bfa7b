-- How a core stands to what its bay holds.
use Rattle.std.specs.Prelude.{◌≡◌, ℕ, ◌*◌, ◌≤◌, Bool, true, false, List, length, take, Some}
use Rattle.smore_base.specs.declared.limits.TheConstants.{BLOCK_BYTES}
use Rattle.zone_bay.specs.Contents.{Shape, Contents}
use Rattle.marker_format.specs.Zone.{Array, end_from, whole_records}
use Rattle.array_model.specs.Drives.{label_on}
use Rattle.array_model.specs.Kept.{label_of}
use Rattle.store_core.specs.declared.store.TheConstants.{DRIVE, ZONE}
use Rattle.store_core.specs.declared.zone.OpenZone.{OpenZone}
use Rattle.store_core.specs.declared.index.Index.{Index}
use Rattle.store_core.specs.Said.{Says}
use Rattle.store_core.specs.Zone.{set_of, index_of, next_stamp}
use Rattle.store_core.specs.Opening.{HoldsSet, IsOpenZone, IsAlone}

-- the bytes of the records that the core has appended or read
abbrev pub used : OpenZone → Contents → List ℕ
used zone held = take (BLOCK_BYTES * zone.blocks) (held DRIVE ZONE)

-- The bay holds the records that the core stands behind, and its index has what they say.
pub record IsHeld (array : Array) (zone : OpenZone) (stamp : ℕ) (index : Index) (shape : Shape) (held : Contents) : Type 0 where
  pub label : label_on shape held DRIVE ≡ Some (label_of array DRIVE)
  pub alone : IsAlone shape held
  pub long : BLOCK_BYTES * zone.blocks ≤ length (held DRIVE ZONE)
  pub usable : IsOpenZone array (used zone held)
  pub set : zone.set ≡ set_of (whole_records array (used zone held))
  pub place : zone.index ≡ index_of (whole_records array (used zone held))
  pub records : zone.records ≡ length (whole_records array (used zone held))
  pub later : next_stamp (whole_records array (used zone held)) ≤ stamp
  pub says : Says index (whole_records array (used zone held))

-- Nothing stands behind the core's records, or where they are torn, no whole record.
pub record IsAll (array : Array) (zone : OpenZone) (held : Contents) : Type 0 where
  pub whole : zone.is_torn ≡ false → length (held DRIVE ZONE) ≡ BLOCK_BYTES * zone.blocks
  pub torn : zone.is_torn ≡ true → HoldsSet array (held DRIVE ZONE) × (end_from 0 (whole_records array (held DRIVE ZONE)) ≡ zone.blocks)

-- So it is while drive 0 isn't lost.
abbrev pub IsFull : Array → Bool → OpenZone → Contents → Type 0
IsFull array is_lost zone held = is_lost ≡ false → IsAll array zone held
