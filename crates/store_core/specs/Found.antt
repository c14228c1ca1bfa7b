-- What an opening finds of a bay.
use Rattle.std.specs.Prelude.{◌≡◌, ℕ, ◌+◌, ◌*◌, ◌<◌, ◌==◌, not, List, length, Some, Result, IsErrAnd}
use Rattle.smore_base.specs.declared.limits.TheConstants.{BLOCK_BYTES}
use Rattle.smore_base.specs.Geometry.{IsWithinLimits}
use Rattle.zone_bay.specs.Contents.{Shape, Contents}
use Rattle.marker_format.specs.declared.label.Label.{Label}
use Rattle.marker_format.specs.Zone.{Array, end_from, whole_records}
use Rattle.array_model.specs.Drives.{label_on}
use Rattle.array_model.specs.Kept.{label_of}
use Rattle.store_core.specs.declared.store.TheConstants.{DRIVE, ZONE}
use Rattle.store_core.specs.declared.first_set.TheConstants.{FIRST_BYTES}
use Rattle.store_core.specs.declared.opening.Fault.{Fault}
use Rattle.store_core.specs.declared.opening.Fault.TheVariants.{Lost}
use Rattle.store_core.specs.declared.opening.Found.{Found}
use Rattle.store_core.specs.declared.opening.Found.TheVariants.{Begins, Holds}
use Rattle.store_core.specs.declared.opening.Opening.{Opening}
use Rattle.store_core.specs.declared.zone_records.ZoneRecords.{ZoneRecords}
use Rattle.marker_format.specs.Fragment.{blocks_of}
use Rattle.zone_bay.specs.Contents.{IsOfBay}
use Rattle.store_core.specs.ZoneRecords.{HasRead}
use Rattle.store_core.specs.Opening.{array_by, BeginsSet, HoldsSet, IsAlone}

-- the answer says that a call on a drive failed
abbrev pub IsLost : {T : Type 0} → Result T Fault → Type 0
IsLost result = IsErrAnd result (λ fault. fault ≡ Lost)

-- ---- also where the bay doesn't tell what it holds

-- the label is of this bay, and of an array of k 1 and p 1
pub record IsOne (shape : Shape) (l : Label) : Type 0 where
  pub limits : IsWithinLimits l.geometry
  pub of_bay : IsOfBay l.geometry shape
  pub one_source : l.geometry.k ≡ 1
  pub one_parity : l.geometry.p ≡ 1

-- some records were read, of a zone of its array
pub record FitsZone (l : Label) (records : ZoneRecords) : Type 0 where
  pub has_blocks : records.blocks ≡ l.geometry.blocks
  pub has_shard : records.shard ≡ l.geometry.shard
  pub some : 0 < records.zone.records

abbrev pub FitsFound : Label → Found → Type 0
FitsFound l (Begins written) = written < FIRST_BYTES
FitsFound l (Holds records) = FitsZone l records

-- what was found fits the bay
pub record Fits (shape : Shape) (opening : Opening) : Type 0 where
  pub one : IsOne shape opening.label
  pub found : FitsFound opening.label opening.found
  pub room : length opening.buffer.items ≡ BLOCK_BYTES * (blocks_of opening.label.geometry.shard + 2)

-- ---- where it tells that

-- drive 0 has the label of the array, and no other set zone is written
pub record IsLabelled (shape : Shape) (held : Contents) (array : Array) : Type 0 where
  pub label : label_on shape held DRIVE ≡ Some (label_of array DRIVE)
  pub alone : IsAlone shape held

-- the records of a zone with these bytes, which holds a set's, were read
pub record IsRead (array : Array) (bytes : List ℕ) (records : ZoneRecords) : Type 0 where
  pub holds : HoldsSet array bytes
  pub read : HasRead records (whole_records array bytes)
  pub torn : records.zone.is_torn ≡ not (BLOCK_BYTES * end_from 0 (whole_records array bytes) == length bytes)

-- a zone with these bytes was found to be so
abbrev pub IsFound : Array → List ℕ → Found → Type 0
IsFound array bytes (Begins written) = BeginsSet array bytes × (length bytes ≡ written)
IsFound array bytes (Holds records) = IsRead array bytes records

-- this can be opened
pub record IsOpening (shape : Shape) (held : Contents) (opening : Opening) : Type 0 where
  pub labelled : IsLabelled shape held (array_by opening.label)
  pub found : IsFound (array_by opening.label) (held DRIVE ZONE) opening.found
