-- What follows from the definitions of the formats.
use Rattle.std.specs.Prelude.{◌≡◌, ℕ, ◌-◌, ◌*◌, ◌≤◌, ◌↔◌, true, false, List, [], ◌∷◌, ◌++◌, length, take, Some, None}
use Rattle.std.specs.List.{last_or}
use Rattle.smore_base.specs.declared.limits.TheConstants.{BLOCK_BYTES}
use Rattle.marker_format.specs.declared.marker.Marker.{Marker}
use Rattle.marker_format.specs.declared.foot.Foot.{Foot}
use Rattle.marker_format.specs.declared.label.Label.{Label}
use Rattle.marker_format.specs.Marker as marker
use Rattle.marker_format.specs.Foot as foot
use Rattle.marker_format.specs.Label as label
use Rattle.marker_format.specs.Block.{marker_block, marker_in_block}
use Rattle.marker_format.specs.Zone.{Array, blocks_of, end_from, belongs, may_stand, Begin, begun, IsWhole, IsPrefix, Placed, placed_records, is_rebuilt, trailer_follows, whole_records}

-- Two markers of the same bytes are one.
abbrev pub MarkersAreApart : Type 0
MarkersAreApart = (a b : Marker) → marker.IsMarker a → marker.IsMarker b → marker.spelling_of a ≡ marker.spelling_of b → a ≡ b

-- and two feet
abbrev pub FeetAreApart : Type 0
FeetAreApart = (a b : Foot) → foot.IsFoot a → foot.IsFoot b → foot.spelling_of a ≡ foot.spelling_of b → a ≡ b

-- and two labels
abbrev pub LabelsAreApart : Type 0
LabelsAreApart = (a b : Label) → label.IsLabel a → label.IsLabel b → label.spelling_of a ≡ label.spelling_of b → a ≡ b

-- The tests of a marker are its rules.
abbrev pub TestsAreRules : Type 0
TestsAreRules = (m : Marker) → (marker.is_marker m ≡ true) ↔ marker.IsMarker m

-- A block is read as the marker that it holds, and as no other.
abbrev pub BlockHolds : Type 0
BlockHolds = (block : List ℕ) (m : Marker) → (marker_in_block block ≡ Some m) ↔ (marker.IsMarker m × (block ≡ marker_block m))

-- A zone's bytes begin with the records that are given.
abbrev pub RecordsBegin : Type 0
RecordsBegin = (array : Array) (bytes : List ℕ) → Begin array bytes (begun array bytes)

-- Any records that they begin with are the first ones of these.
abbrev pub OthersArePrefixes : Type 0
OthersArePrefixes = (array : Array) (bytes : List ℕ) (ms : List Marker) → Begin array bytes ms → IsPrefix ms (begun array bytes)

-- So no list of records that they begin with is longer.
abbrev pub NoneIsLonger : Type 0
NoneIsLonger = (array : Array) (bytes : List ℕ) (ms : List Marker) → Begin array bytes ms → length ms ≤ length (begun array bytes)

-- No more of them are given than there are blocks.
abbrev pub NoMoreThanBlocks : Type 0
NoMoreThanBlocks = (array : Array) (bytes : List ℕ) → BLOCK_BYTES * length (begun array bytes) ≤ length bytes

-- Each whole record stands at the block that is given with it.
abbrev pub PlacedStand : Type 0
PlacedStand = (array : Array) (bytes : List ℕ) (some more : List Placed) (p : Placed) → placed_records array bytes ≡ some ++ (p ∷ more) → IsWhole array bytes p.block p.marker

-- A prefix of a zone's bytes begins with the first ones of its records.
abbrev pub CutLeavesPrefix : Type 0
CutLeavesPrefix = (n : ℕ) (array : Array) (bytes : List ℕ) → IsPrefix (begun array (take n bytes)) (begun array bytes)

-- And with all those that end in it.
abbrev pub CutKeepsWhole : Type 0
CutKeepsWhole = (n : ℕ) (array : Array) (bytes : List ℕ) (ms : List Marker) → Begin array bytes ms → BLOCK_BYTES * end_from 0 ms ≤ n → Begin array (take n bytes) ms

-- More bytes behind a zone's leave its records, and may only add some.
abbrev pub MoreKeepsRecords : Type 0
MoreKeepsRecords = (array : Array) (bytes more : List ℕ) → IsPrefix (begun array bytes) (begun array (bytes ++ more))

-- the bytes are the blocks of these records, and no more
pub record Fill (array : Array) (bytes : List ℕ) (ms : List Marker) : Type 0 where
  pub begin : Begin array bytes ms
  pub full : BLOCK_BYTES * end_from 0 ms ≡ length bytes

-- Records that fill the bytes are all that these begin with.
abbrev pub FilledIsAll : Type 0
FilledIsAll = (array : Array) (bytes : List ℕ) (ms : List Marker) → Fill array bytes ms → begun array bytes ≡ ms

-- the marker may stand behind these records in a zone of the array
pub record MayFollow (array : Array) (ms : List Marker) (m : Marker) : Type 0 where
  pub marker : marker.IsMarker m
  pub ours : belongs array m ≡ true
  pub may : may_stand (last_or None ms) m ≡ true

-- A record that is put behind records that fill the bytes, fills them with these. What its other blocks hold doesn't matter.
abbrev pub RecordIsAdded : Type 0
RecordIsAdded = (array : Array) (bytes content : List ℕ) (ms : List Marker) (m : Marker) → Fill array bytes ms → MayFollow array ms m → length content ≡ BLOCK_BYTES * (blocks_of m - 1)
    → Fill array (bytes ++ (marker_block m ++ content)) (ms ++ m ∷ [])

-- In a first zone all records count.
abbrev pub FirstZoneCounts : Type 0
FirstZoneCounts = (array : Array) (bytes : List ℕ) → is_rebuilt (begun array bytes) ≡ false → whole_records array bytes ≡ begun array bytes

-- In a rebuilt zone all records count where a trailer follows,
abbrev pub EndedZoneCounts : Type 0
EndedZoneCounts = (array : Array) (bytes : List ℕ) → trailer_follows array bytes (begun array bytes) ≡ true → whole_records array bytes ≡ begun array bytes

-- and none where there is none.
abbrev pub OpenRebuiltZoneHasNone : Type 0
OpenRebuiltZoneHasNone = (array : Array) (bytes : List ℕ) → is_rebuilt (begun array bytes) ≡ true → trailer_follows array bytes (begun array bytes) ≡ false → whole_records array bytes ≡ []
