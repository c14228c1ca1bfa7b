-- What a store keeps true of an array, in each image and in all that remains of it.
use Rattle.std.specs.Prelude.{◌≡◌, ◌⊎◌, ℕ, ◌+◌, ◌/◌, ◌<◌, ◌≤◌, Bool, true, ◌&&◌, not, List, [], ◌∷◌, ◌++◌, length, take, Option, Some, None, Contains, if◌then◌else◌}
use Rattle.std.specs.List.{AllByRecursion, list_any}
use Rattle.smore_base.specs.Geometry.{IsWithinLimits}
use Rattle.smore_base.specs.declared.limits.TheConstants.{BLOCK_BYTES}
use Rattle.zone_bay.specs.Contents.{Shape, Contents}
use Rattle.marker_format.specs.declared.kind.Kind.TheVariants as kinds
use Rattle.marker_format.specs.declared.foot.Foot.{Foot}
use Rattle.marker_format.specs.declared.label.Label.{Label}
use Rattle.marker_format.specs.declared.marker.Marker.{Marker}
use Rattle.marker_format.specs.Foot.{IsFoot}
use Rattle.marker_format.specs.Marker.{IsMarker}
use Rattle.marker_format.specs.Block.{label_block, foot_block, marker_block}
use Rattle.marker_format.specs.Zone.{Array, block_at, end_from, has_kind, begun, foot_follows, has_foot, trailer_follows, whole_records}
use Rattle.array_model.specs.Payload.{AreFragments, fragment_of}
use Rattle.array_model.specs.Drives.{Place, is_of, present, labels, places_on, bytes_at, records_at, head_at}
use Rattle.array_model.specs.Reading.{Carrier, fragments_of, carriers_of, IsPrefixAlike, agreed, fragment_on}
use Rattle.array_model.specs.Record.{Record, Part, Put, Delete, Cut, is_ready}
use Rattle.array_model.specs.Sets.{ReadSet, Placed, stands, cut_to, valid, kept_by, records_of}
use Rattle.array_model.specs.Map.{items_of}
use Rattle.array_model.specs.Possible.{Choice, chosen, read_by}
use Rattle.array_model.specs.Enough.{is_settled, IsRemains}

-- ---- carriers of a set

-- the whole records of these carriers are the first ones of one list
abbrev pub HaveOneList : Array → Contents → List Carrier → Type 0
HaveOneList array held carriers = (all : List Marker) × AllByRecursion (λ carrier. IsPrefixAlike (records_at array held carrier.place) all) carriers

-- The carriers' fragments of the record whose marker stands at this block are those of one payload.
pub record HaveOnePayload (array : Array) (held : Contents) (carriers : List Carrier) (block : ℕ) (m : Marker) : Type 0 where
  pub payload : List ℕ
  pub bytes : length payload ≡ m.payload
  pub fragments : List (List ℕ)
  pub are : AreFragments array.geometry.k (fragments_of array) payload fragments
  pub each : AllByRecursion (λ carrier. (fragment_on held block m carrier).bytes ≡ fragment_of fragments carrier.index) carriers

-- so it is with each of the first so many records that they agree on
abbrev pub HavePayloads : Array → Contents → List Carrier → ℕ → Type 0
HavePayloads array held carriers count =
    (before after : List Marker) (m : Marker) → agreed array held carriers ≡ before ++ m ∷ after → length before < count
    → HaveOnePayload array held carriers (end_from 0 before) m

-- the carriers of a set on the drives that are present
abbrev pub carriers_in : Array → Shape → Contents → ℕ → List Carrier
carriers_in array shape held set = carriers_of array held (places_on shape (present shape held [])) set

-- the carriers from which a set is read by this choice
abbrev pub carriers_by : Array → Shape → Contents → Choice → ℕ → List Carrier
carriers_by array shape held choice set = carriers_of array held (places_on shape (chosen array shape held (present shape held []) (choice set) set)) set

-- The fragments of each valid record, on the carriers from which its set is read, are those of one payload.
abbrev pub HaveValidPayloads : Array → Shape → Contents → Choice → Type 0
HaveValidPayloads array shape held choice =
    let k = array.geometry.k in
    let sets = read_by array shape held choice in
    (set : ReadSet) → Contains sets set → stands k set ≡ true
    → HavePayloads array held (carriers_by array shape held choice set.id) (length (cut_to (kept_by set.id (valid k sets)) set.records))

-- No two drives have a zone with a whole head of one index of a set. (Else, where the drive of the carrier leaves, the other
-- zone takes its place, with records that need not be those that were read.)
abbrev pub IndexesAreAlone : Array → Shape → Contents → Type 0
IndexesAreAlone array shape held =
    let places = places_on shape (present shape held []) in
    (set index : ℕ) (one other : Place) → Contains places one → Contains places other
    → is_of set index (head_at array held one) ≡ true → is_of set index (head_at array held other) ≡ true → one.device ≡ other.device

-- ---- sets

-- A set with k carriers of which each has a whole foot stands.
abbrev pub ClosedStand : ℕ → List ReadSet → Type 0
ClosedStand k sets = (set : ReadSet) → Contains sets set → k ≤ set.carriers → set.closed ≡ true → stands k set ≡ true

-- the stamp of a note, of whichever name
abbrev pub stamp_of : Record → Option ℕ
stamp_of (Put name stamp upload parts bytes) = Some stamp
stamp_of (Delete name stamp) = Some stamp
stamp_of item = None

-- Two notes with one stamp are copies, and two parts with one upload and number are.
pub record AreCopies (items : List Record) : Type 0 where
  pub notes : (stamp : ℕ) (one other : Record) → Contains items one → Contains items other → stamp_of one ≡ Some stamp → stamp_of other ≡ Some stamp → one ≡ other
  pub parts : (upload part : ℕ) (one other : List ℕ) → Contains items (Part upload part one) → Contains items (Part upload part other) → one ≡ other

-- a set that stands and isn't settled: so no cut names it, and it isn't dropped
abbrev pub is_unsettled : ℕ → List ReadSet → ReadSet → Bool
is_unsettled k sets set = stands k set && not (is_settled k sets set)

-- At most one set that stands is unsettled.
abbrev pub OneIsUnsettled : ℕ → List ReadSet → Type 0
OneIsUnsettled k sets =
    (one other : ReadSet) → Contains sets one → Contains sets other → is_unsettled k sets one ≡ true → is_unsettled k sets other ≡ true → one ≡ other

-- Where a valid cut keeps some records of a set that stands, a ready record is among them.
abbrev pub CutsKeepReady : ℕ → List ReadSet → Type 0
CutsKeepReady k sets =
    (set : ReadSet) (cut : Placed) (kept : ℕ) → Contains sets set → stands k set ≡ true
    → Contains (records_of k sets) cut → cut.item ≡ Cut set.id kept → 0 < kept → list_any is_ready (take kept set.records) ≡ true

-- A valid cut keeps no more records of a set that stands than its carriers agree on. (Else the carriers that have more would
-- say more once those that have fewer are gone, and the set counts as settled.)
abbrev pub CutsFit : ℕ → List ReadSet → Type 0
CutsFit k sets =
    (set : ReadSet) (kept : ℕ) → Contains sets set → stands k set ≡ true → kept_by set.id (valid k sets) ≡ Some kept → kept ≤ length set.records

-- A list of sets that may be read of a kept array.
pub record IsKeptReading (k : ℕ) (sets : List ReadSet) : Type 0 where
  -- A set with enough carriers that are all closed stands.
  pub closed : ClosedStand k sets
  -- Valid notes with one stamp are copies, and valid parts with one upload and number are.
  pub copies : AreCopies (items_of (records_of k sets))
  -- At most one set that stands is unsettled.
  pub unsettled : OneIsUnsettled k sets
  -- A cut that keeps anything of a set keeps its ready record,
  pub ready : CutsKeepReady k sets
  -- and no more records than there are.
  pub cuts : CutsFit k sets

-- ---- labels and zones

-- Each label is of this array.
abbrev pub LabelsAreOf : Array → List Label → Type 0
LabelsAreOf array ls = (l : Label) → Contains ls l → (l.array ≡ array.id) × (l.geometry ≡ array.geometry)

-- the block of this number is the last whole one
abbrev pub IsLastBlock : List ℕ → ℕ → Type 0
IsLastBlock bytes block = block + 1 ≡ length bytes / BLOCK_BYTES

-- the block spells a trailer
abbrev pub SpellsTrailer : List ℕ → Type 0
SpellsTrailer block = (m : Marker) × IsMarker m × (has_kind kinds.Trailer m ≡ true) × (block ≡ marker_block m)

-- the block spells a foot
abbrev pub SpellsFoot : List ℕ → Type 0
SpellsFoot block = (foot : Foot) × IsFoot foot × (block ≡ foot_block foot)

-- the zone's trailer stands at this block: right behind its records, or behind their foot
abbrev pub HasTrailerAt : Array → List ℕ → ℕ → Type 0
HasTrailerAt array bytes block =
    let ms = begun array bytes in
    (trailer_follows array bytes ms ≡ true) × (block ≡ end_from 0 ms + (if foot_follows bytes ms then 1 else 0))

-- the zone's whole foot stands at this block: right behind its whole records
abbrev pub HasFootAt : Array → List ℕ → ℕ → Type 0
HasFootAt array bytes block = (has_foot array bytes ≡ true) × (block ≡ end_from 0 (whole_records array bytes))

-- the last whole block, or the one before the zone's trailer
abbrev pub MayHoldFoot : Array → List ℕ → ℕ → Type 0
MayHoldFoot array bytes block = IsLastBlock bytes block ⊎ HasTrailerAt array bytes (block + 1)

-- A zone's trailer and foot are found at its end, and what is found there is its trailer and its foot.
pub record EndsAreFound (array : Array) (bytes : List ℕ) : Type 0 where
  pub trailer : (block : ℕ) → IsLastBlock bytes block → SpellsTrailer (block_at bytes block) → HasTrailerAt array bytes block
  pub foot : (block : ℕ) → 0 < length (whole_records array bytes) → MayHoldFoot array bytes block → SpellsFoot (block_at bytes block) → HasFootAt array bytes block
  pub trailer_is_last : (block : ℕ) → HasTrailerAt array bytes block → IsLastBlock bytes block
  pub foot_is_last : (block : ℕ) → HasFootAt array bytes block → MayHoldFoot array bytes block

-- In a zone with a whole head the whole records and their foot take fewer blocks than a zone has.
abbrev pub TakesFewer : Array → ℕ → List ℕ → Type 0
TakesFewer array blocks bytes =
    0 < length (whole_records array bytes) → end_from 0 (whole_records array bytes) + (if has_foot array bytes then 1 else 0) < blocks

-- Each set zone of the drives that are present is so.
abbrev pub EachZone : Shape → Contents → (List ℕ → Type 0) → Type 0
EachZone shape held P = AllByRecursion (λ place. P (bytes_at held place)) (places_on shape (present shape held []))

-- ---- the kept array

-- What is seen of a kept array.
pub record ShowsKept (array : Array) (shape : Shape) (held : Contents) : Type 0 where
  -- The carriers of a set have one list of records.
  pub lists : (set : ℕ) → HaveOneList array held (carriers_in array shape held set)
  -- In each possible reading they have fragments of the same payloads,
  pub payloads : (choice : Choice) → HaveValidPayloads array shape held choice
  -- and its sets are those of a kept array.
  pub readings : (choice : Choice) → IsKeptReading array.geometry.k (read_by array shape held choice)
  -- All labels of drives name this array and its geometry.
  pub labels : LabelsAreOf array (labels shape held [])
  -- Trailers and feet stand at the ends of their zones, and nothing else is spelled like one there.
  pub ends : EachZone shape held (EndsAreFound array)
  -- Records and feet leave a block free in their zone.
  pub blocks : EachZone shape held (TakesFewer array shape.blocks)
  -- An index of a set has zones on one drive.
  pub alone : IndexesAreAlone array shape held

-- An image, by whose instant these devices were lost, is kept where all that remains of it shows so.
abbrev pub IsKept : Array → Shape → List ℕ → Contents → Type 0
IsKept array shape lost image = (left : Contents) → IsRemains array shape lost image left → ShowsKept array shape left

-- ---- a new array

-- the label of a device of the array
abbrev pub label_of : Array → ℕ → Label
label_of array device = record { version = 1; device = device; geometry = array.geometry; array = array.id }

-- the bay has the devices, zones and blocks of the array
pub record HasShape (array : Array) (shape : Shape) : Type 0 where
  pub within : IsWithinLimits array.geometry
  pub id : length array.id ≡ 16
  pub devices : array.geometry.drives + 1 ≡ shape.devices
  pub zones : array.geometry.zones ≡ shape.zones
  pub blocks : array.geometry.blocks ≡ shape.blocks

-- Freshly formatted: each device holds its label, and nothing else.
pub record IsFormatted (array : Array) (shape : Shape) (held : Contents) : Type 0 where
  pub fits : HasShape array shape
  pub label : (device : ℕ) → device < shape.devices → held device 0 ≡ label_block (label_of array device)
  pub nothing : (device zone : ℕ) → 0 < zone → held device zone ≡ []
