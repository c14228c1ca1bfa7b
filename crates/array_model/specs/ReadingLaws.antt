-- Laws of the reading of an array: what it reads where drives leave, where zones grow or are cut, and without the zones of a
-- set that doesn't stand.
use Rattle.std.specs.Prelude.{◌≡◌, ℕ, ◌*◌, ◌<◌, ◌≤◌, ◌==◌, Bool, true, false, ◌⊎◌, ◌-◌, List, [], ◌∷◌, length, map, take, Option, Some, None, Contains, if◌then◌else◌}
use Rattle.std.specs.List.{AllByRecursion, list_any}
use Rattle.smore_base.specs.declared.limits.TheConstants.{BLOCK_BYTES}
use Rattle.zone_bay.specs.Contents.{Shape, Contents, Extends}
use Rattle.zone_bay.specs.Images.{without_each}
use Rattle.marker_format.specs.declared.marker.Marker.{Marker}
use Rattle.marker_format.specs.declared.kind.Kind.TheVariants.{Head}
use Rattle.marker_format.specs.Marker.{IsMarker}
use Rattle.marker_format.specs.Zone.{has_kind, Array, IsPrefix, begun, end_from, is_rebuilt}
use Rattle.array_model.specs.Payload.{Fragment, payload_from, AreFragments, AreSome}
use Rattle.array_model.specs.Drives.{Place, outside, is_of, is_among, drives_of, present, places_on, bytes_at, records_at, head_at}
use Rattle.array_model.specs.Reading.{Carrier, carrier_of, fragments_of, carriers_of, aside, alike, agree, IsPrefixAlike, agreed, are_closed, payload_of, read_set, reading, read_of}
use Rattle.array_model.specs.Record.{is_ready}
use Rattle.array_model.specs.Sets.{AreRising, stands, records_of}
use Rattle.array_model.specs.Possible.{IsPossibleMap}
use Rattle.array_model.specs.Enough.{IsEnough}
use Rattle.array_model.specs.Kept.{HaveOneList, HaveOnePayload, HavePayloads, IsKept, IsFormatted}
use Rattle.smore_base.specs.Objects.{Map}
use Rattle.std.specs.FinMap as finmap

-- ---- drives that leave

-- Where drives leave, an index that had no carrier gets none,
abbrev pub NoCarrierComes : Type 0
NoCarrierComes = (array : Array) (shape : Shape) (held : Contents) (drives leaving : List ℕ) (set index : ℕ)
    → carrier_of array held (places_on shape drives) set index ≡ None
    → carrier_of array held (places_on shape (outside leaving drives)) set index ≡ None

-- and a carrier on a drive that stays is the carrier still.
abbrev pub CarrierStays : Type 0
CarrierStays = (array : Array) (shape : Shape) (held : Contents) (drives leaving : List ℕ) (set index : ℕ) (carrier : Carrier)
    → carrier_of array held (places_on shape drives) set index ≡ Some carrier → is_among leaving carrier.place.device ≡ false
    → carrier_of array held (places_on shape (outside leaving drives)) set index ≡ Some carrier

-- So no set has more carriers than it had.
abbrev pub NoMoreCarriers : Type 0
NoMoreCarriers = (array : Array) (shape : Shape) (held : Contents) (drives leaving : List ℕ) (set : ℕ)
    → length (carriers_of array held (places_on shape (outside leaving drives)) set) ≤ length (carriers_of array held (places_on shape drives) set)

-- on a lower drive, or on the same drive in no higher zone
abbrev pub IsNoHigher : Place → Place → Type 0
IsNoHigher one other = (one.device < other.device) ⊎ ((one.device ≡ other.device) × (one.zone ≤ other.zone))

-- A carrier has a whole head of its set and index, and no place with one is lower.
abbrev pub CarrierIsLowest : Type 0
CarrierIsLowest = (array : Array) (shape : Shape) (held : Contents) (set index : ℕ) (carrier : Carrier)
    → carrier_of array held (places_on shape (present shape held [])) set index ≡ Some carrier
    → (is_of set index (head_at array held carrier.place) ≡ true)
    × ((place : Place) → Contains (places_on shape (present shape held [])) place → is_of set index (head_at array held place) ≡ true → IsNoHigher carrier.place place)

-- Where devices left, the drives that are present are those that were and stay,
abbrev pub PresentStay : Type 0
PresentStay = (shape : Shape) (held : Contents) (leaving : List ℕ) → present shape (without_each leaving held) [] ≡ outside leaving (present shape held [])

-- and what is read is what those that stay held before.
abbrev pub LeftIsHeldBefore : Type 0
LeftIsHeldBefore = (array : Array) (shape : Shape) (held : Contents) (leaving : List ℕ)
    → read_of array shape (without_each leaving held) ≡ reading array shape held (outside leaving (present shape held []))

-- The flash, the last device, may always leave.
abbrev pub FlashMayLeave : Type 0
FlashMayLeave = (array : Array) (shape : Shape) (uploads : List ℕ) (held : Contents) → IsEnough array shape uploads held ((shape.devices - 1) ∷ [])

-- The sets that are read rise by number, from 1.
abbrev pub ReadingRises : Type 0
ReadingRises = (array : Array) (shape : Shape) (held : Contents) (drives : List ℕ) → AreRising (reading array shape held drives)

-- ---- the agreed list

-- Markers that differ in their index alone agree,
abbrev pub IndexIsAside : Type 0
IndexIsAside = (m : Marker) (index : ℕ) → agree m (record m { index = index }) ≡ true

-- and heads of which one has the rebuilt mark,
abbrev pub RebuiltMarkIsAside : Type 0
RebuiltMarkIsAside = (m : Marker) (mark : ℕ) → has_kind Head m ≡ true → agree m (record m { part = mark }) ≡ true

-- but markers that differ in anything else don't.
abbrev pub NothingElseIsAside : Type 0
NothingElseIsAside = (one other : Marker) → IsMarker one → IsMarker other → agree one other ≡ true → aside one ≡ aside other

-- Each carrier has the agreed list,
abbrev pub AgreedIsHeld : Type 0
AgreedIsHeld = (array : Array) (held : Contents) (carriers : List Carrier) (carrier : Carrier) → Contains carriers carrier
    → IsPrefixAlike (agreed array held carriers) (records_at array held carrier.place)

-- and no list that each of them has is longer.
abbrev pub AgreedIsLongest : Type 0
AgreedIsLongest = (array : Array) (held : Contents) (carriers : List Carrier) (ms : List Marker) → 0 < length carriers
    → ((carrier : Carrier) → Contains carriers carrier → IsPrefixAlike ms (records_at array held carrier.place))
    → IsPrefixAlike ms (agreed array held carriers)

-- none of these carriers is a rebuilt zone
abbrev pub AreFirst : Array → Contents → List Carrier → Type 0
AreFirst array held carriers = AllByRecursion (λ carrier. is_rebuilt (begun array (bytes_at held carrier.place)) ≡ false) carriers

-- More bytes behind those of first zones leave the agreed list, and may add records to it, which each carrier has.
abbrev pub AgreedGrows : Type 0
AgreedGrows = (array : Array) (held more : Contents) (carriers : List Carrier) → AreFirst array held carriers → Extends held more
    → IsPrefix (agreed array held carriers) (agreed array more carriers)

-- the zone is cut, if at all, behind its whole records
abbrev pub IsCutBehind : Array → List ℕ → List ℕ → Type 0
IsCutBehind array bytes cut = (n : ℕ) × (BLOCK_BYTES * end_from 0 (begun array bytes) ≤ n) × (cut ≡ take n bytes)

-- Cuts of first zones behind their whole records leave the agreed list.
abbrev pub AgreedStays : Type 0
AgreedStays = (array : Array) (held cut : Contents) (carriers : List Carrier) → AreFirst array held carriers
    → AllByRecursion (λ carrier. IsCutBehind array (bytes_at held carrier.place) (bytes_at cut carrier.place)) carriers
    → agreed array cut carriers ≡ agreed array held carriers

-- ---- settled sets

-- these are some of the carriers, one at least
abbrev pub AreSomeOf : List Carrier → List Carrier → Type 0
AreSomeOf some carriers = (0 < length some) × ((carrier : Carrier) → Contains some carrier → Contains carriers carrier)

-- Some of a set's carriers agree on as much as all do, and perhaps on more. So where no more is kept, the same is.
abbrev pub CutReadsTheSame : Type 0
CutReadsTheSame = (array : Array) (held : Contents) (some carriers : List Carrier) (kept : ℕ) → AreSomeOf some carriers
    → kept ≤ length (agreed array held carriers)
    → map alike (take kept (agreed array held some)) ≡ map alike (take kept (agreed array held carriers))

-- Where the whole records of all are first ones of one list, and each has a whole foot, they agree on the same.
abbrev pub ClosedReadsTheSame : Type 0
ClosedReadsTheSame = (array : Array) (held : Contents) (some carriers : List Carrier) → AreSomeOf some carriers
    → HaveOneList array held carriers → are_closed array held carriers ≡ true
    → map alike (agreed array held some) ≡ map alike (agreed array held carriers)

-- ---- payloads

-- From any k distinct fragments of a payload it is read.
abbrev pub PayloadIsRead : Type 0
PayloadIsRead = (k n : ℕ) (payload : List ℕ) (fragments : List (List ℕ)) (given : List Fragment) → k ≤ n → n ≤ 256
    → AreFragments k n payload fragments → AreSome k n fragments given → payload_from k given (length payload) ≡ payload

-- Where the carriers' fragments of a record are those of one payload, and there are k of them, that payload is read.
abbrev pub CarriersGivePayload : Type 0
CarriersGivePayload = (array : Array) (held : Contents) (places : List Place) (set block : ℕ) (m : Marker)
    → (one : HaveOnePayload array held (carriers_of array held places set) block m)
    → array.geometry.k ≤ length (carriers_of array held places set) → fragments_of array ≤ 256
    → payload_of array held (carriers_of array held places set) block m ≡ one.payload

-- at these places a set has some of its carriers at those, and k of them
pub record KeepsEnough (array : Array) (held : Contents) (places those : List Place) (set : ℕ) : Type 0 where
  pub some : AreSomeOf (carriers_of array held places set) (carriers_of array held those set)
  pub enough : array.geometry.k ≤ length (carriers_of array held places set)
  pub were : array.geometry.k ≤ length (carriers_of array held those set)
  pub fits : fragments_of array ≤ 256

-- So where the carriers have fragments of one payload of each record, the same records are read: as many as are kept of those
-- that all carriers agree on,
abbrev pub KeptIsReadFromSome : Type 0
KeptIsReadFromSome = (array : Array) (held : Contents) (places those : List Place) (set kept : ℕ) → KeepsEnough array held places those set
    → kept ≤ length (agreed array held (carriers_of array held those set))
    → HavePayloads array held (carriers_of array held those set) kept
    → take kept (read_set array held places set).records ≡ take kept (read_set array held those set).records

-- and all records where all carriers are closed.
abbrev pub ClosedIsReadFromSome : Type 0
ClosedIsReadFromSome = (array : Array) (held : Contents) (places those : List Place) (set : ℕ) → KeepsEnough array held places those set
    → HaveOneList array held (carriers_of array held those set) → are_closed array held (carriers_of array held those set) ≡ true
    → HavePayloads array held (carriers_of array held those set) (length (agreed array held (carriers_of array held those set)))
    → (read_set array held places set).records ≡ (read_set array held those set).records

-- ---- a set that doesn't stand

-- this is a head of the set
abbrev pub is_of_set : ℕ → Option Marker → Bool
is_of_set set None = false
is_of_set set (Some head) = head.set == set

-- the zones of the set hold nothing
abbrev pub without_set : Array → ℕ → Contents → Contents
without_set array set held device zone =
    if is_of_set set (head_at array held (record { device = device; zone = zone })) then [] else held device zone

-- A set that doesn't stand says nothing: with its zones and without them the same records are valid,
abbrev pub FallenSaysNothing : Type 0
FallenSaysNothing = (k : ℕ) (array : Array) (shape : Shape) (held : Contents) (drives : List ℕ) (set : ℕ)
    → stands k (read_set array held (places_on shape drives) set) ≡ false
    → records_of k (reading array shape (without_set array set held) drives) ≡ records_of k (reading array shape held drives)

-- and so it is with a set without a ready record.
abbrev pub UnreadySaysNothing : Type 0
UnreadySaysNothing = (k : ℕ) (array : Array) (shape : Shape) (held : Contents) (drives : List ℕ) (set : ℕ)
    → list_any is_ready (read_set array held (places_on shape drives) set).records ≡ false
    → records_of k (reading array shape (without_set array set held) drives) ≡ records_of k (reading array shape held drives)

-- ---- a new array

-- In a freshly formatted array each drive is present,
abbrev pub FormattedIsPresent : Type 0
FormattedIsPresent = (array : Array) (shape : Shape) (held : Contents) → IsFormatted array shape held → present shape held [] ≡ drives_of shape

-- it is kept,
abbrev pub FormattedIsKept : Type 0
FormattedIsKept = (array : Array) (shape : Shape) (lost : List ℕ) (held : Contents) → IsFormatted array shape held → IsKept array shape lost held

-- and its one possible map is the empty one.
abbrev pub FormattedIsEmpty : Type 0
FormattedIsEmpty = (array : Array) (shape : Shape) (held : Contents) (objects : Map) → IsFormatted array shape held
    → IsPossibleMap array shape held objects → objects ≡ finmap.empty
