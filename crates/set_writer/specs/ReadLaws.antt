-- Laws of what is read of a whole array: which sets are in it, and what stays true of the carriers of the other sets.
use Rattle.std.specs.Prelude.{◌≡◌, ◌≢◌, ℕ, ◌<◌, ◌≤◌, true, false, List, [], Contains}
use Rattle.zone_bay.specs.Contents.{Shape, Contents, Lengths}
use Rattle.marker_format.specs.Zone.{Array}
use Rattle.array_model.specs.Drives.{Place, is_among, places_on, bytes_at, head_at, is_of}
use Rattle.array_model.specs.Reading.{carriers_of, read_set, reading}
use Rattle.array_model.specs.ReadingLaws.{is_of_set}
use Rattle.array_model.specs.Kept.{HaveOneList, HavePayloads}
use Rattle.array_model.specs.Sets.{ReadSet}
use Rattle.set_table.specs.Table.{Table}
use Rattle.set_table.specs.Table.{array_of}
use Rattle.set_writer.specs.ImageLaws.{View, places_of, cut_back, OthersSay, IsNew, is_half_rebuilt}

-- ---- the carriers of the other sets

-- no two drives have among these places a zone with a whole head of one index of the set
abbrev pub AreAlone : Array → Contents → List Place → ℕ → Type 0
AreAlone array held places set =
    (index : ℕ) (one other : Place) → Contains places one → Contains places other
    → is_of set index (head_at array held one) ≡ true → is_of set index (head_at array held other) ≡ true → one.device ≡ other.device

-- What is so of a set's carriers in the one contents is so in the other: that they have one list of records, that their fragments of the
-- first so many are those of one payload each, and that an index has zones on one drive.
pub record CarriesOver (array : Array) (places : List Place) (set : ℕ) (held then : Contents) : Type 0 where
  pub list : HaveOneList array held (carriers_of array held places set) → HaveOneList array then (carriers_of array then places set)
  pub payloads : (count : ℕ) → HavePayloads array held (carriers_of array held places set) count → HavePayloads array then (carriers_of array then places set) count
  pub alone : AreAlone array held places set → AreAlone array then places set

-- So it is with each other set, from what is left without what was put on the one set's zones to all that is left.
abbrev pub OthersCarryOver : Type 0
OthersCarryOver = (t : Table) (set : ℕ) (held : Contents) (firm : Lengths) (view : View) → OthersSay t set held firm view → (other : ℕ) → other ≢ set
    → CarriesOver (array_of t) (places_of view) other (cut_back held view.held) view.held

-- ---- the list of sets

-- A set of which a carrier is found is in the list,
abbrev pub CarriedIsRead : Type 0
CarriedIsRead = (array : Array) (shape : Shape) (held : Contents) (drives : List ℕ) (set : ℕ) → 0 < (read_set array held (places_on shape drives) set).carriers
    → Contains (reading array shape held drives) (read_set array held (places_on shape drives) set)

-- and one of which a place has a whole head is.
abbrev pub HeadIsRead : Type 0
HeadIsRead = (array : Array) (shape : Shape) (held : Contents) (drives : List ℕ) (set : ℕ) (place : Place) → Contains (places_on shape drives) place → is_of_set set (head_at array held place) ≡ true
    → Contains (reading array shape held drives) (read_set array held (places_on shape drives) set)

-- The set is what is read of its number at these places: it has a carrier, and one of them has a whole head of it.
pub record IsReadOf (array : Array) (held : Contents) (places : List Place) (set : ReadSet) : Type 0 where
  pub is : set ≡ read_set array held places set.id
  pub carried : 0 < set.carriers
  pub place : Place
  pub there : Contains places place
  pub head : is_of_set set.id (head_at array held place) ≡ true

-- No others are in it.
abbrev pub ReadIsCarried : Type 0
ReadIsCarried = (array : Array) (shape : Shape) (held : Contents) (drives : List ℕ) (set : ReadSet) → Contains (reading array shape held drives) set → IsReadOf array held (places_on shape drives) set

-- A set that isn't there yet has no carrier, and isn't in the list.
abbrev pub NewIsNotRead : Type 0
NewIsNotRead = (array : Array) (set : ℕ) (view : View) → IsNew array set view.held view.drives
    → (carriers_of array view.held (places_of view) set ≡ []) × ((other : ReadSet) → Contains (reading array view.shape view.held view.drives) other → other.id ≢ set)

-- The other way round it is new, where nothing is held outside the bay's zones and no set zone of the drives is half rebuilt.
abbrev pub UnreadIsNew : Type 0
UnreadIsNew = (array : Array) (set : ℕ) (view : View) → ((d z : ℕ) → is_among view.drives d ≡ true → view.shape.zones ≤ z → view.held d z ≡ [])
    → ((place : Place) → Contains (places_of view) place → is_half_rebuilt array (bytes_at view.held place) ≡ false)
    → ((other : ReadSet) → Contains (reading array view.shape view.held view.drives) other → other.id ≢ set) → IsNew array set view.held view.drives
