-- Laws of needed records as tests, and of cleaning.
use Rattle.std.specs.Prelude.{◌≡◌, ◌⊎◌, ℕ, ◌<◌, ◌≤◌, true, false, List, [], length, ◌↔◌, Some, None, Contains}
use Rattle.marker_format.specs.declared.marker.Marker.{Marker}
use Rattle.marker_format.specs.Kind.{kind_of}
use Rattle.marker_format.specs.Marker.{IsMarker}
use Rattle.marker_format.specs.Zone.{blocks_of}
use Rattle.array_model.specs.Reading.{record_by}
use Rattle.array_model.specs.Record.{Record}
use Rattle.array_model.specs.Sets.{ReadSet, Placed, AreRising, placed, records_of}
use Rattle.array_model.specs.Shelf.{shelf}
use Rattle.array_model.specs.Need.{IsNeeded}
use Rattle.array_model.specs.NeedTests.{is_same, needed_of}
use Rattle.array_model.specs.Cleaning.{moved_blocks, used, needed, is_worth_cleaning, is_half_cleaned, victim}

-- What the test calls copies are equal records, and no others.
abbrev pub CopiesAreEqual : Type 0
CopiesAreEqual = (one other : Record) → (is_same one other ≡ true) ↔ (one ≡ other)

-- The needed records are those that are needed.
abbrev pub TestsAreNeed : Type 0
TestsAreNeed = (k : ℕ) (uploads : List ℕ) (sets : List ReadSet) (it : Placed) → Contains (needed_of k uploads sets) it ↔ IsNeeded k uploads sets it

-- The shelf has all valid records.
abbrev pub ShelfHasAll : Type 0
ShelfHasAll = (k : ℕ) (sets : List ReadSet) → placed (shelf k sets) ≡ records_of k sets

-- The blocks of a record that count are those that it takes in a zone.
abbrev pub BlocksAreThose : Type 0
BlocksAreThose = (m : Marker) (payload : List ℕ) → IsMarker m → length payload ≡ m.payload
    → let item = record_by (kind_of m.kind) m payload in 0 < moved_blocks m.k item → moved_blocks m.k item ≡ blocks_of m

-- No more is needed of a set than is used.
abbrev pub NeededIsUsed : Type 0
NeededIsUsed = (k : ℕ) (uploads : List ℕ) (sets : List ReadSet) (id : ℕ) → needed k uploads sets id ≤ used k sets id

-- Where no set is half cleaned, the victim is worth cleaning; no set that is has fewer needed blocks, and no lower one as few.
pub record IsVictim (k : ℕ) (uploads : List ℕ) (sets : List ReadSet) (set : ReadSet) : Type 0 where
  pub among : Contains sets set
  pub worth : is_worth_cleaning k uploads sets set ≡ true
  pub fewest : (other : ReadSet) → Contains sets other → is_worth_cleaning k uploads sets other ≡ true
      → (needed k uploads sets set.id < needed k uploads sets other.id) ⊎ ((needed k uploads sets set.id ≡ needed k uploads sets other.id) × (set.id ≤ other.id))

abbrev pub VictimIsLeast : Type 0
VictimIsLeast = (k : ℕ) (uploads : List ℕ) (sets : List ReadSet) (set : ReadSet) → AreRising sets → victim k uploads [] sets ≡ Some set → IsVictim k uploads sets set

-- Where there is no victim, no set is worth cleaning.
abbrev pub NoVictimNoneWorth : Type 0
NoVictimNoneWorth = (k : ℕ) (uploads half : List ℕ) (sets : List ReadSet) (set : ReadSet) → victim k uploads half sets ≡ None → Contains sets set → is_worth_cleaning k uploads sets set ≡ false

-- A half cleaned set goes before all others.
abbrev pub HalfCleanedGoesFirst : Type 0
HalfCleanedGoesFirst = (k : ℕ) (uploads half : List ℕ) (sets : List ReadSet) (set other : ReadSet) → Contains sets set → is_half_cleaned k sets half set ≡ true
    → victim k uploads half sets ≡ Some other → is_half_cleaned k sets half other ≡ true
