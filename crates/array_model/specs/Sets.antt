-- What is read of an array, as a list of sets by rising number, and which of their records are valid. Nothing here speaks of
-- devices, zones or bytes of a zone.
use Rattle.std.specs.Prelude.{◌≡◌, ◌⊎◌, ℕ, ◌+◌, ◌<◌, min, Bool, ◌&&◌, nat_le, List, [], ◌∷◌, ◌++◌, take, Option, Some, None, if◌then◌else◌}
use Rattle.std.specs.List.{list_any}
use Rattle.array_model.specs.Record.{Record, is_ready, kept_of}

-- a set as it is read: how many of its indexes have a carrier, the records that its carriers agree on, and whether each
-- carrier has a whole foot
pub record ReadSet : Type 0 where
  pub id : ℕ
  pub carriers : ℕ
  pub records : List Record
  pub closed : Bool

-- some of a set's records
pub record ValidSet : Type 0 where
  pub id : ℕ
  pub records : List Record

-- their numbers are above this one, and rise
abbrev pub RiseAbove : ℕ → List ReadSet → Type 0
RiseAbove id [] = Unit {0}
RiseAbove id (set ∷ above) = (id < set.id) × RiseAbove set.id above

-- the numbers rise, from 1
abbrev pub AreRising : List ReadSet → Type 0
AreRising sets = RiseAbove 0 sets

-- A set stands where k of its indexes have a carrier, so that its payloads can be had, and it has a ready record: without
-- it some of the cuts that its opening was to write may be missing, and nothing of it may count.
abbrev pub stands : ℕ → ReadSet → Bool
stands k set = nat_le k set.carriers && list_any is_ready set.records

-- the lesser of two numbers, where they are there
abbrev pub lesser : Option ℕ → Option ℕ → Option ℕ
lesser None other = other
lesser (Some n) None = Some n
lesser (Some n) (Some m) = Some (min n m)

-- the least number of the target's records that a cut among these keeps
abbrev pub least_kept : ℕ → List Record → Option ℕ
least_kept target [] = None
least_kept target (item ∷ items) = lesser (kept_of target item) (least_kept target items)

-- the same of the records of sets
abbrev pub kept_by : ℕ → List ValidSet → Option ℕ
kept_by target [] = None
kept_by target (set ∷ above) = lesser (least_kept target set.records) (kept_by target above)

-- as many records as are kept
abbrev pub cut_to : Option ℕ → List Record → List Record
cut_to None items = items
cut_to (Some n) items = take n items

-- The standing sets with their valid records: those that the carriers agree on, cut to the least number that a valid cut
-- of a higher set keeps of them. A set that is cut to 0 is dropped: it has none.
abbrev pub valid : ℕ → List ReadSet → List ValidSet
valid k [] = []
valid k (set ∷ above) =
    if stands k set then record { id = set.id; records = cut_to (kept_by set.id (valid k above)) set.records } ∷ valid k above
    else valid k above

-- a record at its place
pub record Placed : Type 0 where
  pub set : ℕ
  pub position : ℕ
  pub item : Record

abbrev pub placed_from : ℕ → ℕ → List Record → List Placed
placed_from set position [] = []
placed_from set position (item ∷ items) = record { set = set; position = position; item = item } ∷ placed_from set (position + 1) items

-- the records of sets, by rising number and position
abbrev pub placed : List ValidSet → List Placed
placed [] = []
placed (set ∷ above) = placed_from set.id 0 set.records ++ placed above

-- the valid records of what is read, in order
abbrev pub records_of : ℕ → List ReadSet → List Placed
records_of k sets = placed (valid k sets)

-- a set of this number with a carrier is there, whether it stands or not
abbrev pub HasCarrier : List ReadSet → ℕ → Type 0
HasCarrier [] id = ⊥
HasCarrier (set ∷ above) id = ((set.id ≡ id) × (0 < set.carriers)) ⊎ HasCarrier above id
