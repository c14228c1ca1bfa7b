-- Laws of removals: what may be read of an array once drives have left, and what remains after any removals.
use Rattle.std.specs.Prelude.{◌≡◌, ℕ, ◌≤◌, false, List, [], map, Contains}
use Rattle.smore_base.specs.Objects.{Map}
use Rattle.zone_bay.specs.Contents.{Shape, Contents}
use Rattle.zone_bay.specs.Images.{without_each}
use Rattle.marker_format.specs.Zone.{Array}
use Rattle.array_model.specs.Drives.{outside, present, places_on, records_at}
use Rattle.array_model.specs.Reading.{Carrier, alike, missing, read_set, reading, read_of}
use Rattle.array_model.specs.Sets.{ReadSet, records_of}
use Rattle.array_model.specs.Map.{items_of, map_of}
use Rattle.array_model.specs.SetLaws.{CutsAreOfLower}
use Rattle.array_model.specs.Possible.{Choice, read_by, IsPossibleMap, IsEverNeeded}
use Rattle.array_model.specs.Enough.{is_settled, IsEnough, IsRemains}
use Rattle.array_model.specs.Kept.{carriers_in, AreCopies, ShowsKept, IsKept}

-- Each valid cut that is read is of a lower set than the one that it stands in.
abbrev pub CutsReadAreOfLower : Type 0
CutsReadAreOfLower = (k : ℕ) (array : Array) (shape : Shape) (held : Contents) (drives : List ℕ) → CutsAreOfLower k (reading array shape held drives)

-- ---- one removal

-- What is read of an array is a possible reading, so its map is a possible one.
abbrev pub ReadIsPossible : Type 0
ReadIsPossible = (array : Array) (shape : Shape) (held : Contents) → IsPossibleMap array shape held (map_of array.geometry.k (read_of array shape held))

-- The premise of the laws below: in each possible reading two notes with one stamp are copies, and two parts with one upload
-- and number are.
abbrev pub AreAlwaysCopies : Array → Shape → Contents → Type 0
AreAlwaysCopies array shape held = (choice : Choice) → AreCopies (items_of (records_of array.geometry.k (read_by array shape held choice)))

-- Where drives leave with enough, each map that is possible then was possible,
abbrev pub NothingNewIsPossible : Type 0
NothingNewIsPossible = (array : Array) (shape : Shape) (uploads : List ℕ) (held : Contents) (leaving : List ℕ) (objects : Map)
    → AreAlwaysCopies array shape held → IsEnough array shape uploads held leaving
    → IsPossibleMap array shape (without_each leaving held) objects → IsPossibleMap array shape held objects

-- each set that is ever needed then was ever needed,
abbrev pub NothingNewIsNeeded : Type 0
NothingNewIsNeeded = (array : Array) (shape : Shape) (uploads : List ℕ) (held : Contents) (leaving : List ℕ) (set : ℕ)
    → AreAlwaysCopies array shape held → IsEnough array shape uploads held leaving
    → IsEverNeeded array shape uploads (without_each leaving held) set → IsEverNeeded array shape uploads held set

-- and the premise holds then.
abbrev pub CopiesStay : Type 0
CopiesStay = (array : Array) (shape : Shape) (uploads : List ℕ) (held : Contents) (leaving : List ℕ)
    → AreAlwaysCopies array shape held → IsEnough array shape uploads held leaving → AreAlwaysCopies array shape (without_each leaving held)

-- Where each set that is read misses no more than p indexes on the drives that stay, that is enough.
abbrev pub FewMissingAreEnough : Type 0
FewMissingAreEnough = (array : Array) (shape : Shape) (uploads : List ℕ) (held : Contents) (leaving : List ℕ)
    → ((set : ReadSet) → Contains (read_of array shape held) set
    → missing array (read_set array held (places_on shape (outside leaving (present shape held []))) set.id) ≤ array.geometry.p)
    → IsEnough array shape uploads held leaving

-- ---- any removals

-- An image without its lost devices remains of it,
abbrev pub ImageRemains : Type 0
ImageRemains = (array : Array) (shape : Shape) (lost : List ℕ) (image : Contents) → IsRemains array shape lost image (without_each lost image)

-- what is left of a remains where drives leave with enough is one,
abbrev pub RemovalLeavesRemains : Type 0
RemovalLeavesRemains = (array : Array) (shape : Shape) (lost : List ℕ) (image held : Contents) (leaving : List ℕ)
    → IsRemains array shape lost image held → IsEnough array shape [] held leaving → IsRemains array shape lost image (without_each leaving held)

-- and so is what remains of one.
abbrev pub RemainsFollow : Type 0
RemainsFollow = (array : Array) (shape : Shape) (lost : List ℕ) (image mid left : Contents)
    → IsRemains array shape lost image mid → IsRemains array shape [] mid left → IsRemains array shape lost image left

-- Where drives leave with enough, the map that is read then is that of a possible reading of before.
abbrev pub LeftMapWasPossible : Type 0
LeftMapWasPossible = (array : Array) (shape : Shape) (uploads : List ℕ) (held : Contents) (leaving : List ℕ)
    → AreAlwaysCopies array shape held → IsEnough array shape uploads held leaving
    → IsPossibleMap array shape held (map_of array.geometry.k (read_of array shape (without_each leaving held)))

-- The map of each remains is a possible map of the image without its lost devices,
abbrev pub RemainsHavePossibleMaps : Type 0
RemainsHavePossibleMaps = (array : Array) (shape : Shape) (lost : List ℕ) (image left : Contents)
    → AreAlwaysCopies array shape (without_each lost image) → IsRemains array shape lost image left
    → IsPossibleMap array shape (without_each lost image) (map_of array.geometry.k (read_of array shape left))

-- and so is each possible map of it.
abbrev pub RemainsAddNoMaps : Type 0
RemainsAddNoMaps = (array : Array) (shape : Shape) (lost : List ℕ) (image left : Contents) (objects : Map)
    → AreAlwaysCopies array shape (without_each lost image) → IsRemains array shape lost image left
    → IsPossibleMap array shape left objects → IsPossibleMap array shape (without_each lost image) objects

-- An array that shows so is kept,
abbrev pub WhatShowsIsKept : Type 0
WhatShowsIsKept = (array : Array) (shape : Shape) (lost : List ℕ) (image : Contents)
    → ShowsKept array shape (without_each lost image) → IsKept array shape lost image

-- and what remains of a kept array is kept.
abbrev pub RemainsAreKept : Type 0
RemainsAreKept = (array : Array) (shape : Shape) (lost : List ℕ) (image left : Contents)
    → IsKept array shape lost image → IsRemains array shape lost image left → IsKept array shape [] left

-- A property that each removal with enough keeps, from what remains of an image, holds of each remains.
abbrev pub HoldsOfRemains : (Array → Shape → Contents → Type 0) → Type 0
HoldsOfRemains holds = (array : Array) (shape : Shape) (lost : List ℕ) (image : Contents) → holds array shape (without_each lost image)
    → ((held : Contents) (leaving : List ℕ) → IsRemains array shape lost image held → holds array shape held → IsEnough array shape [] held leaving
    → holds array shape (without_each leaving held))
    → (left : Contents) → IsRemains array shape lost image left → holds array shape left

-- ---- one possible map

-- the carriers have equal lists of whole records
abbrev pub HaveEqualLists : Array → Contents → List Carrier → Type 0
HaveEqualLists array held carriers =
    (one other : Carrier) → Contains carriers one → Contains carriers other
    → map alike (records_at array held one.place) ≡ map alike (records_at array held other.place)

-- Of each set with k carriers that isn't settled the carriers have equal lists of whole records.
abbrev pub UnsettledAreEven : Array → Shape → Contents → Type 0
UnsettledAreEven array shape held =
    let sets = read_of array shape held in
    (set : ReadSet) → Contains sets set → array.geometry.k ≤ set.carriers → is_settled array.geometry.k sets set ≡ false
    → HaveEqualLists array held (carriers_in array shape held set.id)

-- An array that shows so and of which that holds has the map that is read as its only possible one.
abbrev pub OnePossibleMap : Type 0
OnePossibleMap = (array : Array) (shape : Shape) (held : Contents) (objects : Map) → ShowsKept array shape held → UnsettledAreEven array shape held
    → IsPossibleMap array shape held objects → objects ≡ map_of array.geometry.k (read_of array shape held)
