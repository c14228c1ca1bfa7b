-- What may be read of an array: each of its sets as it is, or from some of its drives alone.
use Rattle.std.specs.Prelude.{◌≡◌, ℕ, nat_le, List, [], length, map, if◌then◌else◌}
use Rattle.smore_base.specs.Objects.{Map}
use Rattle.zone_bay.specs.Contents.{Shape, Contents}
use Rattle.marker_format.specs.Zone.{Array}
use Rattle.array_model.specs.Drives.{outside, present, places_on}
use Rattle.array_model.specs.Reading.{carriers_of, read_set, ids_at}
use Rattle.array_model.specs.Sets.{ReadSet}
use Rattle.array_model.specs.Map.{map_of}
use Rattle.array_model.specs.Need.{IsNeededSet}

-- A choice for each set: the drives that are left aside where it is read.
abbrev pub Choice : Type 0
Choice = ℕ → List ℕ

-- The drives from which a set is read: those that aren't left aside, where k of its indexes have a carrier on these, and else
-- all. So it is read as it is, or from any k or more of its carriers: those on a drive go together.
abbrev pub chosen : Array → Shape → Contents → List ℕ → List ℕ → ℕ → List ℕ
chosen array shape held drives aside set =
    let others = outside aside drives in
    if nat_le array.geometry.k (length (carriers_of array held (places_on shape others) set)) then others else drives

-- what is read of a set by this choice
abbrev pub set_by : Array → Shape → Contents → List ℕ → Choice → ℕ → ReadSet
set_by array shape held drives choice set = read_set array held (places_on shape (chosen array shape held drives (choice set) set)) set

-- What is read of an array whose drives are these, each set by a choice of its own.
abbrev pub reading_by : Array → Shape → Contents → List ℕ → Choice → List ReadSet
reading_by array shape held drives choice = map (set_by array shape held drives choice) (ids_at array held (places_on shape drives))

-- A possible reading of an array: of all its drives that are present.
abbrev pub read_by : Array → Shape → Contents → Choice → List ReadSet
read_by array shape held choice = reading_by array shape held (present shape held []) choice

-- The possible maps are those of the possible readings.
abbrev pub IsPossibleMap : Array → Shape → Contents → Map → Type 0
IsPossibleMap array shape held objects = (choice : Choice) × (objects ≡ map_of array.geometry.k (read_by array shape held choice))

-- The set holds a record that is needed in some possible reading. The uploads are those in progress and those that are read.
abbrev pub IsEverNeeded : Array → Shape → List ℕ → Contents → ℕ → Type 0
IsEverNeeded array shape uploads held set = (choice : Choice) × IsNeededSet array.geometry.k uploads (read_by array shape held choice) set
