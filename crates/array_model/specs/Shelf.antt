-- The sets that hold something.
use Rattle.std.specs.Prelude.{ℕ, Bool, not, ◌==◌, List, length, filter}
use Rattle.std.specs.List.{list_any}
use Rattle.array_model.specs.Sets.{ReadSet, ValidSet, valid}

-- A set that stands is dropped where it is cut to 0. It has a ready record, so cut to more it has valid records.
abbrev pub is_dropped : ValidSet → Bool
is_dropped set = length set.records == 0

-- The shelf of what is read: the sets that stand and aren't dropped, by rising number, with their valid records.
abbrev pub shelf : ℕ → List ReadSet → List ValidSet
shelf k sets = filter (λ set. not (is_dropped set)) (valid k sets)

-- a set of this number is on the shelf
abbrev pub is_on_shelf : ℕ → List ReadSet → ℕ → Bool
is_on_shelf k sets id = list_any (λ set. set.id == id) (shelf k sets)
