-- Sets as rows of a list, by rising number.
use Rattle.std.specs.Prelude.{◌≡◌, ℕ, ◌<◌, ◌≤◌, ◌==◌, false, List, [], ◌∷◌, length, Option, Some, None, IsSome, if◌then◌else◌}
use Rattle.std.specs.List.{slice_index_or}
use Rattle.set_table.specs.declared.rows.Row.{Row}

-- rows, and for how many there is room
pub record RowList : Type 0 where
  pub rows : List Row
  pub capacity : ℕ

-- the first row of the set
abbrev pub row_of : ℕ → List Row → Option Row
row_of set [] = None
row_of set (row ∷ rows) = if row.set == set then Some row else row_of set rows

-- what stands at a place where no row is
abbrev pub no_row : Row
no_row = record { set = 0; is_settled = false; is_dropped = false; places = [] }

-- the set of the row at this place
abbrev pub set_at : List Row → ℕ → ℕ
set_at rows i = let row = slice_index_or rows i no_row in row.set

-- the sets rise, so none comes twice
abbrev pub IsRising : List Row → Type 0
IsRising rows = (i j : ℕ) → i < j → j < length rows → set_at rows i < set_at rows j

-- the row at this place is the set's
pub record IsAt (rows : List Row) (set i : ℕ) : Type 0 where
  pub in_range : i < length rows
  pub has_set : set_at rows i ≡ set

-- the set's row would stand at this place: lesser sets before it, and greater ones from it on
pub record IsGapFor (rows : List Row) (set i : ℕ) : Type 0 where
  pub in_range : i ≤ length rows
  pub smaller_before : (j : ℕ) → j < i → set_at rows j < set
  pub greater_after : (j : ℕ) → i ≤ j → j < length rows → set < set_at rows j

-- the rows of greater sets begin at this place
pub record IsAbove (rows : List Row) (set i : ℕ) : Type 0 where
  pub in_range : i ≤ length rows
  pub not_above : (j : ℕ) → j < i → set_at rows j ≤ set
  pub above : (j : ℕ) → i ≤ j → j < length rows → set < set_at rows j

-- the row's set has it, and each other set what it had
abbrev pub PutsRow : Row → List Row → List Row → Type 0
PutsRow row old new = (q : ℕ) → row_of q new ≡ (if row.set == q then Some row else row_of q old)

-- the set has no row, and each other set what it had
abbrev pub TakesRow : ℕ → List Row → List Row → Type 0
TakesRow set old new = (q : ℕ) → row_of q new ≡ (if set == q then None else row_of q old)

-- The least set above this one, which has a row, or none, where no set above it has one.
abbrev pub IsLeastAbove : ℕ → List Row → Option ℕ → Type 0
IsLeastAbove set rows None = (q : ℕ) → IsSome (row_of q rows) → q ≤ set
IsLeastAbove set rows (Some least) = (set < least) × IsSome (row_of least rows) × ((q : ℕ) → IsSome (row_of q rows) → set < q → least ≤ q)
