-- How the lines of a catalogue are kept.
use Rattle.std.specs.Prelude.{◌≡◌, ◌⊎◌, ℕ, ◌+◌, ◌-◌, ◌<◌, ◌≤◌, ◌&&◌, nat_le, ◌==◌, List, [], length, take, drop, if◌then◌else◌}
use Rattle.std.specs.List.{slice_index_or}
use Rattle.set_digest.specs.declared.line.Line.{Line}
use Rattle.set_digest.specs.declared.pool.Row.{Row}
use Rattle.set_digest.specs.Catalogue.{Listed}

-- sets with their lines, in whatever order, and for how many more there is room
pub record Pooled : Type 0 where
  pub listed : List Listed
  pub spare_rows : ℕ
  pub spare_lines : ℕ

-- where the lines of a row end
abbrev pub end_of : Row → ℕ
end_of row = row.start + row.count

-- the set of a row, and its lines
abbrev pub listed_by : List Line → Row → Listed
listed_by lines row = record { set = row.set; lines = take row.count (drop row.start lines) }

abbrev pub listed_at : List Listed → ℕ → Listed
listed_at listed i = slice_index_or listed i (record { set = 0; lines = [] })

-- what stands where no row is
abbrev pub no_row : Row
no_row = record { set = 0; start = 0; count = 0 }

abbrev pub row_at : List Row → ℕ → Row
row_at rows i = slice_index_or rows i no_row

-- where the next line of a row begins its lines, or goes on with them: a row without lines gets its first behind all others
abbrev pub begin_of : ℕ → Row → ℕ
begin_of behind row = if row.count == 0 then behind else row.start

-- a row that has lines, which begin there or behind it, begins one line later
abbrev pub moved_up : ℕ → Row → Row
moved_up from row = if nat_le 1 row.count && nat_le from row.start then record row { start = row.start + 1 } else row

-- a row that begins there or behind it begins so many lines earlier
abbrev pub moved_down : ℕ → ℕ → Row → Row
moved_down end count row = if nat_le end row.start then record row { start = row.start - count } else row

-- the lines of one stand before those of the other
abbrev pub AreApart : Row → Row → Type 0
AreApart a b = (end_of a ≤ b.start) ⊎ (end_of b ≤ a.start)

-- The lines of each row stand among these, apart from those of the others. A row without lines has its place at the front.
pub record KeepsRows (rows : List Row) (lines : List Line) : Type 0 where
  pub within : (i : ℕ) → i < length rows → end_of (row_at rows i) ≤ length lines
  pub none : (i : ℕ) → i < length rows → (row_at rows i).count ≡ 0 → (row_at rows i).start ≡ 0
  pub apart : (i j : ℕ) → i < j → j < length rows → AreApart (row_at rows i) (row_at rows j)
