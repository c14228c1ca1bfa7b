-- Which records fit a set, and whether enough members live.
use Rattle.std.specs.Prelude.{◌≡◌, ℕ, ◌-◌, ◌≤◌, Bool, nat_le}
use Rattle.smore_base.specs.Room.{fits}
use Rattle.set_table.specs.Table.{Table, fragments_of, missing_of}
use Rattle.set_writer.specs.Writer.{Writer}

-- a record of so many blocks fits the set
abbrev pub fits_in : Writer → ℕ → Bool
fits_in w blocks = fits w.geometry blocks w.used w.records

-- the greatest number of blocks of a record that fits, or 0 where none does
abbrev pub IsLeft : Writer → ℕ → Type 0
IsLeft w left = (blocks : ℕ) → 1 ≤ blocks → fits_in w blocks ≡ nat_le blocks left

-- how many members of the set are live
abbrev pub live_of : Table → ℕ → ℕ
live_of t set = fragments_of t - missing_of t set

-- they are k at least
abbrev pub has_enough : Table → ℕ → Bool
has_enough t set = nat_le t.geometry.k (live_of t set)
