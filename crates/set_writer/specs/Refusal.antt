-- Why the calls of a writer are refused.
use Rattle.std.specs.Prelude.{◌≡◌, ℕ, ◌<◌, false, true}
use Rattle.set_table.specs.Table.{Table, missing_of, with_empty_of}
use Rattle.set_writer.specs.declared.refusal.WriteRefusal.{WriteRefusal}
use Rattle.set_writer.specs.declared.refusal.WriteRefusal.TheVariants.{NoFit, Short}
use Rattle.set_writer.specs.Writer.{Writer}
use Rattle.set_writer.specs.Fit.{fits_in, IsLeft, has_enough}

-- fewer than k members of the set are live
abbrev pub IsShort : Table → ℕ → ℕ → ℕ → Type 0
IsShort t set told missing = (told ≡ set) × (missing ≡ missing_of t set) × (has_enough t set ≡ false)

-- a flush, and a closing, of the set, behind which the table is this
abbrev pub ShortRefusal : Table → ℕ → WriteRefusal → Type 0
ShortRefusal t set (Short told missing) = IsShort t set told missing
ShortRefusal t set _ = ⊥

-- an append of a record of so many blocks
abbrev pub AppendRefusal : Writer → ℕ → Table → WriteRefusal → Type 0
AppendRefusal w blocks t (NoFit told left) = (told ≡ blocks) × (fits_in w blocks ≡ false) × IsLeft w left
AppendRefusal w blocks t (Short told missing) = (fits_in w blocks ≡ true) × IsShort t w.set told missing
AppendRefusal w blocks t _ = ⊥

-- too few drives for a set of so many members at least, by the table in which it was to be formed
abbrev pub IsTooFew : Table → ℕ → ℕ → Type 0
IsTooFew t least live = (live ≡ with_empty_of t) × (live < least)
