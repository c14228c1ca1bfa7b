-- What becomes of a row.
use Rattle.std.specs.Prelude.{◌≡◌, ℕ, ◌<◌, ◌≤◌, Bool, List, slice_index, bit_xor, if◌then◌else◌}

-- what a byte counts for in the one that takes its place: itself where it is kept, and else nothing
abbrev pub kept : Bool → ℕ → ℕ
kept keep b = if keep then b else 0

-- what takes the place of byte i of a row: the sum of what is kept of it, and of what `times` gives for byte i of src
abbrev pub made_byte : Bool → (ℕ → ℕ) → List ℕ → List ℕ → ℕ → ℕ
made_byte keep times row src i = bit_xor (kept keep (slice_index row i)) (times (slice_index src i))

-- The bytes of a row below n are those of f, and the others are as they were.
pub record IsMadeBelow (n : ℕ) (f : ℕ → ℕ) (old new : List ℕ) : Type 0 where
  pub made : (i : ℕ) → i < n → slice_index new i ≡ f i
  pub same : (i : ℕ) → n ≤ i → slice_index new i ≡ slice_index old i
