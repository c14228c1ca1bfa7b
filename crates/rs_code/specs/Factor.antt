-- The factor of a fragment in another one, as a numerator and a denominator, and the sum of fragments by their factors.
use Rattle.std.specs.Prelude.{◌≡◌, ℕ, zero, suc, ◌+◌, ◌*◌, ◌<◌, List, [], ◌∷◌, length, slice_index, bit_xor, nat_eq, if◌then◌else◌}
use Rattle.gf_field.specs.Product.{product}
use Rattle.gf_field.specs.Field.{IsByte}

-- the product of x less m over the points m other than `own`
abbrev pub differences : List ℕ → ℕ → ℕ → ℕ
differences [] own x = 1
differences (m ∷ points) own x =
    if nat_eq own m then differences points own x else product (bit_xor x m) (differences points own x)

-- The byte is what the fragment of index `own` counts for in the one that is wanted, where those of these points are had.
pub record IsFactor (points : List ℕ) (own want byte : ℕ) : Type 0 where
  pub is_byte : IsByte byte
  pub quotient : product byte (differences points own own) ≡ differences points own want

-- the bytes are the factors of the fragments of all points, in their order
abbrev pub AreFactors : List ℕ → ℕ → List ℕ → Type 0
AreFactors points want factors =
    (i : ℕ) → i < length points → IsFactor points (slice_index points i) want (slice_index factors i)

-- the sum of the first n values
abbrev pub sum_of : (ℕ → ℕ) → ℕ → ℕ
sum_of value zero = 0
sum_of value (suc n) = bit_xor (sum_of value n) (value n)

-- byte c of row i, times the factor of this row, where rows of f bytes stand one after another
abbrev pub weighted_byte : List ℕ → List ℕ → ℕ → ℕ → ℕ → ℕ
weighted_byte factors rows f c i = product (slice_index factors i) (slice_index rows (i * f + c))
