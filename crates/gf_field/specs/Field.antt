-- What it means that bytes are a field.
use Rattle.std.specs.Prelude.{◌≡◌, ◌≢◌, ℕ, ◌<◌, ◌⊎◌, List}
use Rattle.std.specs.List.{AllByRecursion}

-- a number that a byte holds
abbrev pub IsByte : ℕ → Type 0
IsByte a = a < 256

-- numbers that bytes hold
abbrev pub AreBytes : List ℕ → Type 0
AreBytes xs = AllByRecursion IsByte xs

-- With this sum and this product bytes are a field, in which each byte is its own negative.
pub record IsFieldOfBytes (sum product : ℕ → ℕ → ℕ) : Type 0 where
  pub sum_is_byte : (a b : ℕ) → IsByte a → IsByte b → IsByte (sum a b)
  pub sum_commutes : (a b : ℕ) → sum a b ≡ sum b a
  pub sum_associates : (a b c : ℕ) → sum (sum a b) c ≡ sum a (sum b c)
  pub sum_with_zero : (a : ℕ) → sum 0 a ≡ a
  pub sum_with_itself : (a : ℕ) → sum a a ≡ 0
  pub product_is_byte : (a b : ℕ) → IsByte a → IsByte b → IsByte (product a b)
  pub product_commutes : (a b : ℕ) → IsByte a → IsByte b → product a b ≡ product b a
  pub product_associates : (a b c : ℕ) → IsByte a → IsByte b → IsByte c → product (product a b) c ≡ product a (product b c)
  pub product_with_one : (a : ℕ) → IsByte a → product 1 a ≡ a
  pub product_distributes : (a b c : ℕ) → product a (sum b c) ≡ sum (product a b) (product a c)
  pub has_inverse : (a : ℕ) → IsByte a → a ≢ 0 → (b : ℕ) × IsByte b × (product a b ≡ 1)
  pub no_zero_divisors : (a b : ℕ) → IsByte a → IsByte b → product a b ≡ 0 → (a ≡ 0) ⊎ (b ≡ 0)
