-- Polynomials over the field of bytes, and the codewords that they make.
use Rattle.std.specs.Prelude.{◌≡◌, ℕ, List, [], ◌∷◌, length, map, nat_eq, bit_xor}
use Rattle.std.specs.List.{IsDistinct, range_with_len}
use Rattle.gf_field.specs.Product.{product}
use Rattle.gf_field.specs.Field.{AreBytes}

-- the value at the point x of the polynomial whose coefficients, the lowest first, are these
abbrev pub value_at : List ℕ → ℕ → ℕ
value_at [] x = 0
value_at (c ∷ cs) x = bit_xor c (product x (value_at cs x))

-- The n bytes are the values of one polynomial of degree below k at the points 0 to n - 1.
pub record IsCodeword (k n : ℕ) (bytes : List ℕ) : Type 0 where
  pub coefficients : List ℕ
  pub degree_below : length coefficients ≡ k
  pub are_bytes : AreBytes coefficients
  pub values : bytes ≡ map (value_at coefficients) (range_with_len 0 n)

-- Polynomials with as many coefficients as there are points, and the same value at each point, are the same.
abbrev pub AtMostOnePolynomial : Type 0
AtMostOnePolynomial =
    (points p q : List ℕ) → AreBytes points → IsDistinct nat_eq points
    → AreBytes p → AreBytes q → length p ≡ length points → length q ≡ length points
    → map (value_at p) points ≡ map (value_at q) points
    → p ≡ q
