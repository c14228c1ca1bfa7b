-- The product of two bytes. A byte is a polynomial over the field of two elements: its bit i is the coefficient of x^i.
-- So the sum of two bytes is their `bit_xor`, and shifting by n places multiplies by x^n.
use Rattle.std.specs.Prelude.{ℕ, suc, zero, ◌+◌, ◌*◌, ◌^◌, bit_xor}
use Rattle.std.specs.Int.{bit_at}

-- a times the lowest n coefficients of b: for each bit of b that is one, a shifted by its place, added without carries
unfoldable pub carry_less_product : ℕ → ℕ → ℕ → ℕ
carry_less_product zero a b = 0
carry_less_product (suc n) a b = bit_xor (bit_at b n * (a * 2 ^ n)) (carry_less_product n a b)

-- what is left of r, which has at most n + 8 bits, after division by x^8 + x^4 + x^3 + x^2 + 1, whose bits are 0x11d:
-- from the highest bit down to bit 8, where the bit is one, the polynomial is taken away, shifted to that bit
unfoldable pub remainder : ℕ → ℕ → ℕ
remainder zero r = r
remainder (suc n) r = remainder n (bit_xor r (bit_at r (n + 8) * (0x11d * 2 ^ n)))

-- the product of the bytes a and b: the product of all eight coefficients, which has at most 15 bits, reduced
unfoldable pub product : ℕ → ℕ → ℕ
product a b = remainder 7 (carry_less_product 8 a b)
