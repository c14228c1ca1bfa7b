-- The powers of 2, which is the polynomial x.
use Rattle.std.specs.Prelude.{ℕ, suc, zero}
use Rattle.gf_field.specs.Product.{product}

-- 2 to the power n, in the field
unfoldable pub power_of_two : ℕ → ℕ
power_of_two zero = 1
power_of_two (suc n) = product 2 (power_of_two n)
