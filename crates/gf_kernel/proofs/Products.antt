-- The products of a byte: by doubling, by its bits, and by the halves of the other byte.
use Rattle.std.proofs.Common.{◌≡◌, ℕ, ◌+◌, ◌*◌, ◌/◌, ◌%◌, ◌^◌, ◌<◌, get_or, refl, sym, ap, ap₂, ◌∙◌, true, ◌==◌, arith, bit_xor}
use Rattle.std.proofs.Math.Numerals.{add-one}
use Rattle.std.proofs.lemmas.Bool.{eqb-true}
use Rattle.std.proofs.lemmas.Nat.{mod-pow-add, pow_pos}
use Rattle.std.specs.Int.Bits.{xor_shifted, xor_comm}
use Rattle.gf_field.specs.Product.{carry_less_product, remainder, product}
use Rattle.gf_field.specs.Power.{power_of_two}
use Rattle.gf_field.specs.Field.{IsByte}
use Rattle.gf_field.proofs.Checked.{all_below, at_each}
use Rattle.gf_field.proofs.Linear.{product-xor_left, product-xor_right}
use Rattle.gf_field.proofs.Field.{product_assoc, product-one_left, power_is_byte}
use Rattle.gf_kernel.specs.declared.halves.TheConstants.{HALF_BYTES}

doubles : all_below 256 (λ a. bit_xor (a * 2 ^ 1 % 2 ^ 8) (a / 2 ^ 7 * 29 % 2 ^ 8) == product 2 a) ≡ true
unfolding product carry_less_product remainder
doubles = refl

-- shifted by one place, and reduced where a bit went out
pub shifted_and_reduced : (a : ℕ) → IsByte a → bit_xor (a * 2 ^ 1 % 2 ^ 8) (a / 2 ^ 7 * 29 % 2 ^ 8) ≡ product 2 a
shifted_and_reduced a h =
    eqb-true (bit_xor (a * 2 ^ 1 % 2 ^ 8) (a / 2 ^ 7 * 29 % 2 ^ 8)) (product 2 a)
    (at_each 256 (λ b. bit_xor (b * 2 ^ 1 % 2 ^ 8) (b / 2 ^ 7 * 29 % 2 ^ 8) == product 2 b) doubles a h)

powers : all_below 8 (λ i. power_of_two i == 2 ^ i) ≡ true
unfolding power_of_two product carry_less_product remainder
powers = refl

-- 2 to a power that is a place of a byte
power_of_place : (i : ℕ) → i < 8 → power_of_two i ≡ 2 ^ i
power_of_place i h = eqb-true (power_of_two i) (2 ^ i) (at_each 8 (λ j. power_of_two j == 2 ^ j) powers i h)

pub doubled_not_at_all : (b : ℕ) → IsByte b → product (power_of_two 0) b ≡ b
unfolding power_of_two
doubled_not_at_all b h = product-one_left b h

-- a product, doubled
pub doubled_once_more : (i b : ℕ) → IsByte b → product 2 (product (power_of_two i) b) ≡ product (power_of_two (i + 1)) b
unfolding power_of_two
doubled_once_more i b h =
    sym (product_assoc 2 (power_of_two i) b (omega arith) (power_is_byte i) h) ∙ ap (λ n. product (power_of_two n) b) (sym (add-one i))

-- the product with one more bit of c, where x is that bit
with_one_more_bit : (c b i x : ℕ) → c / 2 ^ i % 2 ≡ x → product (c % 2 ^ (i + 1)) b ≡ bit_xor (product (c % 2 ^ i) b) (product (x * 2 ^ i) b)
with_one_more_bit c b i x e =
    let low : c % 2 ^ i < 2 ^ i = let p = pow_pos i in omega arith in
    let split : c % 2 ^ (i + 1) ≡ x * 2 ^ i + c % 2 ^ i =
    ap (λ n. c % 2 ^ n) (let s : i + 1 ≡ 1 + i = omega arith in s) ∙ mod-pow-add c 1 i ∙ ap (λ y. y * 2 ^ i + c % 2 ^ i) e
    in
    ap (λ n. product n b) (split ∙ sym (xor_shifted x i (c % 2 ^ i) low) ∙ xor_comm (x * 2 ^ i) (c % 2 ^ i))
    ∙ product-xor_left (c % 2 ^ i) (x * 2 ^ i) b

pub bit_is_one : (c b i : ℕ) → i < 8 → c / 2 ^ i % 2 ≡ 1 → product (c % 2 ^ (i + 1)) b ≡ bit_xor (product (c % 2 ^ i) b) (product (power_of_two i) b)
bit_is_one c b i h e =
    with_one_more_bit c b i 1 e
    ∙ ap (λ p. bit_xor (product (c % 2 ^ i) b) (product p b)) (let one : 1 * 2 ^ i ≡ 2 ^ i = omega arith in one ∙ sym (power_of_place i h))

pub bit_is_zero : (c b i : ℕ) → c / 2 ^ i % 2 ≡ 0 → product (c % 2 ^ (i + 1)) b ≡ product (c % 2 ^ i) b
bit_is_zero c b i e =
    let low : c % 2 ^ i < 2 ^ i = let p = pow_pos i in omega arith in
    ap (λ n. product n b)
    (ap (λ n. c % 2 ^ n) (let s : i + 1 ≡ 1 + i = omega arith in s) ∙ mod-pow-add c 1 i ∙ ap (λ y. y * 2 ^ i + c % 2 ^ i) e ∙ omega arith)

lower_halves : all_below 16 (λ k. get_or HALF_BYTES k 0 == k) ≡ true
lower_halves = refl

upper_halves : all_below 16 (λ k. get_or HALF_BYTES (16 + k) 0 == k * 2 ^ 4) ≡ true
upper_halves = refl

-- the product with a byte is the sum of those with its halves
pub from_halves : (c b : ℕ) → IsByte b → bit_xor (product c (get_or HALF_BYTES (b % 16) 0)) (product c (get_or HALF_BYTES (16 + b / 16) 0)) ≡ product c b
from_halves c b h =
    let low = eqb-true (get_or HALF_BYTES (b % 16) 0) (b % 16) (at_each 16 (λ k. get_or HALF_BYTES k 0 == k) lower_halves (b % 16) (omega arith)) in
    let high = eqb-true (get_or HALF_BYTES (16 + b / 16) 0) (b / 16 * 2 ^ 4) (at_each 16 (λ k. get_or HALF_BYTES (16 + k) 0 == k * 2 ^ 4) upper_halves (b / 16) (omega arith)) in
    ap₂ bit_xor (ap (product c) low) (ap (product c) high)
    ∙ sym (product-xor_right c (b % 16) (b / 16 * 2 ^ 4))
    ∙ ap (product c) (xor_comm (b % 16) (b / 16 * 2 ^ 4) ∙ xor_shifted (b / 16) 4 (b % 16) (omega arith) ∙ omega arith)

bytes : all_below 32 (λ k. get_or HALF_BYTES k 0 % 256 == get_or HALF_BYTES k 0) ≡ true
bytes = refl

pub half_is_byte : (k : ℕ) → k < 32 → IsByte (get_or HALF_BYTES k 0)
half_is_byte k h =
    let e = eqb-true (get_or HALF_BYTES k 0 % 256) (get_or HALF_BYTES k 0) (at_each 32 (λ k. get_or HALF_BYTES k 0 % 256 == get_or HALF_BYTES k 0) bytes k h) in
    omega arith
