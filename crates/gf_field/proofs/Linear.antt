-- The product is linear in each factor, so a law of it holds of all bytes where it holds of the eight powers of x.
use Rattle.std.proofs.Common.{◌≡◌, ℕ, suc, zero, ◌+◌, ◌*◌, ◌^◌, ◌<◌, ◌-◌, ◌%◌, refl, sym, ap, ap₂, ◌∙◌, subst, arith, inl, inr}
use Rattle.std.proofs.Math.Nat.{zero-mul, one-mul, add-zero, pow-suc}
use Rattle.std.specs.Int.{bit_at}
use Rattle.std.specs.Int.Bits.{bit_xor, xor_assoc, xor_comm, xor_self, xor_zero_r, xor_block, xor_shifted}
use Rattle.std.proofs.lemmas.Nat.Bits.{bit_at_xor, bit_at-lt}
use Rattle.std.proofs.lemmas.Bool.{cases_lt}
use Rattle.std.proofs.lemmas.Nat.{pow_pos}
use Rattle.gf_field.specs.Product.{carry_less_product, remainder, product}

-- (a + b) + (c + d) = (a + c) + (b + d)
pub xor_exchange : (a b c d : ℕ) → bit_xor (bit_xor a b) (bit_xor c d) ≡ bit_xor (bit_xor a c) (bit_xor b d)
xor_exchange a b c d =
    xor_assoc a b (bit_xor c d)
    ∙ ap (bit_xor a) (sym (xor_assoc b c d) ∙ ap (λ t. bit_xor t d) (xor_comm b c) ∙ xor_assoc c b d)
    ∙ sym (xor_assoc a c (bit_xor b d))

-- a shift goes through a sum
shifted_xor : (a b n : ℕ) → bit_xor a b * 2 ^ n ≡ bit_xor (a * 2 ^ n) (b * 2 ^ n)
shifted_xor a b n =
    sym (add-zero (bit_xor a b * 2 ^ n)) ∙ sym (xor_block n a b 0 0 (pow_pos n) (pow_pos n))
    ∙ ap₂ bit_xor (add-zero (a * 2 ^ n)) (add-zero (b * 2 ^ n))

-- a bit times a sum
bit_times_xor : (x v w : ℕ) → x < 2 → x * bit_xor v w ≡ bit_xor (x * v) (x * w)
bit_times_xor zero v w h =
    zero-mul (bit_xor v w) ∙ sym (ap₂ bit_xor (zero-mul v) (zero-mul w))
bit_times_xor (suc zero) v w h = one-mul (bit_xor v w) ∙ sym (ap₂ bit_xor (one-mul v) (one-mul w))
bit_times_xor (suc (suc x)) v w h = absurd (omega arith)

-- a sum of bits times a number
bits_times : (x y v : ℕ) → x < 2 → y < 2 → (x + y) % 2 * v ≡ bit_xor (x * v) (y * v)
bits_times zero zero v h k = zero-mul v ∙ sym (xor_self (0 * v))
bits_times zero (suc zero) v h k = sym (ap (λ t. bit_xor t (1 * v)) (zero-mul v))
bits_times (suc zero) zero v h k = sym (ap (bit_xor (1 * v)) (zero-mul v) ∙ xor_zero_r (1 * v))
bits_times (suc zero) (suc zero) v h k = zero-mul v ∙ sym (xor_self (1 * v))
bits_times (suc (suc x)) y v h k = absurd (omega arith)
bits_times zero (suc (suc y)) v h k = absurd (omega arith)
bits_times (suc zero) (suc (suc y)) v h k = absurd (omega arith)

-- the bit of a sum times a number
bit_of_xor_times : (a b i v : ℕ) → bit_at (bit_xor a b) i * v ≡ bit_xor (bit_at a i * v) (bit_at b i * v)
bit_of_xor_times a b i v =
    ap (λ t. t * v) (bit_at_xor a b i) ∙ bits_times (bit_at a i) (bit_at b i) v (bit_at-lt a i) (bit_at-lt b i)

carry_less_product-xor_right : (n a b c : ℕ) → carry_less_product n a (bit_xor b c) ≡ bit_xor (carry_less_product n a b) (carry_less_product n a c)
unfolding carry_less_product
carry_less_product-xor_right zero a b c = refl
carry_less_product-xor_right (suc n) a b c =
    ap₂ bit_xor (bit_of_xor_times b c n (a * 2 ^ n)) (carry_less_product-xor_right n a b c)
    ∙ xor_exchange (bit_at b n * (a * 2 ^ n)) (bit_at c n * (a * 2 ^ n)) (carry_less_product n a b) (carry_less_product n a c)

carry_less_product-xor_left : (n a b c : ℕ) → carry_less_product n (bit_xor a b) c ≡ bit_xor (carry_less_product n a c) (carry_less_product n b c)
unfolding carry_less_product
carry_less_product-xor_left zero a b c = refl
carry_less_product-xor_left (suc n) a b c =
    ap₂ bit_xor
    (ap (λ t. bit_at c n * t) (shifted_xor a b n) ∙ bit_times_xor (bit_at c n) (a * 2 ^ n) (b * 2 ^ n) (bit_at-lt c n))
    (carry_less_product-xor_left n a b c)
    ∙ xor_exchange (bit_at c n * (a * 2 ^ n)) (bit_at c n * (b * 2 ^ n)) (carry_less_product n a c) (carry_less_product n b c)

remainder-xor : (n r s : ℕ) → remainder n (bit_xor r s) ≡ bit_xor (remainder n r) (remainder n s)
unfolding remainder
remainder-xor zero r s = refl
remainder-xor (suc n) r s =
    let taken = λ (t : ℕ). bit_at t (n + 8) * (0x11d * 2 ^ n) in
    ap (λ t. remainder n (bit_xor (bit_xor r s) t)) (bit_of_xor_times r s (n + 8) (0x11d * 2 ^ n))
    ∙ ap (remainder n) (xor_exchange r s (taken r) (taken s))
    ∙ remainder-xor n (bit_xor r (taken r)) (bit_xor s (taken s))

-- a sum goes through the product, in either factor
pub product-xor_right : (a b c : ℕ) → product a (bit_xor b c) ≡ bit_xor (product a b) (product a c)
unfolding product
product-xor_right a b c =
    ap (remainder 7) (carry_less_product-xor_right 8 a b c) ∙ remainder-xor 7 (carry_less_product 8 a b) (carry_less_product 8 a c)

pub product-xor_left : (a b c : ℕ) → product (bit_xor a b) c ≡ bit_xor (product a c) (product b c)
unfolding product
product-xor_left a b c =
    ap (remainder 7) (carry_less_product-xor_left 8 a b c) ∙ remainder-xor 7 (carry_less_product 8 a c) (carry_less_product 8 b c)

pub product-zero_left : (b : ℕ) → product 0 b ≡ 0
product-zero_left b = product-xor_left 0 0 b ∙ xor_self (product 0 b)

pub product-zero_right : (a : ℕ) → product a 0 ≡ 0
product-zero_right a = product-xor_right a 0 0 ∙ xor_self (product a 0)

-- what holds of 0, of the first n powers of x, and of sums, holds of each number of n bits
pub from_powers : (P : ℕ → Type 0) → P 0 → ((a b : ℕ) → P a → P b → P (bit_xor a b)) → (n : ℕ) → ((i : ℕ) → i < n → P (2 ^ i)) → (a : ℕ) → a < 2 ^ n → P a
from_powers P z s zero h a lt = let e : 0 ≡ a = omega arith in subst P e z
from_powers P z s (suc n) h a lt =
    let twice = pow-suc 2 n in
    let below : (i : ℕ) → i < n → P (2 ^ i) = λ i k. h i (omega arith) in
    elim (cases_lt a (2 ^ n)) [
      | inl small ↦ from_powers P z s n below a small
      | inr large ↦
          let rest : a - 2 ^ n < 2 ^ n = omega arith in
          let e : bit_xor (2 ^ n) (a - 2 ^ n) ≡ a =
          ap (λ t. bit_xor t (a - 2 ^ n)) (sym (one-mul (2 ^ n))) ∙ xor_shifted 1 n (a - 2 ^ n) rest
          ∙ (let o = one-mul (2 ^ n) in omega arith)
          in
          subst P e (s (2 ^ n) (a - 2 ^ n) (h n (omega arith)) (from_powers P z s n below (a - 2 ^ n) rest))
    ]
