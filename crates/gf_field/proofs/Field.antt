-- The laws of the field of bytes.
use Rattle.std.proofs.Common.{◌≡◌, ◌≢◌, ℕ, suc, zero, ◌+◌, ◌-◌, ◌^◌, ◌<◌, ◌⊎◌, refl, sym, ap, ap₂, ◌∙◌, true, ◌==◌, nat_lt, arith, get_or, inl, inr}
use Rattle.std.specs.Int.Bits.{bit_xor, xor_lt, xor_comm, xor_assoc, xor_self}
use Rattle.std.proofs.lemmas.Bool.{eqb-true, ltb-true, cases_eq}
use Rattle.gf_field.specs.declared.tables.TheConstants.{LOGARITHM}
use Rattle.gf_field.specs.Product.{carry_less_product, remainder, product}
use Rattle.gf_field.specs.Power.{power_of_two}
use Rattle.gf_field.specs.Field.{IsByte, IsFieldOfBytes}
use Rattle.gf_field.proofs.Checked.{all_below, at_each}
use Rattle.gf_field.proofs.Linear.{product-xor_right, product-xor_left, product-zero_left, product-zero_right, from_powers}
use Rattle.gf_field.proofs.TableFacts.{power_of_logarithm, logarithm_small, power_of_two-255}

-- ---- the laws at the powers of x, which antt computes
powers_stay : all_below 8 (λ i. all_below 8 (λ j. nat_lt (product (2 ^ i) (2 ^ j)) 256)) ≡ true
unfolding product carry_less_product remainder
powers_stay = refl

powers_commute : all_below 8 (λ i. all_below 8 (λ j. product (2 ^ i) (2 ^ j) == product (2 ^ j) (2 ^ i))) ≡ true
unfolding product carry_less_product remainder
powers_commute = refl

powers_associate : all_below 8 (λ i. all_below 8 (λ j. all_below 8 (λ k. product (product (2 ^ i) (2 ^ j)) (2 ^ k) == product (2 ^ i) (product (2 ^ j) (2 ^ k))))) ≡ true
unfolding product carry_less_product remainder
powers_associate = refl

powers_with_one : all_below 8 (λ i. product 1 (2 ^ i) == 2 ^ i) ≡ true
unfolding product carry_less_product remainder
powers_with_one = refl

-- ---- and so at all bytes
pub product_is_byte : (a b : ℕ) → IsByte a → IsByte b → IsByte (product a b)
product_is_byte a b ha hb =
    from_powers (λ u. IsByte (product u b)) (let e = product-zero_left b in omega arith)
    (λ u v p q. let e = product-xor_left u v b in let k = xor_lt 8 (product u b) (product v b) p q in omega arith) 8
    (λ i hi. from_powers (λ v. IsByte (product (2 ^ i) v)) (let e = product-zero_right (2 ^ i) in omega arith)
    (λ u v p q. let e = product-xor_right (2 ^ i) u v in let k = xor_lt 8 (product (2 ^ i) u) (product (2 ^ i) v) p q in omega arith) 8
    (λ j hj. ltb-true (product (2 ^ i) (2 ^ j)) 256 (at_each 8 (λ j. nat_lt (product (2 ^ i) (2 ^ j)) 256) (at_each 8 (λ i. all_below 8 (λ j. nat_lt (product (2 ^ i) (2 ^ j)) 256)) powers_stay i hi) j hj))
    b hb)
    a ha

pub product_comm : (a b : ℕ) → IsByte a → IsByte b → product a b ≡ product b a
product_comm a b ha hb =
    from_powers (λ u. product u b ≡ product b u) (product-zero_left b ∙ sym (product-zero_right b))
    (λ u v p q. product-xor_left u v b ∙ ap₂ bit_xor p q ∙ sym (product-xor_right b u v)) 8
    (λ i hi. from_powers (λ v. product (2 ^ i) v ≡ product v (2 ^ i)) (product-zero_right (2 ^ i) ∙ sym (product-zero_left (2 ^ i)))
    (λ u v p q. product-xor_right (2 ^ i) u v ∙ ap₂ bit_xor p q ∙ sym (product-xor_left u v (2 ^ i))) 8
    (λ j hj. eqb-true (product (2 ^ i) (2 ^ j)) (product (2 ^ j) (2 ^ i)) (at_each 8 (λ j. product (2 ^ i) (2 ^ j) == product (2 ^ j) (2 ^ i)) (at_each 8 (λ i. all_below 8 (λ j. product (2 ^ i) (2 ^ j) == product (2 ^ j) (2 ^ i))) powers_commute i hi) j hj))
    b hb)
    a ha

associates_at : (i j : ℕ) → i < 8 → j < 8 → (c : ℕ) → IsByte c → product (product (2 ^ i) (2 ^ j)) c ≡ product (2 ^ i) (product (2 ^ j) c)
associates_at i j hi hj c hc =
    let x = 2 ^ i in
    let y = 2 ^ j in
    from_powers (λ w. product (product x y) w ≡ product x (product y w))
    (product-zero_right (product x y) ∙ sym (ap (product x) (product-zero_right y) ∙ product-zero_right x))
    (λ u v p q. product-xor_right (product x y) u v ∙ ap₂ bit_xor p q ∙ sym (ap (product x) (product-xor_right y u v) ∙ product-xor_right x (product y u) (product y v))) 8
    (λ k hk. eqb-true (product (product x y) (2 ^ k)) (product x (product y (2 ^ k)))
    (at_each 8 (λ k. product (product x y) (2 ^ k) == product x (product y (2 ^ k)))
    (at_each 8 (λ j. all_below 8 (λ k. product (product x (2 ^ j)) (2 ^ k) == product x (product (2 ^ j) (2 ^ k))))
    (at_each 8 (λ i. all_below 8 (λ j. all_below 8 (λ k. product (product (2 ^ i) (2 ^ j)) (2 ^ k) == product (2 ^ i) (product (2 ^ j) (2 ^ k))))) powers_associate i hi) j hj) k hk))
    c hc

pub product_assoc : (a b c : ℕ) → IsByte a → IsByte b → IsByte c → product (product a b) c ≡ product a (product b c)
product_assoc a b c ha hb hc =
    from_powers (λ u. product (product u b) c ≡ product u (product b c))
    (ap (λ t. product t c) (product-zero_left b) ∙ product-zero_left c ∙ sym (product-zero_left (product b c)))
    (λ u v p q. ap (λ t. product t c) (product-xor_left u v b) ∙ product-xor_left (product u b) (product v b) c ∙ ap₂ bit_xor p q ∙ sym (product-xor_left u v (product b c))) 8
    (λ i hi.
    let x = 2 ^ i in
    from_powers (λ v. product (product x v) c ≡ product x (product v c))
    (ap (λ t. product t c) (product-zero_right x) ∙ product-zero_left c ∙ sym (ap (product x) (product-zero_left c) ∙ product-zero_right x))
    (λ u v p q. ap (λ t. product t c) (product-xor_right x u v) ∙ product-xor_left (product x u) (product x v) c ∙ ap₂ bit_xor p q ∙ sym (ap (product x) (product-xor_left u v c) ∙ product-xor_right x (product u c) (product v c))) 8
    (λ j hj. associates_at i j hi hj c hc)
    b hb)
    a ha

pub product-one_left : (a : ℕ) → IsByte a → product 1 a ≡ a
product-one_left a ha =
    from_powers (λ u. product 1 u ≡ u) (product-zero_right 1) (λ u v p q. product-xor_right 1 u v ∙ ap₂ bit_xor p q) 8
    (λ i hi. eqb-true (product 1 (2 ^ i)) (2 ^ i) (at_each 8 (λ i. product 1 (2 ^ i) == 2 ^ i) powers_with_one i hi)) a ha

pub product-one_right : (a : ℕ) → IsByte a → product a 1 ≡ a
product-one_right a ha = product_comm a 1 ha (omega arith) ∙ product-one_left a ha

-- ---- powers
pub power_is_byte : (n : ℕ) → IsByte (power_of_two n)
unfolding power_of_two
power_is_byte zero = omega arith
power_is_byte (suc n) = product_is_byte 2 (power_of_two n) (omega arith) (power_is_byte n)

pub power_of_two-add : (m n : ℕ) → power_of_two (m + n) ≡ product (power_of_two m) (power_of_two n)
unfolding power_of_two
power_of_two-add zero n = ap power_of_two (let e : 0 + n ≡ n = omega arith in e) ∙ sym (product-one_left (power_of_two n) (power_is_byte n))
power_of_two-add (suc m) n =
    ap power_of_two (let e : suc m + n ≡ suc (m + n) = omega arith in e)
    ∙ ap (product 2) (power_of_two-add m n)
    ∙ sym (product_assoc 2 (power_of_two m) (power_of_two n) (omega arith) (power_is_byte m) (power_is_byte n))

-- ---- inverses and quotients, by the powers that bytes are
pub product_of_powers : (i j a b : ℕ) → power_of_two i ≡ a → power_of_two j ≡ b → power_of_two (i + j) ≡ product a b
product_of_powers i j a b p q = power_of_two-add i j ∙ ap₂ product p q

pub inverse_by_powers : (i a : ℕ) → i < 255 → power_of_two i ≡ a → product a (power_of_two (255 - i)) ≡ 1
inverse_by_powers i a h p =
    sym (product_of_powers i (255 - i) a (power_of_two (255 - i)) p refl)
    ∙ ap power_of_two (let e : i + (255 - i) ≡ 255 = omega arith in e) ∙ power_of_two-255

pub quotient_by_powers : (i j a b : ℕ) → j < 255 → power_of_two i ≡ a → power_of_two j ≡ b → IsByte a → product (power_of_two (i + 255 - j)) b ≡ a
quotient_by_powers i j a b h p q ha =
    sym (product_of_powers (i + 255 - j) j (power_of_two (i + 255 - j)) b refl q)
    ∙ ap power_of_two (let e : i + 255 - j + j ≡ i + 255 = omega arith in e)
    ∙ product_of_powers i 255 a 1 p power_of_two-255 ∙ product-one_right a ha

pub has_inverse : (a : ℕ) → IsByte a → a ≢ 0 → (b : ℕ) × IsByte b × (product a b ≡ 1)
has_inverse a ha ne =
    let i = get_or LOGARITHM a 0 in (
      power_of_two (255 - i),
      power_is_byte (255 - i),
      inverse_by_powers i a (logarithm_small a ha) (power_of_logarithm a ha ne),
    )

pub cancel_zero : (a b : ℕ) → IsByte a → IsByte b → a ≢ 0 → product a b ≡ 0 → b ≡ 0
cancel_zero a b ha hb ne e =
    let inverse = has_inverse a ha ne in
    let i = inverse.0 in
    sym (product-one_left b hb)
    ∙ ap (λ t. product t b) (sym inverse.2 ∙ product_comm a i ha inverse.1)
    ∙ product_assoc i a b inverse.1 ha hb
    ∙ ap (product i) e ∙ product-zero_right i

pub no_zero_divisors : (a b : ℕ) → IsByte a → IsByte b → product a b ≡ 0 → (a ≡ 0) ⊎ (b ≡ 0)
no_zero_divisors a b ha hb e =
    elim (cases_eq a 0) [ inl z ↦ inl z | inr ne ↦ inr (cancel_zero a b ha hb ne e) ]

pub bytes_are_field : IsFieldOfBytes bit_xor product
bytes_are_field =
    record {
      sum_is_byte = λ a b ha hb. xor_lt 8 a b ha hb;
      sum_commutes = xor_comm;
      sum_associates = xor_assoc;
      sum_with_zero = λ a. refl;
      sum_with_itself = xor_self;
      product_is_byte = product_is_byte;
      product_commutes = product_comm;
      product_associates = product_assoc;
      product_with_one = product-one_left;
      product_distributes = product-xor_right;
      has_inverse = has_inverse;
      no_zero_divisors = no_zero_divisors;
    }
