-- At most one polynomial of degree below k has given values at k distinct points.
use Rattle.std.proofs.Common.{◌≡◌, ℕ, suc, List, [], ◌∷◌, length, map, nat_eq, false, refl, sym, ap, ap₂, ◌∙◌, arith}
use Rattle.std.specs.List.{AllByRecursion, IsDistinct}
use Rattle.std.proofs.lemmas.Bool.{eq-eqb, false≢true}
use Rattle.std.proofs.lemmas.Map.Keys.{IsDistinct-head, IsDistinct-tail}
use Rattle.std.specs.Int.Bits.{bit_xor, xor_assoc, xor_comm, xor_self, xor_zero_r, xor_lt}
use Rattle.gf_field.specs.Product.{product}
use Rattle.gf_field.specs.Field.{IsByte, AreBytes}
use Rattle.gf_field.specs.Polynomial.{value_at, AtMostOnePolynomial}
use Rattle.gf_field.proofs.Linear.{xor_exchange, product-xor_right, product-xor_left, product-zero_right}
use Rattle.gf_field.proofs.Field.{product_is_byte, product_comm, product_assoc, cancel_zero}

-- each coefficient is 0
abbrev pub AreZero : List ℕ → Type 0
AreZero cs = AllByRecursion (λ c. c ≡ 0) cs

-- ---- sums
pub same_from_xor : (a b : ℕ) → bit_xor a b ≡ 0 → a ≡ b
same_from_xor a b e =
    sym (xor_zero_r a) ∙ ap (bit_xor a) (sym (xor_self b)) ∙ sym (xor_assoc a b b) ∙ ap (λ t. bit_xor t b) e

-- (c + b) + ((a + b) + d) = c + (a + d)
xor_twice : (a b c d : ℕ) → bit_xor (bit_xor c b) (bit_xor (bit_xor a b) d) ≡ bit_xor c (bit_xor a d)
xor_twice a b c d =
    xor_assoc c b (bit_xor (bit_xor a b) d)
    ∙ ap (bit_xor c)
    (sym (xor_assoc b (bit_xor a b) d)
    ∙ ap (λ t. bit_xor t d) (xor_comm b (bit_xor a b) ∙ xor_assoc a b b ∙ ap (bit_xor a) (xor_self b) ∙ xor_zero_r a))

pub product_left_comm : (a b c : ℕ) → IsByte a → IsByte b → IsByte c → product a (product b c) ≡ product b (product a c)
product_left_comm a b c ha hb hc =
    sym (product_assoc a b c ha hb hc) ∙ ap (λ t. product t c) (product_comm a b ha hb) ∙ product_assoc b a c hb ha hc

-- ---- values
pub value_is_byte : (cs : List ℕ) (x : ℕ) → AreBytes cs → IsByte x → IsByte (value_at cs x)
value_is_byte [] x h hx = omega arith
value_is_byte (c ∷ cs) x h hx = xor_lt 8 c (product x (value_at cs x)) h.0 (product_is_byte x (value_at cs x) hx (value_is_byte cs x h.1 hx))

-- the sum of two polynomials with as many coefficients
abbrev pub polynomial_sum : List ℕ → List ℕ → List ℕ
polynomial_sum [] q = []
polynomial_sum (a ∷ p) [] = []
polynomial_sum (a ∷ p) (b ∷ q) = bit_xor a b ∷ polynomial_sum p q

pub length-polynomial_sum : (p q : List ℕ) → length p ≡ length q → length (polynomial_sum p q) ≡ length p
length-polynomial_sum [] q h = refl
length-polynomial_sum (a ∷ p) [] h = cc
length-polynomial_sum (a ∷ p) (b ∷ q) h = ap suc (length-polynomial_sum p q cc)

pub sum_is_bytes : (p q : List ℕ) → AreBytes p → AreBytes q → AreBytes (polynomial_sum p q)
sum_is_bytes [] q h k = tt
sum_is_bytes (a ∷ p) [] h k = tt
sum_is_bytes (a ∷ p) (b ∷ q) h k = (xor_lt 8 a b h.0 k.0, sum_is_bytes p q h.1 k.1)

pub value_at-polynomial_sum : (p q : List ℕ) (x : ℕ) → length p ≡ length q → value_at (polynomial_sum p q) x ≡ bit_xor (value_at p x) (value_at q x)
value_at-polynomial_sum [] [] x h = refl
value_at-polynomial_sum [] (b ∷ q) x h = cc
value_at-polynomial_sum (a ∷ p) [] x h = cc
value_at-polynomial_sum (a ∷ p) (b ∷ q) x h =
    ap (λ t. bit_xor (bit_xor a b) (product x t)) (value_at-polynomial_sum p q x cc)
    ∙ ap (bit_xor (bit_xor a b)) (product-xor_right x (value_at p x) (value_at q x))
    ∙ xor_exchange a b (product x (value_at p x)) (product x (value_at q x))

same_from_zero_sum : (p q : List ℕ) → length p ≡ length q → AreZero (polynomial_sum p q) → p ≡ q
same_from_zero_sum [] [] h z = refl
same_from_zero_sum [] (b ∷ q) h z = cc
same_from_zero_sum (a ∷ p) [] h z = cc
same_from_zero_sum (a ∷ p) (b ∷ q) h z = ap₂ ◌∷◌ (same_from_xor a b z.0) (same_from_zero_sum p q (cc) z.1)

-- ---- division by x - r
-- The quotient of c ∷ cs by x - r: the values at r of the ends of cs. The remainder is the value of c ∷ cs at r.
quotient : ℕ → List ℕ → List ℕ
quotient r [] = []
quotient r (c ∷ cs) = value_at (c ∷ cs) r ∷ quotient r cs

length-quotient : (r : ℕ) (cs : List ℕ) → length (quotient r cs) ≡ length cs
unfolding quotient
length-quotient r [] = refl
length-quotient r (c ∷ cs) = ap suc (length-quotient r cs)

quotient_is_bytes : (r : ℕ) (cs : List ℕ) → IsByte r → AreBytes cs → AreBytes (quotient r cs)
unfolding quotient
quotient_is_bytes r [] hr h = tt
quotient_is_bytes r (c ∷ cs) hr h = (value_is_byte (c ∷ cs) r h hr, quotient_is_bytes r cs hr h.1)

value_at-quotient : (r x c : ℕ) (cs : List ℕ) → IsByte r → IsByte x → AreBytes cs
    → value_at (c ∷ cs) x ≡ bit_xor (value_at (c ∷ cs) r) (product (bit_xor x r) (value_at (quotient r cs) x))
unfolding quotient
value_at-quotient r x c [] hr hx h =
    ap (bit_xor c) (product-zero_right x)
    ∙ sym (ap₂ bit_xor (ap (bit_xor c) (product-zero_right r)) (product-zero_right (bit_xor x r)) ∙ xor_zero_r (bit_xor c 0))
value_at-quotient r x c (d ∷ ds) hr hx h =
    let w = value_at (d ∷ ds) r in
    let q = value_at (quotient r ds) x in
    let hq = value_is_byte (quotient r ds) x (quotient_is_bytes r ds hr h.1) hx in
    let hxr = xor_lt 8 x r hx hr in
    ap (λ t. bit_xor c (product x t)) (value_at-quotient r x d ds hr hx h.1)
    ∙ ap (bit_xor c) (product-xor_right x w (product (bit_xor x r) q))
    ∙ sym
    (ap (bit_xor (bit_xor c (product r w)))
    (product-xor_right (bit_xor x r) w (product x q)
    ∙ ap₂ bit_xor (product-xor_left x r w) (product_left_comm (bit_xor x r) x q hxr hx hq))
    ∙ xor_twice (product x w) (product r w) c (product x (product (bit_xor x r) q)))

zero_from_quotient : (r c : ℕ) (cs : List ℕ) → value_at (c ∷ cs) r ≡ 0 → AreZero (quotient r cs) → AreZero (c ∷ cs)
unfolding quotient
zero_from_quotient r c [] e z = (sym (xor_zero_r c) ∙ ap (bit_xor c) (sym (product-zero_right r)) ∙ e, tt)
zero_from_quotient r c (d ∷ ds) e z =
    (sym (xor_zero_r c) ∙ ap (bit_xor c) (sym (ap (product r) z.0 ∙ product-zero_right r)) ∙ e, zero_from_quotient r d ds z.0 z.1)

-- ---- a polynomial with as many roots as coefficients is 0
roots_of_quotient : (r c : ℕ) (cs points : List ℕ) → IsByte r → AreBytes cs → value_at (c ∷ cs) r ≡ 0
    → AreBytes points → AllByRecursion (λ y. nat_eq r y ≡ false) points → AllByRecursion (λ x. value_at (c ∷ cs) x ≡ 0) points
    → AllByRecursion (λ x. value_at (quotient r cs) x ≡ 0) points
roots_of_quotient r c cs [] hr h e hs ne z = tt
roots_of_quotient r c cs (x ∷ xs) hr h e hs ne z =
    let q = value_at (quotient r cs) x in
    let hq = value_is_byte (quotient r cs) x (quotient_is_bytes r cs hr h) hs.0 in
    let p : product (bit_xor x r) q ≡ 0 =
    ap (λ t. bit_xor t (product (bit_xor x r) q)) (sym e) ∙ sym (value_at-quotient r x c cs hr hs.0 h) ∙ z.0
    in (
      cancel_zero (bit_xor x r) q (xor_lt 8 x r hs.0 hr) hq (λ k. false≢true (sym ne.0 ∙ eq-eqb r x (sym (same_from_xor x r k)))) p,
      roots_of_quotient r c cs xs hr h e hs.1 ne.1 z.1,
    )

pub zero_from_roots : (points cs : List ℕ) → AreBytes points → IsDistinct nat_eq points → length cs ≡ length points → AreBytes cs
    → AllByRecursion (λ x. value_at cs x ≡ 0) points → AreZero cs
zero_from_roots [] [] hs d l h z = tt
zero_from_roots [] (c ∷ cs) hs d l h z = cc
zero_from_roots (r ∷ rs) [] hs d l h z = tt
zero_from_roots (r ∷ rs) (c ∷ cs) hs d l h z =
    zero_from_quotient r c cs z.0
    (zero_from_roots rs (quotient r cs) hs.1 (IsDistinct-tail nat_eq r rs d) (length-quotient r cs ∙ cc) (quotient_is_bytes r cs hs.0 h.1)
    (roots_of_quotient r c cs rs hs.0 h.1 z.0 hs.1 (IsDistinct-head nat_eq r rs d) z.1))

-- ---- two polynomials with the same values are one
roots_of_sum : (p q points : List ℕ) → length p ≡ length q → map (value_at p) points ≡ map (value_at q) points
    → AllByRecursion (λ x. value_at (polynomial_sum p q) x ≡ 0) points
roots_of_sum p q [] l e = tt
roots_of_sum p q (x ∷ xs) l e =
    let same : value_at p x ≡ value_at q x = cc in (
      value_at-polynomial_sum p q x l ∙ ap (λ t. bit_xor t (value_at q x)) same ∙ xor_self (value_at q x),
      roots_of_sum p q xs l cc,
    )

pub at_most_one_polynomial : AtMostOnePolynomial
at_most_one_polynomial points p q hs d hp hq lp lq e =
    let l = lp ∙ sym lq in
    same_from_zero_sum p q l
    (zero_from_roots points (polynomial_sum p q) hs d (length-polynomial_sum p q l ∙ lp) (sum_is_bytes p q hp hq) (roots_of_sum p q points l e))
