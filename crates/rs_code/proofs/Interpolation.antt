-- Through given values at distinct points goes one polynomial with as many coefficients, and what its value is at any byte.
use Rattle.std.proofs.Common.{◌≡◌, ◌≢◌, ℕ, suc, zero, ◌-◌, ◌<◌, ◌⊎◌, List, [], ◌∷◌, ◌++◌, length, map, get_or, false, nat_eq, refl, sym, ap, ap₂, ◌∙◌, arith, inl, inr, subst}
use Rattle.std.specs.List.{AllByRecursion, IsDistinct}
use Rattle.std.proofs.lemmas.Bool.{eqb-false, ne_eqb, eq-eqb, cond_both, cond-true, cond-false}
use Rattle.std.proofs.lemmas.List.{length-map}
use Rattle.std.proofs.lemmas.Map.Keys.{IsDistinct-head, IsDistinct-tail}
use Rattle.std.specs.Int.Bits.{bit_xor, xor_self, xor_zero_r, xor_lt}
use Rattle.gf_field.specs.declared.tables.TheConstants.{LOGARITHM}
use Rattle.gf_field.specs.Product.{product}
use Rattle.gf_field.specs.Power.{power_of_two}
use Rattle.gf_field.specs.Field.{IsByte, AreBytes}
use Rattle.gf_field.specs.Polynomial.{value_at}
use Rattle.gf_field.proofs.TableFacts.{power_of_logarithm, logarithm_small}
use Rattle.gf_field.proofs.Linear.{product-xor_right, product-xor_left, product-zero_right, product-zero_left}
use Rattle.gf_field.proofs.Field.{product_is_byte, product_comm, product_assoc, product-one_left, product-one_right, power_is_byte, inverse_by_powers, no_zero_divisors}
use Rattle.gf_field.proofs.Polynomial.{same_from_xor, product_left_comm, value_is_byte, polynomial_sum, length-polynomial_sum, sum_is_bytes, value_at-polynomial_sum, at_most_one_polynomial}
use Rattle.rs_code.specs.Factor.{differences}

-- ---- polynomials as functions
-- the function has the values of a polynomial with n coefficients
pub record IsPolynomial (n : ℕ) (g : ℕ → ℕ) : Type 0 where
  pub coefficients : List ℕ
  pub degree_below : length coefficients ≡ n
  pub are_bytes : AreBytes coefficients
  pub values : (x : ℕ) → IsByte x → value_at coefficients x ≡ g x

same_function : (n : ℕ) (g h : ℕ → ℕ) → IsPolynomial n g → ((x : ℕ) → IsByte x → g x ≡ h x) → IsPolynomial n h
same_function n g h p e = record {
  coefficients = p.coefficients;
  degree_below = p.degree_below;
  are_bytes = p.are_bytes;
  values = λ x hx. p.values x hx ∙ e x hx;
}

one_polynomial : IsPolynomial 1 (λ x. 1)
one_polynomial = record {
  coefficients = 1 ∷ [];
  degree_below = refl;
  are_bytes = (let h : 1 < 256 = omega arith in h, tt);
  values = λ x hx. ap (bit_xor 1) (product-zero_right x) ∙ xor_zero_r 1;
}

zeros : ℕ → List ℕ
zeros zero = []
zeros (suc n) = 0 ∷ zeros n

length-zeros : (n : ℕ) → length (zeros n) ≡ n
unfolding zeros
length-zeros zero = refl
length-zeros (suc n) = ap suc (length-zeros n)

zeros_are_bytes : (n : ℕ) → AreBytes (zeros n)
unfolding zeros
zeros_are_bytes zero = tt
zeros_are_bytes (suc n) = (let h : 0 < 256 = omega arith in h, zeros_are_bytes n)

value_at-zeros : (n x : ℕ) → value_at (zeros n) x ≡ 0
unfolding zeros
value_at-zeros zero x = refl
value_at-zeros (suc n) x = ap (product x) (value_at-zeros n x) ∙ product-zero_right x

zero_polynomial : (n : ℕ) → IsPolynomial n (λ x. 0)
zero_polynomial n = record {
  coefficients = zeros n;
  degree_below = length-zeros n;
  are_bytes = zeros_are_bytes n;
  values = λ x hx. value_at-zeros n x;
}

sum_of_polynomials : (n : ℕ) (g h : ℕ → ℕ) → IsPolynomial n g → IsPolynomial n h → IsPolynomial n (λ x. bit_xor (g x) (h x))
sum_of_polynomials n g h p q =
    let l = p.degree_below ∙ sym q.degree_below in
    record {
      coefficients = polynomial_sum p.coefficients q.coefficients;
      degree_below = length-polynomial_sum p.coefficients q.coefficients l ∙ p.degree_below;
      are_bytes = sum_is_bytes p.coefficients q.coefficients p.are_bytes q.are_bytes;
      values = λ x hx. value_at-polynomial_sum p.coefficients q.coefficients x l ∙ ap₂ bit_xor (p.values x hx) (q.values x hx);
    }

times_are_bytes : (a : ℕ) (cs : List ℕ) → IsByte a → AreBytes cs → AreBytes (map (product a) cs)
times_are_bytes a [] ha h = tt
times_are_bytes a (c ∷ cs) ha h = (product_is_byte a c ha h.0, times_are_bytes a cs ha h.1)

value_at-times : (a : ℕ) (cs : List ℕ) (x : ℕ) → IsByte a → AreBytes cs → IsByte x → value_at (map (product a) cs) x ≡ product a (value_at cs x)
value_at-times a [] x ha h hx = sym (product-zero_right a)
value_at-times a (c ∷ cs) x ha h hx =
    let v = value_at cs x in
    ap (λ t. bit_xor (product a c) (product x t)) (value_at-times a cs x ha h.1 hx)
    ∙ ap (bit_xor (product a c)) (product_left_comm x a v hx ha (value_is_byte cs x h.1 hx))
    ∙ sym (product-xor_right a c (product x v))

byte_times_polynomial : (n a : ℕ) (g : ℕ → ℕ) → IsByte a → IsPolynomial n g → IsPolynomial n (λ x. product a (g x))
byte_times_polynomial n a g ha p = record {
  coefficients = map (product a) p.coefficients;
  degree_below = length-map p.coefficients (product a) ∙ p.degree_below;
  are_bytes = times_are_bytes a p.coefficients ha p.are_bytes;
  values = λ x hx. value_at-times a p.coefficients x ha p.are_bytes hx ∙ ap (product a) (p.values x hx);
}

x_times_polynomial : (n : ℕ) (g : ℕ → ℕ) → IsPolynomial n g → IsPolynomial (suc n) (λ x. product x (g x))
x_times_polynomial n g p = record {
  coefficients = 0 ∷ p.coefficients;
  degree_below = ap suc p.degree_below;
  are_bytes = (let h : 0 < 256 = omega arith in h, p.are_bytes);
  values = λ x hx. ap (product x) (p.values x hx);
}

length-raised : (cs : List ℕ) → length (cs ++ 0 ∷ []) ≡ suc (length cs)
length-raised [] = refl
length-raised (c ∷ cs) = ap suc (length-raised cs)

raised_are_bytes : (cs : List ℕ) → AreBytes cs → AreBytes (cs ++ 0 ∷ [])
raised_are_bytes [] h = (let k : 0 < 256 = omega arith in k, tt)
raised_are_bytes (c ∷ cs) h = (h.0, raised_are_bytes cs h.1)

value_at-raised : (cs : List ℕ) (x : ℕ) → value_at (cs ++ 0 ∷ []) x ≡ value_at cs x
value_at-raised [] x = product-zero_right x
value_at-raised (c ∷ cs) x = ap (λ t. bit_xor c (product x t)) (value_at-raised cs x)

raised_polynomial : (n : ℕ) (g : ℕ → ℕ) → IsPolynomial n g → IsPolynomial (suc n) g
raised_polynomial n g p = record {
  coefficients = p.coefficients ++ 0 ∷ [];
  degree_below = length-raised p.coefficients ∙ ap suc p.degree_below;
  are_bytes = raised_are_bytes p.coefficients p.are_bytes;
  values = λ x hx. value_at-raised p.coefficients x ∙ p.values x hx;
}

-- x less m, times a polynomial
difference_times_polynomial : (n m : ℕ) (g : ℕ → ℕ) → IsByte m → IsPolynomial n g → IsPolynomial (suc n) (λ x. product (bit_xor x m) (g x))
difference_times_polynomial n m g hm p =
    same_function (suc n) (λ x. bit_xor (product x (g x)) (product m (g x))) (λ x. product (bit_xor x m) (g x))
    (sum_of_polynomials (suc n) (λ x. product x (g x)) (λ x. product m (g x)) (x_times_polynomial n g p)
    (raised_polynomial n (λ x. product m (g x)) (byte_times_polynomial n m g hm p)))
    (λ x hx. sym (product-xor_left x m (g x)))

-- ---- points
abbrev pub IsOneOf : ℕ → List ℕ → Type 0
IsOneOf s [] = ⊥
IsOneOf s (m ∷ points) = (m ≡ s) ⊎ IsOneOf s points

pub at_one_of : (P : ℕ → Type 0) (points : List ℕ) (s : ℕ) → AllByRecursion P points → IsOneOf s points → P s
at_one_of P [] s h k = absurd k
at_one_of P (m ∷ points) s h k = elim k [ inl e ↦ subst P e h.0 | inr k ↦ at_one_of P points s h.1 k ]

pub one_of_index : (points : List ℕ) (i : ℕ) → i < length points → IsOneOf (get_or points i 0) points
one_of_index [] i h = absurd (omega arith)
one_of_index (m ∷ points) zero h = inl refl
one_of_index (m ∷ points) (suc i) h = inr (one_of_index points i (omega arith))

-- ---- the numerators and denominators of factors
pub differences_is_byte : (points : List ℕ) (own x : ℕ) → AreBytes points → IsByte x → IsByte (differences points own x)
differences_is_byte [] own x h hx = omega arith
differences_is_byte (m ∷ points) own x h hx =
    let rest = differences_is_byte points own x h.1 hx in
    cond_both (nat_eq own m) (differences points own x) (product (bit_xor x m) (differences points own x)) IsByte
    (λ _. rest) (λ _. product_is_byte (bit_xor x m) (differences points own x) (xor_lt 8 x m hx h.0) rest)

differences-own : (m own x : ℕ) (points : List ℕ) → own ≡ m → differences (m ∷ points) own x ≡ differences points own x
differences-own m own x points e =
    cond-true (nat_eq own m) (differences points own x) (product (bit_xor x m) (differences points own x)) (eq-eqb own m e)

differences-other : (m own x : ℕ) (points : List ℕ) → nat_eq own m ≡ false → differences (m ∷ points) own x ≡ product (bit_xor x m) (differences points own x)
differences-other m own x points e =
    cond-false (nat_eq own m) (differences points own x) (product (bit_xor x m) (differences points own x)) e

other_differences_polynomial : (points : List ℕ) (own : ℕ) → AreBytes points → AllByRecursion (λ m. nat_eq own m ≡ false) points → IsPolynomial (suc (length points)) (differences points own)
other_differences_polynomial [] own h ne = one_polynomial
other_differences_polynomial (m ∷ points) own h ne =
    same_function (suc (suc (length points))) (λ x. product (bit_xor x m) (differences points own x)) (differences (m ∷ points) own)
    (difference_times_polynomial (suc (length points)) m (differences points own) h.0 (other_differences_polynomial points own h.1 ne.1))
    (λ x hx. sym (differences-other m own x points ne.0))

differences_polynomial : (points : List ℕ) (own : ℕ) → AreBytes points → IsDistinct nat_eq points → IsOneOf own points → IsPolynomial (length points) (differences points own)
differences_polynomial [] own h d k = absurd k
differences_polynomial (m ∷ points) own h d k =
    let ahead = IsDistinct-head nat_eq m points d in
    elim k [
      | inl e ↦
          same_function (suc (length points)) (differences points own) (differences (m ∷ points) own)
          (other_differences_polynomial points own h.1 (subst (λ o. AllByRecursion (λ y. nat_eq o y ≡ false) points) e ahead))
          (λ x hx. sym (differences-own m own x points (sym e)))
      | inr k ↦
          let apart : nat_eq m own ≡ false = at_one_of (λ y. nat_eq m y ≡ false) points own ahead k in
          same_function (suc (length points)) (λ x. product (bit_xor x m) (differences points own x)) (differences (m ∷ points) own)
          (difference_times_polynomial (length points) m (differences points own) h.0 (differences_polynomial points own h.1 (IsDistinct-tail nat_eq m points d) k))
          (λ x hx. sym (differences-other m own x points (ne_eqb own m (λ e. eqb-false m own apart (sym e)))))
    ]

-- at another of the points there is a factor 0
differences-zero : (points : List ℕ) (own s : ℕ) → IsOneOf s points → own ≢ s → differences points own s ≡ 0
differences-zero [] own s k ne = absurd k
differences-zero (m ∷ points) own s k ne =
    elim k [
      | inl e ↦
          differences-other m own s points (ne_eqb own m (λ o. ne (o ∙ e)))
          ∙ ap (λ t. product t (differences points own s)) (ap (bit_xor s) e ∙ xor_self s)
          ∙ product-zero_left (differences points own s)
      | inr k ↦
          let rest = differences-zero points own s k ne in
          cond_both (nat_eq own m) (differences points own s) (product (bit_xor s m) (differences points own s)) (λ t. t ≡ 0)
          (λ _. rest) (λ _. ap (product (bit_xor s m)) rest ∙ product-zero_right (bit_xor s m))
    ]

pub differences-own_nonzero : (points : List ℕ) (own : ℕ) → AreBytes points → IsByte own → differences points own own ≢ 0
differences-own_nonzero [] own h ho = λ e. absurd (omega arith)
differences-own_nonzero (m ∷ points) own h ho =
    let rest = differences-own_nonzero points own h.1 ho in
    cond_both (nat_eq own m) (differences points own own) (product (bit_xor own m) (differences points own own)) (λ t. t ≢ 0)
    (λ _. rest)
    (λ apart z. elim (no_zero_divisors (bit_xor own m) (differences points own own) (xor_lt 8 own m ho h.0) (differences_is_byte points own own h.1 ho) z) [
      | inl e ↦ eqb-false own m apart (same_from_xor own m e)
      | inr e ↦ rest e
    ])

-- ---- factors
inverse : ℕ → ℕ
inverse a = power_of_two (255 - get_or LOGARITHM a 0)

inverse_is_byte : (a : ℕ) → IsByte (inverse a)
unfolding inverse
inverse_is_byte a = power_is_byte (255 - get_or LOGARITHM a 0)

product-inverse : (a : ℕ) → IsByte a → a ≢ 0 → product a (inverse a) ≡ 1
unfolding inverse
product-inverse a ha ne = inverse_by_powers (get_or LOGARITHM a 0) a (logarithm_small a ha) (power_of_logarithm a ha ne)

-- what the value at the point `own` counts for at x
pub factor_of : List ℕ → ℕ → ℕ → ℕ
factor_of points own x = product (inverse (differences points own own)) (differences points own x)

pub factor_is_byte : (points : List ℕ) (own x : ℕ) → AreBytes points → IsByte x → IsByte (factor_of points own x)
unfolding factor_of
factor_is_byte points own x h hx = product_is_byte (inverse (differences points own own)) (differences points own x) (inverse_is_byte (differences points own own)) (differences_is_byte points own x h hx)

-- a byte which times the denominator is the numerator is the factor
pub factor_is : (points : List ℕ) (own x a : ℕ) → AreBytes points → IsByte own → IsByte x → IsByte a
    → product a (differences points own own) ≡ differences points own x → a ≡ factor_of points own x
unfolding factor_of
factor_is points own x a h ho hx ha e =
    let d = differences points own own in
    let hd = differences_is_byte points own own h ho in
    let i = inverse d in
    let hi = inverse_is_byte d in
    sym (product-one_right a ha)
    ∙ ap (product a) (sym (product-inverse d hd (differences-own_nonzero points own h ho)))
    ∙ sym (product_assoc a d i ha hd hi)
    ∙ ap (λ t. product t i) e
    ∙ product_comm (differences points own x) i (differences_is_byte points own x h hx) hi

factor-own : (points : List ℕ) (own : ℕ) → AreBytes points → IsByte own → factor_of points own own ≡ 1
unfolding factor_of
factor-own points own h ho =
    let d = differences points own own in
    let hd = differences_is_byte points own own h ho in
    product_comm (inverse d) d (inverse_is_byte d) hd ∙ product-inverse d hd (differences-own_nonzero points own h ho)

factor-other : (points : List ℕ) (own s : ℕ) → IsOneOf s points → own ≢ s → factor_of points own s ≡ 0
unfolding factor_of
factor-other points own s k ne =
    ap (product (inverse (differences points own own))) (differences-zero points own s k ne) ∙ product-zero_right (inverse (differences points own own))

factor_polynomial : (points : List ℕ) (own : ℕ) → AreBytes points → IsDistinct nat_eq points → IsOneOf own points → IsPolynomial (length points) (factor_of points own)
unfolding factor_of
factor_polynomial points own h d k =
    byte_times_polynomial (length points) (inverse (differences points own own)) (differences points own)
    (inverse_is_byte (differences points own own)) (differences_polynomial points own h d k)

-- ---- the sum of values, each times its factor
-- over those of the points that `rest` has
abbrev pub combined : List ℕ → (ℕ → ℕ) → ℕ → List ℕ → ℕ
combined points y x [] = 0
combined points y x (r ∷ rest) = bit_xor (product (factor_of points r x) (y r)) (combined points y x rest)

combined_polynomial : (points : List ℕ) (y : ℕ → ℕ) (rest : List ℕ) → AreBytes points → IsDistinct nat_eq points
    → ((s : ℕ) → IsOneOf s rest → IsOneOf s points) → ((s : ℕ) → IsOneOf s rest → IsByte (y s))
    → IsPolynomial (length points) (λ x. combined points y x rest)
combined_polynomial points y [] h d among hy = zero_polynomial (length points)
combined_polynomial points y (r ∷ rest) h d among hy =
    sum_of_polynomials (length points) (λ x. product (factor_of points r x) (y r)) (λ x. combined points y x rest)
    (same_function (length points) (λ x. product (y r) (factor_of points r x)) (λ x. product (factor_of points r x) (y r))
    (byte_times_polynomial (length points) (y r) (factor_of points r) (hy r (inl refl)) (factor_polynomial points r h d (among r (inl refl))))
    (λ x hx. product_comm (y r) (factor_of points r x) (hy r (inl refl)) (factor_is_byte points r x h hx)))
    (combined_polynomial points y rest h d (λ s k. among s (inr k)) (λ s k. hy s (inr k)))

term-other : (points : List ℕ) (y : ℕ → ℕ) (r s : ℕ) → IsOneOf s points → r ≢ s → product (factor_of points r s) (y r) ≡ 0
term-other points y r s k ne = ap (λ t. product t (y r)) (factor-other points r s k ne) ∙ product-zero_left (y r)

combined_at_none : (points : List ℕ) (y : ℕ → ℕ) (s : ℕ) (rest : List ℕ) → IsOneOf s points → AllByRecursion (λ r. nat_eq s r ≡ false) rest → combined points y s rest ≡ 0
combined_at_none points y s [] k ne = refl
combined_at_none points y s (r ∷ rest) k ne =
    ap₂ bit_xor (term-other points y r s k (λ e. eqb-false s r ne.0 (sym e))) (combined_at_none points y s rest k ne.1)

combined_at : (points : List ℕ) (y : ℕ → ℕ) (s : ℕ) (rest : List ℕ) → AreBytes points → IsOneOf s points → IsByte s → IsByte (y s)
    → IsDistinct nat_eq rest → IsOneOf s rest → combined points y s rest ≡ y s
combined_at points y s [] h k hs hy d here = absurd here
combined_at points y s (r ∷ rest) h k hs hy d here =
    let ahead = IsDistinct-head nat_eq r rest d in
    elim here [
      | inl e ↦
          ap₂ bit_xor
          (ap (λ t. product (factor_of points t s) (y t)) e ∙ ap (λ t. product t (y s)) (factor-own points s h hs) ∙ product-one_left (y s) hy)
          (combined_at_none points y s rest k (subst (λ t. AllByRecursion (λ z. nat_eq t z ≡ false) rest) e ahead))
          ∙ xor_zero_r (y s)
      | inr later ↦
          ap₂ bit_xor (term-other points y r s k (eqb-false r s (at_one_of (λ z. nat_eq r z ≡ false) rest s ahead later)))
          (combined_at points y s rest h k hs hy (IsDistinct-tail nat_eq r rest d) later)
    ]

-- ---- the two theorems
-- there is a polynomial with the given values at the points
pub interpolated : (points : List ℕ) (y : ℕ → ℕ) → AreBytes points → IsDistinct nat_eq points → ((s : ℕ) → IsOneOf s points → IsByte (y s))
    → IsPolynomial (length points) (λ x. combined points y x points)
interpolated points y h d hy = combined_polynomial points y points h d (λ s k. k) hy

pub interpolated_at : (points : List ℕ) (y : ℕ → ℕ) (s : ℕ) → AreBytes points → IsDistinct nat_eq points → IsOneOf s points → IsByte (y s) → combined points y s points ≡ y s
interpolated_at points y s h d k hy = combined_at points y s points h k (at_one_of IsByte points s h k) hy d k

same_values : (p q points : List ℕ) → ((s : ℕ) → IsOneOf s points → value_at p s ≡ value_at q s) → map (value_at p) points ≡ map (value_at q) points
same_values p q [] e = refl
same_values p q (m ∷ points) e = ap₂ ◌∷◌ (e m (inl refl)) (same_values p q points (λ s k. e s (inr k)))

-- the value of a polynomial at any byte, from its values at as many points as it has coefficients
pub value_from_points : (points p : List ℕ) (y : ℕ → ℕ) (x : ℕ) → AreBytes points → IsDistinct nat_eq points → AreBytes p → length p ≡ length points → IsByte x
    → ((s : ℕ) → IsOneOf s points → y s ≡ value_at p s) → combined points y x points ≡ value_at p x
value_from_points points p y x h d hp l hx e =
    let hy : (s : ℕ) → IsOneOf s points → IsByte (y s) = λ s k. subst IsByte (sym (e s k)) (value_is_byte p s hp (at_one_of IsByte points s h k)) in
    let q = interpolated points y h d hy in
    let same = at_most_one_polynomial points q.coefficients p h d q.are_bytes hp q.degree_below l
    (same_values q.coefficients p points (λ s k. q.values s (at_one_of IsByte points s h k) ∙ interpolated_at points y s h d k (hy s k) ∙ e s k)) in
    sym (q.values x hx) ∙ ap (λ cs. value_at cs x) same
