-- The payload that k fragments of a code are of.
use Rattle.std.proofs.Common.{◌≡◌, ◌≢◌, ℕ, zero, suc, ◌+◌, ◌-◌, ◌*◌, ◌<◌, ◌≤◌, false, eqb, inl, inr, List, [], ◌∷◌, ◌++◌, length, map, take, replicate, get_or, slice_index_or, nat_eq, refl, sym, ap, ap₂, ◌∙◌, subst, arith}
use Rattle.std.specs.List.{AllByRecursion, IsDistinct, concat, flat_map, range_with_len}
use Rattle.std.specs.Int.{div_ceil}
use Rattle.std.specs.Int.Bits.{bit_xor, xor_assoc, xor_comm, xor_self, xor_zero_r, xor_lt}
use Rattle.std.proofs.lemmas.Bool.{cases_eq, cond-true, cond-false, eq-eqb, ne_eqb, eqb-false}
use Rattle.std.proofs.lemmas.List.{take_at, get_or-map, length-map}
use Rattle.std.proofs.lemmas.List.FromFn.{get_or-map-range_with_len}
use Rattle.std.proofs.lemmas.Map.Keys.{IsDistinct-head, IsDistinct-tail}
use Rattle.gf_field.specs.declared.tables.TheConstants.{LOGARITHM}
use Rattle.gf_field.specs.Product.{product}
use Rattle.gf_field.specs.Power.{power_of_two}
use Rattle.gf_field.specs.Field.{IsByte, AreBytes}
use Rattle.gf_field.specs.Polynomial.{value_at, IsCodeword}
use Rattle.gf_field.proofs.TableFacts.{power_of_logarithm, power_of_two-255}
use Rattle.gf_field.proofs.Linear.{product-xor_right, product-xor_left, product-zero_right}
use Rattle.gf_field.proofs.Field.{product_comm, product_assoc, product-one_left, product-one_right, power_is_byte, power_of_two-add}
use Rattle.gf_field.proofs.Polynomial.{same_from_xor, product_left_comm, value_is_byte}
use Rattle.array_model.specs.Payload.{power, inverse, beside, interpolated, Fragment, indexes_of, byte_of, fragment_from, payload_from, fragment_of, IsCode, AreSome}
use Rattle.array_model.specs.ReadingLaws.{PayloadIsRead}
use Rattle.array_model.proofs.Records.{Among, all_among}

-- ---- inverses

-- A power of a power of 2 is one.
power_of_power : (l n : ℕ) → power (power_of_two l) n ≡ power_of_two (n * l)
unfolding power power_of_two
power_of_power l zero = ap power_of_two (let e : 0 ≡ 0 * l = omega arith in e)
power_of_power l (suc n) =
    ap (product (power_of_two l)) (power_of_power l n)
    ∙ sym (power_of_two-add l (n * l))
    ∙ ap power_of_two (let e : l + n * l ≡ suc n * l = omega arith in e)

-- A power 255 is 1.
power_none : power_of_two 0 ≡ 1
unfolding power_of_two
power_none = refl

round : (l : ℕ) → power_of_two (255 * l) ≡ 1
round zero = ap power_of_two (let e : 255 * 0 ≡ 0 = omega arith in e) ∙ power_none
round (suc l) =
    ap power_of_two (let e : 255 * suc l ≡ 255 + 255 * l = omega arith in e)
    ∙ power_of_two-add 255 (255 * l)
    ∙ ap₂ product power_of_two-255 (round l)
    ∙ product-one_left 1 (omega arith)

-- the power of 2 that a byte is
log : ℕ → ℕ
log a = get_or LOGARITHM a 0

inverse_is : (a : ℕ) → IsByte a → a ≢ 0 → inverse a ≡ power_of_two (254 * log a)
unfolding log
inverse_is a ha ne = ap (λ t. power t 254) (sym (power_of_logarithm a ha ne)) ∙ power_of_power (log a) 254

inverse_is_byte : (a : ℕ) → IsByte a → a ≢ 0 → IsByte (inverse a)
inverse_is_byte a ha ne = subst IsByte (sym (inverse_is a ha ne)) (power_is_byte (254 * log a))

product-inverse : (a : ℕ) → IsByte a → a ≢ 0 → product a (inverse a) ≡ 1
unfolding log
product-inverse a ha ne =
    ap₂ product (sym (power_of_logarithm a ha ne)) (inverse_is a ha ne)
    ∙ sym (power_of_two-add (log a) (254 * log a))
    ∙ ap power_of_two (let e : log a + 254 * log a ≡ 255 * log a = omega arith in e)
    ∙ round (log a)

-- A byte times another, over that one, is itself.
product-over : (a b : ℕ) → IsByte a → IsByte b → a ≢ 0 → product (product a b) (inverse a) ≡ b
product-over a b ha hb ne =
    let hi = inverse_is_byte a ha ne in
    ap (λ t. product t (inverse a)) (product_comm a b ha hb)
    ∙ product_assoc b a (inverse a) hb ha hi
    ∙ ap (product b) (product-inverse a ha ne)
    ∙ product-one_right b hb

-- ---- a polynomial beside its value at a point

-- the values at r of the polynomials of the last coefficients
tails : ℕ → List ℕ → List ℕ
tails r [] = []
tails r (c ∷ cs) = value_at (c ∷ cs) r ∷ tails r cs

length-tails : (r : ℕ) (cs : List ℕ) → length (tails r cs) ≡ length cs
unfolding tails
length-tails r [] = refl
length-tails r (c ∷ cs) = ap suc (length-tails r cs)

tails_are_bytes : (r : ℕ) (cs : List ℕ) → IsByte r → AreBytes cs → AreBytes (tails r cs)
unfolding tails
tails_are_bytes r [] hr h = tt
tails_are_bytes r (c ∷ cs) hr h = (value_is_byte (c ∷ cs) r h hr, tails_are_bytes r cs hr h.1)

-- x v(x) = r v(r) + (x + r) t(x), where t has the coefficients of the tails
less_first : (r x : ℕ) (cs : List ℕ) → IsByte r → IsByte x → AreBytes cs
    → product x (value_at cs x) ≡ bit_xor (product r (value_at cs r)) (product (bit_xor x r) (value_at (tails r cs) x))
unfolding tails
less_first r x [] hr hx h = product-zero_right x ∙ sym (ap₂ bit_xor (product-zero_right r) (product-zero_right (bit_xor x r)) ∙ xor_self 0)
less_first r x (c ∷ cs) hr hx h =
    let v = value_at (c ∷ cs) r in
    let t = value_at (tails r cs) x in
    let d = bit_xor x r in
    let ht = value_is_byte (tails r cs) x (tails_are_bytes r cs hr h.1) hx in
    ap (λ w. product x (bit_xor c w)) (less_first r x cs hr hx h.1)
    ∙ ap (product x) (sym (xor_assoc c (product r (value_at cs r)) (product d t)))
    ∙ product-xor_right x v (product d t)
    ∙ ap₂ bit_xor (sym (first_out x r v)) (product_left_comm x d t hx (xor_lt 8 x r hx hr) ht)
    ∙ xor_assoc (product r v) (product d v) (product d (product x t))
    ∙ ap (bit_xor (product r v)) (sym (product-xor_right d v (product x t)))
  where
    first_out : (x r v : ℕ) → bit_xor (product r v) (product (bit_xor x r) v) ≡ product x v
    first_out x r v =
        ap (bit_xor (product r v)) (product-xor_left x r v ∙ xor_comm (product x v) (product r v))
        ∙ sym (xor_assoc (product r v) (product r v) (product x v))
        ∙ ap (λ t. bit_xor t (product x v)) (xor_self (product r v))
        ∙ xor_comm 0 (product x v)
        ∙ xor_zero_r (product x v)

-- The value at x less that at r is x less r times the value of the tails.
value_beside : (r x c : ℕ) (cs : List ℕ) → IsByte r → IsByte x → AreBytes cs
    → value_at (c ∷ cs) x ≡ bit_xor (value_at (c ∷ cs) r) (product (bit_xor x r) (value_at (tails r cs) x))
value_beside r x c cs hr hx h = ap (bit_xor c) (less_first r x cs hr hx h) ∙ sym (xor_assoc c (product r (value_at cs r)) (product (bit_xor x r) (value_at (tails r cs) x)))

-- (a + b) + a = b
xor_back : (a b : ℕ) → bit_xor (bit_xor a b) a ≡ b
xor_back a b = xor_comm (bit_xor a b) a ∙ sym (xor_assoc a a b) ∙ ap (λ t. bit_xor t b) (xor_self a) ∙ xor_comm 0 b ∙ xor_zero_r b

-- What the values of a polynomial have left beside one of them are the values of the tails.
beside_is : (r p c : ℕ) (cs : List ℕ) (value : ℕ → ℕ) → IsByte r → IsByte p → AreBytes cs → p ≢ r → value r ≡ value_at (c ∷ cs) r → value p ≡ value_at (c ∷ cs) p → beside r value p ≡ value_at (tails r cs) p
beside_is r p c cs value hr hp h differs first this =
    let v = value_at (c ∷ cs) r in
    let d = bit_xor p r in
    let t = value_at (tails r cs) p in
    ap (λ s. product s (inverse d)) (ap₂ bit_xor (this ∙ value_beside r p c cs hr hp h) first ∙ xor_back v (product d t))
    ∙ product-over d t (xor_lt 8 p r hp hr) (value_is_byte (tails r cs) p (tails_are_bytes r cs hr h) hp) (λ e. differs (same_from_xor p r e))

-- The polynomial through values is the one that they are of.
interpolated_is : (points q : List ℕ) (value : ℕ → ℕ) (x : ℕ) → AreBytes points → IsDistinct nat_eq points → AreBytes q → length q ≡ length points → IsByte x
    → ((p : ℕ) → Among p points → value p ≡ value_at q p) → interpolated points value x ≡ value_at q x
interpolated_is [] [] value x hs d hq l hx values = refl
interpolated_is [] (c ∷ cs) value x hs d hq l hx values = absurd (omega (arith, l))
interpolated_is (r ∷ points) [] value x hs d hq l hx values = absurd (omega (arith, l))
interpolated_is (r ∷ points) (c ∷ cs) value x hs d hq l hx values =
    let ahead = IsDistinct-head nat_eq r points d in
    let rest = interpolated_is points (tails r cs) (beside r value) x hs.1 (IsDistinct-tail nat_eq r points d) (tails_are_bytes r cs hs.0 hq.1) (length-tails r cs ∙ cc) hx
    (λ p among. beside_is r p c cs value hs.0 (all_among IsByte points p hs.1 among) hq.1 (λ e. eqb-false r p (all_among (λ y. nat_eq r y ≡ false) points p ahead among) (sym e)) (values r (inl refl)) (values p (inr among))) in
    ap₂ (λ v t. bit_xor v (product (bit_xor x r) t)) (values r (inl refl)) rest
    ∙ sym (value_beside r x c cs hs.0 hx hq.1)

-- ---- fragments

-- The byte of an index is that of its fragment.
byte_of-is : (given : List Fragment) (c : ℕ) (y : ℕ → ℕ) → AllByRecursion (λ (f : Fragment). get_or f.bytes c 0 ≡ y f.index) given → (p : ℕ) → Among p (indexes_of given) → byte_of given c p ≡ y p
byte_of-is [] c y all p found = absurd found
byte_of-is (f ∷ given) c y all p found = elim (cases_eq f.index p) [
  | inl same ↦ cond-true (eqb f.index p) (get_or f.bytes c 0) (byte_of given c p) (eq-eqb f.index p same) ∙ all.0 ∙ ap y same
  | inr differ ↦ cond-false (eqb f.index p) (get_or f.bytes c 0) (byte_of given c p) (ne_eqb f.index p differ) ∙ byte_of-is given c y all.1 p (elim found [ inl same ↦ absurd (differ same) | inr later ↦ later ])
]

-- a list by its elements
map_is : (xs : List ℕ) (first : ℕ) (h : ℕ → ℕ) → ((i : ℕ) → i < length xs → h (first + i) ≡ get_or xs i 0) → map h (range_with_len first (length xs)) ≡ xs
map_is [] first h each = refl
map_is (x ∷ xs) first h each =
    ap₂ ◌∷◌ (ap h (let e : first ≡ first + 0 = omega arith in e) ∙ each 0 (omega arith))
    (map_is xs (first + 1) h (λ i below. ap h (let e : first + 1 + i ≡ first + suc i = omega arith in e) ∙ each (suc i) (omega arith)))

-- the first so many lists, joined
joined_is : (m : ℕ) (xs : List (List ℕ)) (first : ℕ) (g : ℕ → List ℕ) → m ≤ length xs → ((i : ℕ) → i < m → g (first + i) ≡ slice_index_or xs i []) → flat_map g (range_with_len first m) ≡ concat (take m xs)
joined_is zero xs first g fits each = refl
joined_is (suc m) [] first g fits each = absurd (omega (arith, fits))
joined_is (suc m) (x ∷ xs) first g fits each =
    ap₂ ◌++◌ (ap g (let e : first ≡ first + 0 = omega arith in e) ∙ each 0 (omega arith))
    (joined_is m xs (first + 1) g (omega (arith, fits)) (λ i below. ap g (let e : first + 1 + i ≡ first + suc i = omega arith in e) ∙ each (suc i) (omega arith)))

-- A column of a code is the values of its polynomial.
column_is : (k n bytes c i : ℕ) (fragments : List (List ℕ)) (code : IsCode k n bytes fragments) (word : IsCodeword k n (map (λ fragment. get_or fragment c 0) fragments)) → i < n → get_or (fragment_of fragments i) c 0 ≡ value_at word.coefficients i
column_is k n bytes c i fragments code word below =
    sym (get_or-map (λ (fragment : List ℕ). get_or fragment c 0) fragments i [] 0 (omega (arith, code.count)))
    ∙ ap (λ l. get_or l i 0) word.values
    ∙ get_or-map-range_with_len (value_at word.coefficients) 0 n i i 0 below (omega arith)

all_bytes : (n : ℕ) (fragments : List (List ℕ)) (given : List Fragment) → n ≤ 256 → AllByRecursion (λ (f : Fragment). (f.index < n) × (f.bytes ≡ fragment_of fragments f.index)) given → AreBytes (indexes_of given)
all_bytes n fragments [] fits each = tt
all_bytes n fragments (f ∷ given) fits each = let below = each.0.0 in (omega arith, all_bytes n fragments given fits each.1)

all_values : (k n bytes c : ℕ) (fragments : List (List ℕ)) (given : List Fragment) (code : IsCode k n bytes fragments) (word : IsCodeword k n (map (λ fragment. get_or fragment c 0) fragments)) → AllByRecursion (λ (f : Fragment). (f.index < n) × (f.bytes ≡ fragment_of fragments f.index)) given → AllByRecursion (λ (f : Fragment). get_or f.bytes c 0 ≡ value_at word.coefficients f.index) given
all_values k n bytes c fragments [] code word each = tt
all_values k n bytes c fragments (f ∷ given) code word each = (ap (λ l. get_or l c 0) each.0.1 ∙ column_is k n bytes c f.index fragments code word each.0.0, all_values k n bytes c fragments given code word each.1)

-- Each fragment of the code is had from k of them.
pub fragment_is : (k n bytes i : ℕ) (fragments : List (List ℕ)) (given : List Fragment) → n ≤ 256 → i < n → IsCode k n bytes fragments → AreSome k n fragments given → fragment_from given bytes i ≡ fragment_of fragments i
fragment_is k n bytes i fragments given fits below code some =
    let xs = fragment_of fragments i in
    let long = code.lengths i below in
    ap (λ m. map (λ c. interpolated (indexes_of given) (byte_of given c) i) (range_with_len 0 m)) (sym long)
    ∙ map_is xs 0 (λ c. interpolated (indexes_of given) (byte_of given c) i)
    (λ c within.
    let here : c < bytes = omega (arith, within, long) in
    let word = code.columns c here in
    ap (λ m. interpolated (indexes_of given) (byte_of given m) i) (let e : 0 + c ≡ c = omega arith in e)
    ∙ interpolated_is (indexes_of given) word.coefficients (byte_of given c) i (all_bytes n fragments given fits some.each) some.distinct word.are_bytes (word.degree_below ∙ sym (length-map given (λ (f : Fragment). f.index) ∙ some.count)) (omega arith)
    (byte_of-is given c (value_at word.coefficients) (all_values k n bytes c fragments given code word some.each))
    ∙ sym (column_is k n bytes c i fragments code word below))

pub payload_is_read : PayloadIsRead
unfolding payload_from
payload_is_read k n payload fragments given small fits are some =
    let f = div_ceil (length payload) k in
    ap (take (length payload))
    (joined_is k fragments 0 (fragment_from given f) (omega (arith, are.code.count)) (λ i below. ap (fragment_from given f) (let e : 0 + i ≡ i = omega arith in e) ∙ fragment_is k n f i fragments given fits (omega arith) are.code some)
    ∙ are.source)
    ∙ take_at payload (replicate (k * f - length payload) 0) (length payload) refl
