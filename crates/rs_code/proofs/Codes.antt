-- Codes: any k fragments give all, and through any k rows of bytes there is a code.
use Rattle.std.proofs.Common.{◌≡◌, ℕ, suc, zero, ◌+◌, ◌*◌, ◌<◌, ◌≤◌, List, [], ◌∷◌, length, map, get_or, drop, cond, nat_eq, false, refl, sym, ap, ap₂, ◌∙◌, arith, inl, inr}
use Rattle.std.specs.List.{AllByRecursion, IsDistinct, range_with_len}
use Rattle.std.proofs.lemmas.Bool.{eq-eqb, cond-true, cond-false}
use Rattle.std.proofs.lemmas.List.{ext_get_or, get_or-map, get_or-take, get_or-drop, length-take, length-drop, length-map}
use Rattle.std.proofs.lemmas.List.Elements.{recursion_from_All, All-from_get_or}
use Rattle.std.proofs.lemmas.List.FromFn.{length-map-range_with_len, get_or-map-range_with_len, fill_by_all}
use Rattle.std.proofs.lemmas.Map.Keys.{IsDistinct-head, IsDistinct-tail}
use Rattle.std.proofs.Math.Nat.{mul-le-mul_right}
use Rattle.std.specs.Int.Bits.{bit_xor}
use Rattle.gf_field.specs.Product.{product}
use Rattle.gf_field.specs.Field.{IsByte, AreBytes}
use Rattle.gf_field.specs.Polynomial.{value_at}
use Rattle.rs_code.specs.Fragments.{piece, fragment_at, column, IsCode, HoldsFragments, AreIndexes, AnyFragmentsGiveAll}
use Rattle.rs_code.proofs.Interpolation.{IsOneOf, at_one_of, one_of_index, factor_of, combined, interpolated, interpolated_at, value_from_points}

-- ---- indexes as points
pub each_point : (P : ℕ → Type 0) (points : List ℕ) → ((i : ℕ) → i < length points → P (get_or points i 0)) → (s : ℕ) → IsOneOf s points → P s
each_point P points h s k = at_one_of P points s (recursion_from_All P points (All-from_get_or P points 0 h)) k

below_are_bytes : (n : ℕ) (points : List ℕ) → n ≤ 256 → AllByRecursion (λ i. i < n) points → AreBytes points
below_are_bytes n [] small h = tt
below_are_bytes n (m ∷ points) small h =
    let first = h.0 in (let b : m < 256 = omega arith in b, below_are_bytes n points small h.1)

pub indexes_are_bytes : (k n : ℕ) (points : List ℕ) → n ≤ 256 → AreIndexes k n points → AreBytes points
indexes_are_bytes k n points small h = below_are_bytes n points small (recursion_from_All (λ i. i < n) points h.below)

index_below : (k n : ℕ) (points : List ℕ) → AreIndexes k n points → (s : ℕ) → IsOneOf s points → s < n
index_below k n points h s here = at_one_of (λ i. i < n) points s (recursion_from_All (λ i. i < n) points h.below) here

-- ---- any k fragments give all
-- byte c of a fragment
unfoldable pub byte_of : List (List ℕ) → ℕ → ℕ → ℕ
byte_of fragments c i = get_or (fragment_at fragments i) c 0

byte_is_value : (k n f : ℕ) (fragments : List (List ℕ)) (code : IsCode k n f fragments) (c : ℕ) (hc : c < f) (i : ℕ) → i < n
    → byte_of fragments c i ≡ value_at ((code.columns c hc).coefficients) i
unfolding byte_of
byte_is_value k n f fragments code c hc i hi =
    let word = code.columns c hc in
    let count = code.count in
    sym (get_or-map (λ fragment. get_or fragment c 0) fragments i [] 0 (omega arith))
    ∙ ap (λ w. get_or w i 0) word.values
    ∙ get_or-map-range_with_len (value_at word.coefficients) 0 n i i 0 hi (omega arith)

-- a byte of a fragment is the sum of those of any k fragments at its place, each times its factor
pub byte_from_points : (k n f : ℕ) (points : List ℕ) (fragments : List (List ℕ)) (x c : ℕ) → n ≤ 256 → AreIndexes k n points → IsCode k n f fragments → x < n → c < f
    → combined points (byte_of fragments c) x points ≡ byte_of fragments c x
byte_from_points k n f points fragments x c small indexes code hx hc =
    let word = code.columns c hc in
    value_from_points points word.coefficients (byte_of fragments c) x
    (indexes_are_bytes k n points small indexes) indexes.distinct word.are_bytes (word.degree_below ∙ sym indexes.count)
    (let b : x < 256 = omega arith in b)
    (λ s here. byte_is_value k n f fragments code c hc s (index_below k n points indexes s here))
    ∙ sym (byte_is_value k n f fragments code c hc x hx)

same_combined : (points : List ℕ) (y z : ℕ → ℕ) (x : ℕ) (rest : List ℕ) → ((s : ℕ) → IsOneOf s rest → y s ≡ z s) → combined points y x rest ≡ combined points z x rest
same_combined points y z x [] e = refl
same_combined points y z x (r ∷ rest) e =
    ap₂ bit_xor (ap (product (factor_of points r x)) (e r (inl refl))) (same_combined points y z x rest (λ s k. e s (inr k)))

-- a row of f bytes with the bytes of a fragment is that fragment
pub fragment_is : (k n f : ℕ) (fragments : List (List ℕ)) (x : ℕ) (row : List ℕ) → IsCode k n f fragments → x < n → length row ≡ f
    → ((c : ℕ) → c < f → get_or row c 0 ≡ byte_of fragments c x) → row ≡ fragment_at fragments x
unfolding byte_of
fragment_is k n f fragments x row code hx l e =
    ext_get_or 0 row (fragment_at fragments x) (l ∙ sym (code.lengths x hx)) (λ c h. e c (omega arith))

pub any_fragments_give_all : AnyFragmentsGiveAll
unfolding byte_of
any_fragments_give_all k n f points one other small indexes h g e =
    let count = h.count in
    ext_get_or [] one other (h.count ∙ sym g.count)
    (λ i hi.
    let lt : i < n = omega arith in
    fragment_is k n f other i (fragment_at one i) g lt (h.lengths i lt)
    (λ c hc.
    sym (byte_from_points k n f points one i c small indexes h lt hc)
    ∙ same_combined points (byte_of one c) (byte_of other c) i points
    (each_point (λ s. byte_of one c s ≡ byte_of other c s) points (λ j hj. let n = indexes.count in ap (λ row. get_or row c 0) (e j (omega arith))))
    ∙ byte_from_points k n f points other i c small indexes g lt hc))

-- ---- through any k rows there is a code
-- where a point stands among them
place_of : List ℕ → ℕ → ℕ
place_of [] r = 0
place_of (m ∷ points) r = cond (nat_eq m r) 0 (suc (place_of points r))

place_of-get_or : (points : List ℕ) (i : ℕ) → IsDistinct nat_eq points → i < length points → place_of points (get_or points i 0) ≡ i
unfolding place_of
place_of-get_or [] i d h = absurd (omega arith)
place_of-get_or (m ∷ points) zero d h = cond-true (nat_eq m m) 0 (suc (place_of points m)) (eq-eqb m m refl)
place_of-get_or (m ∷ points) (suc i) d h =
    let r = get_or points i 0 in
    let within : i < length points = omega arith in
    cond-false (nat_eq m r) 0 (suc (place_of points r))
    (at_one_of (λ y. nat_eq m y ≡ false) points r (IsDistinct-head nat_eq m points d) (one_of_index points i within))
    ∙ ap suc (place_of-get_or points i (IsDistinct-tail nat_eq m points d) within)

-- byte c of the row that is given for a point
given_byte : List ℕ → ℕ → List ℕ → ℕ → ℕ → ℕ
given_byte points f rows c r = get_or rows (place_of points r * f + c) 0

made_fragment : List ℕ → ℕ → List ℕ → ℕ → List ℕ
made_fragment points f rows x = map (λ c. combined points (given_byte points f rows c) x points) (range_with_len 0 f)

made_fragments : ℕ → List ℕ → ℕ → List ℕ → List (List ℕ)
made_fragments n points f rows = map (made_fragment points f rows) (range_with_len 0 n)

made_at : (n : ℕ) (points : List ℕ) (f : ℕ) (rows : List ℕ) (x : ℕ) → x < n → fragment_at (made_fragments n points f rows) x ≡ made_fragment points f rows x
unfolding made_fragments
made_at n points f rows x h = get_or-map-range_with_len (made_fragment points f rows) 0 n x x [] h (omega arith)

length-made : (points : List ℕ) (f : ℕ) (rows : List ℕ) (x : ℕ) → length (made_fragment points f rows x) ≡ f
unfolding made_fragment
length-made points f rows x = length-map-range_with_len (λ c. combined points (given_byte points f rows c) x points) 0 f

made_byte : (points : List ℕ) (f : ℕ) (rows : List ℕ) (x c : ℕ) → c < f → get_or (made_fragment points f rows x) c 0 ≡ combined points (given_byte points f rows c) x points
unfolding made_fragment
made_byte points f rows x c h = get_or-map-range_with_len (λ c. combined points (given_byte points f rows c) x points) 0 f c c 0 h (omega arith)

count_made : (n : ℕ) (points : List ℕ) (f : ℕ) (rows : List ℕ) → length (made_fragments n points f rows) ≡ n
unfolding made_fragments
count_made n points f rows = length-map-range_with_len (made_fragment points f rows) 0 n

given_byte_is_byte : (points : List ℕ) (f : ℕ) (rows : List ℕ) (c r : ℕ) → ((i : ℕ) → IsByte (get_or rows i 0)) → IsByte (given_byte points f rows c r)
unfolding given_byte
given_byte_is_byte points f rows c r h = h (place_of points r * f + c)

-- piece i of rows that are k pieces has f bytes
pub length-piece : (k f i : ℕ) (rows : List ℕ) → length rows ≡ k * f → i < k → length (piece rows f i) ≡ f
length-piece k f i rows l h =
    let fits = mul-le-mul_right f (let s : suc i ≤ k = omega arith in s) in
    let t = length-take f (drop (i * f) rows) in
    let d = length-drop (i * f) rows in
    omega arith

pub get_or-piece : (f i c : ℕ) (rows : List ℕ) → c < f → get_or (piece rows f i) c 0 ≡ get_or rows (i * f + c) 0
get_or-piece f i c rows h = get_or-take f (drop (i * f) rows) c 0 h ∙ get_or-drop (i * f) rows c 0

given_at : (k n f : ℕ) (points rows : List ℕ) (j c : ℕ) → AreIndexes k n points → j < k
    → given_byte points f rows c (get_or points j 0) ≡ get_or rows (j * f + c) 0
unfolding given_byte
given_at k n f points rows j c indexes h =
    let count = indexes.count in
    ap (λ p. get_or rows (p * f + c) 0) (place_of-get_or points j indexes.distinct (omega arith))

pub code_through : (k n f : ℕ) (points rows : List ℕ) → n ≤ 256 → AreIndexes k n points → ((i : ℕ) → IsByte (get_or rows i 0)) → length rows ≡ k * f
    → (fragments : List (List ℕ)) × IsCode k n f fragments × HoldsFragments fragments f points rows
code_through k n f points rows small indexes hb l =
    let made = made_fragments n points f rows in
    let bytes = indexes_are_bytes k n points small indexes in
    let count = indexes.count in
    let total = count_made n points f rows in
    let y = λ (c : ℕ). given_byte points f rows c in
    let hy : (c s : ℕ) → IsOneOf s points → IsByte (given_byte points f rows c s) = λ c s k. given_byte_is_byte points f rows c s hb in
    let byte : (x c : ℕ) → x < n → c < f → get_or (fragment_at made x) c 0 ≡ combined points (given_byte points f rows c) x points =
    λ x c hx hc. ap (λ row. get_or row c 0) (made_at n points f rows x hx) ∙ made_byte points f rows x c hc in
    let lengths : (i : ℕ) → i < n → length (fragment_at made i) ≡ f = λ i h. ap length (made_at n points f rows i h) ∙ length-made points f rows i in (
      made,
      record {
        count = total;
        lengths = lengths;
        columns = λ c hc.
            let q = interpolated points (given_byte points f rows c) bytes indexes.distinct (hy c) in
            record {
              coefficients = q.coefficients;
              degree_below = q.degree_below ∙ count;
              are_bytes = q.are_bytes;
              values =
                  fill_by_all (value_at q.coefficients) (column made c) n 0 (length-map made (λ row. get_or row c 0) ∙ total)
                  (λ x hx.
                  get_or-map (λ row. get_or row c 0) made x [] 0 (omega arith)
                  ∙ byte x c hx hc
                  ∙ sym (q.values x (let b : x < 256 = omega arith in b)));
            };
      },
      λ j hj.
          let lt : j < k = omega arith in
          let here = one_of_index points j hj in
          let x = get_or points j 0 in
          let hx = index_below k n points indexes x here in
          ext_get_or 0 (piece rows f j) (fragment_at made x) (length-piece k f j rows l lt ∙ sym (lengths x hx))
          (λ c h.
          let hc : c < f = let e = length-piece k f j rows l lt in omega arith in
          get_or-piece f j c rows hc
          ∙ sym (byte x c hx hc ∙ interpolated_at points (given_byte points f rows c) x bytes indexes.distinct here (hy c x here) ∙ given_at k n f points rows j c indexes lt)),
    )
