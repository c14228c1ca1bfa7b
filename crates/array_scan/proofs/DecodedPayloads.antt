-- Payloads, as they are decoded from k fragments.
use Rattle.std.proofs.Common.{◌≡◌, ℕ, zero, suc, ◌+◌, ◌-◌, ◌*◌, ◌<◌, ◌≤◌, min, List, [], ◌∷◌, ◌++◌, length, map, take, drop, get_or, slice_index_or, eqb, cond, false, refl, sym, ap, ap₂, ◌∙◌, subst, arith, append-nil}
use Rattle.std.specs.Prelude.{replicate, nat_eq}
use Rattle.std.specs.List.{AllByRecursion, IsDistinct, concat, flat_map, range_with_len}
use Rattle.std.specs.Int.{div_ceil}
use Rattle.std.proofs.lemmas.List.{drop-drop, take_at, drop_at, take_all, length-append, length-map, length-take, length-take-le, length-replicate, take-map}
use Rattle.std.proofs.lemmas.List.Elements.{recursion_from_All, All-from_recursion}
use Rattle.std.proofs.lemmas.Bool.{ne_eqb}
use Rattle.std.proofs.lemmas.Grind.{common_steps, flat_map-append}
use Rattle.std.proofs.Math.Nat.{mul-div_cancel_left, mul-mod_right}
use Rattle.zone_bay.specs.Contents.{Contents}
use Rattle.rs_code.specs.Fragments as code
use Rattle.array_model.specs.Payload.{Fragment, indexes_of, byte_of, interpolated, fragment_from, payload_from, fragment_of, IsCode, AreFragments}
use Rattle.marker_format.specs.Fragment.{fragment_at}
use Rattle.array_model.specs.Drives.{bytes_at}
use Rattle.array_model.specs.Reading.{fragment_on}
use Rattle.array_model.proofs.Payloads.{payload_is_read}
use Rattle.array_scan.specs.declared.set_read.Carrier.{Carrier}
use Rattle.array_scan.specs.declared.set_read.RecordAt.{RecordAt}
use Rattle.array_scan.specs.SetRead.{place_of, carrier_of, RiseBelow}
use Rattle.array_scan.specs.Payloads.{resized, fragment_held, fragments_held, given_of}
use Rattle.array_scan.specs.Scan.{payload_held}
use Rattle.array_scan.proofs.Ranges.{range_more}
use Rattle.array_scan.proofs.ReadMap.{length-from}

-- ---- a loop over the source fragments

-- the first so many fragments were decoded
pub record DecodedSoFar (k n f : ℕ) (have bytes out : List ℕ) (count : ℕ) : Type 0 where
  pub all : (fragments : List (List ℕ)) → code.IsCode k n f fragments → code.HoldsFragments fragments f have bytes → out ≡ flat_map (code.fragment_at fragments) (range_with_len 0 count)
  pub there : 0 < count → code.HasCode k n f have bytes

pub decoded_none : (k n f : ℕ) (have bytes : List ℕ) → DecodedSoFar k n f have bytes [] 0
decoded_none k n f have bytes = record { all = λ fragments is holds. refl; there = λ some. absurd (omega (arith, some)) }

pub decoded_more : (k n f : ℕ) (have bytes out fragment new : List ℕ) (count : ℕ) → DecodedSoFar k n f have bytes out count → code.GivesFragment k n f have bytes count fragment → code.HasCode k n f have bytes → new ≡ out ++ fragment → DecodedSoFar k n f have bytes new (count + 1)
decoded_more k n f have bytes out fragment new count so_far gives has added = record {
  all = λ fragments is holds.
      let g = code.fragment_at fragments in
      added ∙ ap₂ ◌++◌ (so_far.all fragments is holds) (gives fragments is holds)
      ∙ sym (ap (flat_map g) (range_more 0 count count (omega arith)) ∙ flat_map-append g (range_with_len 0 count) (count ∷ []) ∙ ap (λ l. flat_map g (range_with_len 0 count) ++ l) (append-nil (g count)));
  there = λ some. has;
}

-- ---- from a code to the payload

joined_as : (m : ℕ) (xs : List (List ℕ)) (first : ℕ) (g : ℕ → List ℕ) → m ≤ length xs → ((i : ℕ) → i < m → g (first + i) ≡ slice_index_or xs i []) → flat_map g (range_with_len first m) ≡ concat (take m xs)
joined_as zero xs first g fits each = refl
joined_as (suc m) [] first g fits each = absurd (omega (arith, fits))
joined_as (suc m) (x ∷ xs) first g fits each =
    ap₂ ◌++◌ (ap g (let e : first ≡ first + 0 = omega arith in e) ∙ each 0 (omega arith))
    (joined_as m xs (first + 1) g (omega (arith, fits)) (λ i below. ap g (let e : first + 1 + i ≡ first + suc i = omega arith in e) ∙ each (suc i) (omega (arith, below))))

rows_length : (m f first : ℕ) (g : ℕ → List ℕ) → ((i : ℕ) → i < m → length (g (first + i)) ≡ f) → length (flat_map g (range_with_len first m)) ≡ m * f
rows_length zero f first g each = let e : 0 ≡ zero * f = omega arith in e
rows_length (suc m) f first g each =
    length-append (g first) (flat_map g (range_with_len (first + 1) m))
    ∙ ap₂ ◌+◌ (ap (λ n. length (g n)) (let e : first ≡ first + 0 = omega arith in e) ∙ each 0 (omega arith))
    (rows_length m f (first + 1) g (λ i below. ap (λ n. length (g n)) (let e : first + 1 + i ≡ first + suc i = omega arith in e) ∙ each (suc i) (omega (arith, below))))
    ∙ (let e : f + m * f ≡ suc m * f = omega arith in e)

given_indexes : (f : ℕ) (have bytes : List ℕ) → indexes_of (given_of f have bytes) ≡ have
given_indexes f [] bytes = refl
given_indexes f (i ∷ have) bytes = ap (λ l. i ∷ l) (given_indexes f have (drop f bytes))

given_count : (f : ℕ) (have bytes : List ℕ) → length (given_of f have bytes) ≡ length have
given_count f [] bytes = refl
given_count f (i ∷ have) bytes = ap suc (given_count f have (drop f bytes))

given_each : (n f : ℕ) (fragments : List (List ℕ)) (have bytes : List ℕ) → AllByRecursion (λ i. i < n) have → code.HoldsFragments fragments f have bytes
    → AllByRecursion (λ (x : Fragment). (x.index < n) × (x.bytes ≡ fragment_of fragments x.index)) (given_of f have bytes)
given_each n f fragments [] bytes below holds = tt
given_each n f fragments (i ∷ have) bytes below holds = (
  (below.0, ap (take f) (ap (λ m. drop m bytes) (let e : 0 ≡ 0 * f = omega arith in e)) ∙ holds 0 (omega arith)),
  given_each n f fragments have (drop f bytes) below.1 (λ j within. ap (take f) (drop-drop (j * f) f bytes ∙ ap (λ m. drop m bytes) (let e : f + j * f ≡ suc j * f = omega arith in e)) ∙ holds (suc j) (omega (arith, within))),
)

times_over : (k f : ℕ) → 1 ≤ k → div_ceil (k * f) k ≡ f
times_over k f some =
    ap₂ (λ a b. a + min 1 b) (mul-div_cancel_left f (omega (arith, some))) (mul-mod_right k f) ∙ (let e : f + min 1 0 ≡ f = omega arith in e)

module _ (k n f bytes : ℕ) (have rows : List ℕ) (some : 1 ≤ k) (fits : k ≤ n) (few : n ≤ 256) (indexes : code.AreIndexes k n have) where
  module _ (fragments : List (List ℕ)) (is : code.IsCode k n f fragments) (holds : code.HoldsFragments fragments f have rows) where
    whole : List ℕ
    whole = flat_map (code.fragment_at fragments) (range_with_len 0 k)

    whole_length : length whole ≡ k * f
    unfolding whole
    whole_length = rows_length k f 0 (code.fragment_at fragments) (λ i below. is.lengths (0 + i) (omega (arith, below, fits)))

    whole_joined : whole ≡ concat (take k fragments)
    unfolding whole
    whole_joined = joined_as k fragments 0 (code.fragment_at fragments) (let c = is.count in omega (arith, c, fits)) (λ i below. ap (code.fragment_at fragments) (let e : 0 + i ≡ i = omega arith in e))

    len_is : div_ceil (length whole) k ≡ f
    len_is = ap (λ m. div_ceil m k) whole_length ∙ times_over k f some

    are : AreFragments k n whole fragments
    are = record {
      code = subst (λ (m : ℕ). IsCode k n m fragments) (sym len_is) (record { count = is.count; lengths = is.lengths; columns = is.columns });
      source = sym whole_joined ∙ sym (append-nil whole) ∙ ap (λ m. whole ++ replicate m 0) (let e : 0 ≡ k * div_ceil (length whole) k - length whole = omega (arith, whole_length, times) in e);
    }
      where
        times : k * div_ceil (length whole) k ≡ k * f
        times = ap (λ m. k * m) len_is

    given : List Fragment
    given = given_of f have rows

    read_as : payload_from k given (length whole) ≡ whole
    unfolding given
    read_as = payload_is_read k n whole fragments (given_of f have rows) fits few are (record {
      count = given_count f have rows ∙ indexes.count;
      distinct = subst (λ (l : List ℕ). IsDistinct nat_eq l) (sym (given_indexes f have rows)) indexes.distinct;
      each = given_each n f fragments have rows (recursion_from_All (λ i. i < n) have indexes.below) holds;
    })

    all_from : flat_map (fragment_from given f) (range_with_len 0 k) ≡ whole
    unfolding payload_from
    all_from =
        let all = flat_map (fragment_from given f) (range_with_len 0 k) in
        sym (take_all (length whole) all (let l = length-from given f k 0 in let w = whole_length in omega (arith, l, w)))
        ∙ ap (λ m. take (length whole) (flat_map (fragment_from given m) (range_with_len 0 k))) (sym len_is)
        ∙ read_as

    payload_by : f ≡ div_ceil bytes k → take bytes whole ≡ payload_from k (given_of f have rows) bytes
    unfolding payload_from given
    payload_by f_is = ap (take bytes) (sym all_from) ∙ ap (λ m. take bytes (flat_map (fragment_from (given_of f have rows) m) (range_with_len 0 k))) f_is

  -- what was decoded is the payload
  pub decoded_all : (out : List ℕ) (count : ℕ) → count ≡ k → f ≡ div_ceil bytes k → DecodedSoFar k n f have rows out count → take bytes out ≡ payload_from k (given_of f have rows) bytes
  unfolding whole
  decoded_all out count all f_is so_far =
      let has = so_far.there (omega (arith, all, some)) in
      ap (take bytes) (so_far.all has.0 has.1 has.2 ∙ ap (λ m. flat_map (code.fragment_at has.0) (range_with_len 0 m)) all)
      ∙ payload_by has.0 has.1 has.2 f_is

-- ---- fragments as carriers hold them

resized_length : (f : ℕ) (bytes : List ℕ) → length (resized f bytes) ≡ f
resized_length f bytes = let a = length-append (take f bytes) (replicate (f - length bytes) 0) in let t = length-take f bytes in let r = length-replicate {A = ℕ} (f - length bytes) 0 in omega (arith, a, t, r)

resized_byte : (f c : ℕ) (bytes : List ℕ) → c < f → get_or (resized f bytes) c 0 ≡ get_or bytes c 0
resized_byte f c bytes below = grind (arith, common_steps)

same_range : (n first : ℕ) (g h : ℕ → ℕ) → ((c : ℕ) → c < first + n → g c ≡ h c) → map g (range_with_len first n) ≡ map h (range_with_len first n)
same_range zero first g h same = refl
same_range (suc n) first g h same = ap₂ ◌∷◌ (same first (omega arith)) (same_range n (first + 1) g h (λ c below. same c (omega (arith, below))))

module _ (held : Contents) (at : RecordAt) (f : ℕ) where
  rows : List Carrier → List ℕ
  rows carriers = fragments_held held at f carriers

  own : List Carrier → List Fragment
  own carriers = map (fragment_on held at.block at.marker) (map carrier_of carriers)

  same_indexes : (carriers : List Carrier) (bytes : List ℕ) → indexes_of (given_of f (map (λ (c : Carrier). c.index) carriers) bytes) ≡ indexes_of (own carriers)
  unfolding own
  same_indexes [] bytes = refl
  same_indexes (c ∷ carriers) bytes = ap (λ l. c.index ∷ l) (same_indexes carriers (drop f bytes))

  same_byte : (carriers : List Carrier) (c index : ℕ) → c < f → byte_of (given_of f (map (λ (c : Carrier). c.index) carriers) (rows carriers)) c index ≡ byte_of (own carriers) c index
  unfolding own rows
  same_byte [] c index below = refl
  same_byte (carrier ∷ carriers) c index below =
      let first = fragment_held held at f carrier in
      let rest = fragments_held held at f carriers in
      let long : length first ≡ f = resized_length f (fragment_at (bytes_at held (place_of carrier.place)) (at.block + 1) at.marker.fragment) in
      ap₂ (cond (eqb carrier.index index))
      (ap (λ l. get_or l c 0) (take_at first rest f long) ∙ resized_byte f c (fragment_at (bytes_at held (place_of carrier.place)) (at.block + 1) at.marker.fragment) below)
      (ap (λ l. byte_of (given_of f (map (λ (c : Carrier). c.index) carriers) l) c index) (drop_at first rest f long) ∙ same_byte carriers c index below)

  pub same_payload : (k : ℕ) (carriers : List Carrier) → f ≡ div_ceil at.marker.payload k → payload_from k (given_of f (map (λ (c : Carrier). c.index) (take k carriers)) (fragments_held held at f (take k carriers))) at.marker.payload ≡ payload_held k held carriers at
  unfolding payload_from own rows
  same_payload k carriers f_is =
      let given = given_of f (map (λ (c : Carrier). c.index) (take k carriers)) (fragments_held held at f (take k carriers)) in
      let mine = map (fragment_on held at.block at.marker) (map carrier_of (take k carriers)) in
      ap (λ m. take at.marker.payload (flat_map (fragment_from given m) (range_with_len 0 k))) (sym f_is)
      ∙ ap (λ (h : ℕ → List ℕ). take at.marker.payload (flat_map h (range_with_len 0 k))) (λ i x. fragment_same x i)
      ∙ ap (λ m. take at.marker.payload (flat_map (fragment_from mine m) (range_with_len 0 k))) f_is
      ∙ ap (λ l. take at.marker.payload (flat_map (fragment_from (map (fragment_on held at.block at.marker) l) (div_ceil at.marker.payload k)) (range_with_len 0 k))) (sym (take-map carrier_of k carriers))
    where
      fragment_same : (x : ℕ) → fragment_from (given_of f (map (λ (c : Carrier). c.index) (take k carriers)) (fragments_held held at f (take k carriers))) f x ≡ fragment_from (map (fragment_on held at.block at.marker) (map carrier_of (take k carriers))) f x
      fragment_same x = same_range f 0 _ _ (λ c below. ap₂ (λ (points : List ℕ) (value : ℕ → ℕ). interpolated points value x) (same_indexes (take k carriers) (fragments_held held at f (take k carriers))) (λ i index. same_byte (take k carriers) c index (omega (arith, below)) i))

-- ---- indexes of carriers

own_indexes : List Carrier → List ℕ
own_indexes carriers = map (λ (c : Carrier). c.index) carriers

above_all : (low high x : ℕ) (carriers : List Carrier) → x < low → RiseBelow low high carriers → AllByRecursion (λ y. nat_eq x y ≡ false) (own_indexes carriers)
unfolding own_indexes
above_all low high x [] below rise = tt
above_all low high x (c ∷ carriers) below rise =
    let from = rise.0 in
    (ne_eqb x c.index (λ same. omega (arith, same, below, from)), above_all (c.index + 1) high x carriers (omega (arith, below, from)) rise.2)

rising_distinct : (low high : ℕ) (carriers : List Carrier) → RiseBelow low high carriers → IsDistinct nat_eq (own_indexes carriers)
unfolding own_indexes IsDistinct
rising_distinct low high [] rise = tt
rising_distinct low high (c ∷ carriers) rise = (above_all (c.index + 1) high c.index carriers (omega arith) rise.2, rising_distinct (c.index + 1) high carriers rise.2)

rising_below : (low high : ℕ) (carriers : List Carrier) → RiseBelow low high carriers → AllByRecursion (λ i. i < high) (own_indexes carriers)
unfolding own_indexes
rising_below low high [] rise = tt
rising_below low high (c ∷ carriers) rise = (rise.1, rising_below (c.index + 1) high carriers rise.2)

rising_first : (n low high : ℕ) (carriers : List Carrier) → RiseBelow low high carriers → RiseBelow low high (take n carriers)
rising_first zero low high carriers rise = tt
rising_first (suc n) low high [] rise = tt
rising_first (suc n) low high (c ∷ carriers) rise = (rise.0, rise.1, rising_first n (c.index + 1) high carriers rise.2)

pub carriers_indexes : (k n : ℕ) (carriers : List Carrier) → RiseBelow 0 n carriers → k ≤ length carriers → code.AreIndexes k n (map (λ (c : Carrier). c.index) (take k carriers))
unfolding own_indexes
carriers_indexes k n carriers rise enough =
    let first = take k carriers in
    let rises = rising_first k 0 n carriers rise in
    record {
      count = length-map first (λ (c : Carrier). c.index) ∙ length-take-le k carriers enough;
      distinct = rising_distinct 0 n first rises;
      below = All-from_recursion (λ i. i < n) (own_indexes first) (rising_below 0 n first rises);
    }
