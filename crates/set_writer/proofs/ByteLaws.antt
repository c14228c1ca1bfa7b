-- A payload that has fragments is of bytes, and so are the first records of a set.
use Rattle.std.proofs.Common.{◌≡◌, ℕ, zero, suc, ◌+◌, ◌-◌, ◌*◌, ◌<◌, ◌≤◌, inl, inr, List, [], ◌∷◌, ◌++◌, length, take, drop, replicate, get_or, sym, ap, ap₂, ◌∙◌, subst, arith}
use Rattle.std.specs.List.{AllByRecursion, flat_map, range_with_len}
use Rattle.std.proofs.lemmas.Bool.{cases_lt}
use Rattle.std.proofs.lemmas.List.{drop-drop, get_or-map, get_or_past, length-drop, nil_from_length, take-append-drop}
use Rattle.std.proofs.lemmas.List.FromFn.{length-range_with_len, get_or-map-range_with_len}
use Rattle.gf_field.specs.Field.{IsByte, AreBytes}
use Rattle.gf_field.specs.Polynomial.{value_at}
use Rattle.gf_field.proofs.Polynomial.{value_is_byte}
use Rattle.rs_code.specs.Fragments.{IsCode, IsFragment, piece, fragment_len, padded, fragment_at}
use Rattle.rs_code.proofs.Payloads.{length-padded}
use Rattle.rs_code.proofs.Joined.{joined_pieces}
use Rattle.marker_format.specs.Zone.{Array}
use Rattle.set_digest.specs.declared.line.Line.{Line}
use Rattle.set_digest.specs.Line.{spelling_of, fields_of}
use Rattle.smore_base.specs.BigEndian.{big_endian, spelled}
use Rattle.std.specs.Int.{w8}
use Rattle.marker_format.specs.Marker.{bytes_of_name, name_field}
use Rattle.array_model.proofs.SameZones.{all-append}
use Rattle.set_writer.specs.Entry.{HasBytes}
use Rattle.set_writer.specs.Writer.{cuts_from, opening}
use Rattle.set_writer.proofs.FragmentLaws.{source_at}

-- ---- lists of bytes

pub are_bytes : (xs : List ℕ) → ((i : ℕ) → get_or xs i 0 < 256) → AreBytes xs
are_bytes [] each = tt
are_bytes (x ∷ xs) each = (each 0, are_bytes xs (λ i. each (suc i)))

pub all_front : {X : Type 0} (P : X → Type 0) (xs ys : List X) → AllByRecursion P (xs ++ ys) → AllByRecursion P xs
all_front P [] ys all = tt
all_front P (x ∷ xs) ys all = (all.0, all_front P xs ys all.1)

pub all_behind : {X : Type 0} (P : X → Type 0) (xs ys : List X) → AllByRecursion P (xs ++ ys) → AllByRecursion P ys
all_behind P [] ys all = all
all_behind P (x ∷ xs) ys all = all_behind P xs ys all.1

bytes_joined : (g : ℕ → List ℕ) (from k : ℕ) → ((i : ℕ) → i < k → AreBytes (g (from + i))) → AreBytes (flat_map g (range_with_len from k))
bytes_joined g from zero each = tt
bytes_joined g from (suc k) each =
    all-append IsByte (g from) (flat_map g (range_with_len (from + 1) k))
    (subst (λ n. AreBytes (g n)) (let e : from + 0 ≡ from = omega arith in e) (each 0 (omega arith)))
    (bytes_joined g (from + 1) k (λ i below. subst (λ n. AreBytes (g n)) (let e : from + suc i ≡ from + 1 + i = omega arith in e) (each (suc i) (omega (arith, below)))))

-- ---- fragments of a code

module _ (k n f : ℕ) (fragments : List (List ℕ)) (code : IsCode k n f fragments) (few : n ≤ 256) where
  byte_at : (i c : ℕ) → i < n → c < f → IsByte (get_or (fragment_at fragments i) c 0)
  byte_at i c below within =
      let word = code.columns c within in
      let count = code.count in
      let value : get_or (fragment_at fragments i) c 0 ≡ value_at word.coefficients i =
      sym (get_or-map (λ (fragment : List ℕ). get_or fragment c 0) fragments i [] 0 (omega (arith, count, below)))
      ∙ ap (λ (l : List ℕ). get_or l i 0) word.values
      ∙ get_or-map-range_with_len (value_at word.coefficients) 0 n i i 0 below (omega arith) in
      subst IsByte (sym value) (value_is_byte word.coefficients i word.are_bytes (let b : i < 256 = omega (arith, below, few) in b))

  fragment_bytes : (i : ℕ) → i < n → AreBytes (fragment_at fragments i)
  fragment_bytes i below = are_bytes (fragment_at fragments i) (λ c. elim (cases_lt c f) [
    | inl within ↦ byte_at i c below within
    | inr past ↦ let long = code.lengths i below in let none = get_or_past (fragment_at fragments i) c 0 (omega (arith, long, past)) in omega (arith, none)
  ])

pub coded_bytes : (k n : ℕ) (payload : List ℕ) (index : ℕ) (bytes : List ℕ) → 1 ≤ k → k ≤ n → n ≤ 256 → IsFragment k n payload index bytes → AreBytes payload
coded_bytes k n payload index bytes some fits few it =
    let f = fragment_len k (length payload) in
    let code = it.of_payload.0 in
    let count = length-range_with_len 0 k in
    let all : padded k payload ≡ flat_map (fragment_at it.fragments) (range_with_len 0 k) = joined_pieces k f 0 (fragment_at it.fragments) (padded k payload) (length-padded k payload some)
    (λ i below. it.of_payload.1 i (omega (arith, below, count)) ∙ ap (fragment_at it.fragments) (source_at k i below ∙ (let e : i ≡ 0 + i = omega arith in e))) in
    all_front IsByte payload (replicate (k * f - length payload) 0)
    (subst AreBytes (sym all) (bytes_joined (fragment_at it.fragments) 0 k (λ i below. fragment_bytes k n f it.fragments code few (0 + i) (omega (arith, below, fits)))))

-- ---- names

-- the name in a line
pub name_bytes : (l : Line) → AreBytes (spelling_of l) → AreBytes (bytes_of_name l.name)
unfolding spelling_of
name_bytes l all =
    let name = bytes_of_name l.name in
    let field = all_front IsByte (name_field name) (replicate 23 0) (all_behind IsByte (spelled (fields_of l)) (name_field name ++ replicate 23 0) all) in
    all_front IsByte name (replicate (255 - length name) 0) (all_behind IsByte (big_endian w8 (length name)) (name ++ replicate (255 - length name) 0) field)

-- ---- the first records of a set

cuts_bytes : (array : Array) (set' position : ℕ) (cuts : List (ℕ × ℕ)) → AllByRecursion HasBytes (cuts_from array set' position cuts)
cuts_bytes array set' position [] = tt
cuts_bytes array set' position (cut ∷ cuts) = (record { payload = tt; name = tt }, cuts_bytes array set' (position + 1) cuts)

pub opening_bytes : (array : Array) (set' : ℕ) (cuts : List (ℕ × ℕ)) → AllByRecursion HasBytes (opening array set' cuts)
opening_bytes array set' cuts = (record { payload = tt; name = tt }, all-append HasBytes (cuts_from array set' 1 cuts) _ (cuts_bytes array set' 1 cuts) (record { payload = tt; name = tt }, tt))
