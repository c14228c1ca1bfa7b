-- The fragments of a payload, as they are had from a code.
use Rattle.std.proofs.Common.{◌≡◌, ℕ, zero, suc, ◌+◌, ◌<◌, ◌≤◌, List, [], ◌∷◌, length, map, take, get_or, nat_eq, refl, sym, ap, ap₂, min, ◌∙◌, subst, arith}
use Rattle.std.specs.List.{AllByRecursion, IsDistinct, range_with_len}
use Rattle.std.proofs.lemmas.List.{length-map}
use Rattle.std.proofs.lemmas.List.FromFn.{length-range_with_len, get_or-map-range_with_len}
use Rattle.std.proofs.Math.Nat.{zero-div, zero-mod}
use Rattle.rs_code.specs.Fragments.{IsFragment, piece, fragment_len, padded, fragment_at, sources, HoldsFragments}
use Rattle.rs_code.specs.Coded.{pieces, KeepsFragments}
use Rattle.rs_code.proofs.Sources.{sources_are_indexes}
use Rattle.array_model.specs.Payload.{Fragment, indexes_of, fragment_from, fragment_of, IsCode}
use Rattle.array_model.proofs.Payloads.{fragment_is}
use Rattle.set_writer.specs.Entry.{sources_of, fragment}

-- ---- the source fragments

made : (f : ℕ) (bytes : List ℕ) → ℕ → Fragment
made f bytes i = record { index = i; bytes = piece bytes f i }

given : (f : ℕ) (bytes : List ℕ) (first count : ℕ) → List Fragment
given f bytes first count = map (λ i. record { index = i; bytes = piece bytes f i }) (range_with_len first count)

given_indexes : (f : ℕ) (bytes : List ℕ) (first count : ℕ) → indexes_of (map (λ i. record { index = i; bytes = piece bytes f i }) (range_with_len first count)) ≡ range_with_len first count
given_indexes f bytes first zero = refl
given_indexes f bytes first (suc count) = ap (λ l. first ∷ l) (given_indexes f bytes (first + 1) count)

given_each : (n f : ℕ) (bytes : List ℕ) (fragments : List (List ℕ)) (first count : ℕ) → ((i : ℕ) → first ≤ i → i < first + count → (i < n) × (piece bytes f i ≡ fragment_of fragments i))
    → AllByRecursion (λ (x : Fragment). (x.index < n) × (x.bytes ≡ fragment_of fragments x.index)) (map (λ i. record { index = i; bytes = piece bytes f i }) (range_with_len first count))
given_each n f bytes fragments first zero each = tt
given_each n f bytes fragments first (suc count) each = (each first (omega arith) (omega arith), given_each n f bytes fragments (first + 1) count (λ i from below. each i (omega arith) (omega (arith, below))))

pub source_at : (k i : ℕ) → i < k → get_or (sources k) i 0 ≡ i
source_at k i below = range_at 0 k i below ∙ omega arith
  where
    range_at : (first count i : ℕ) → i < count → get_or (range_with_len first count) i 0 ≡ first + i
    range_at first zero i below = absurd (omega arith)
    range_at first (suc count) zero below = omega arith
    range_at first (suc count) (suc i) below = range_at (first + 1) count i (omega arith) ∙ omega arith

-- ---- the fragment of an index

pub is_fragment : (k n : ℕ) (payload : List ℕ) (index : ℕ) (bytes : List ℕ) → 1 ≤ k → k ≤ n → n ≤ 256 → index < n → IsFragment k n payload index bytes → bytes ≡ fragment k payload index
unfolding fragment
is_fragment k n payload index bytes some fits few below it =
    let f = fragment_len k (length payload) in
    let code = it.of_payload.0 in
    let holds : HoldsFragments it.fragments f (sources k) (padded k payload) = it.of_payload.1 in
    let ours : IsCode k n f it.fragments = record { count = code.count; lengths = code.lengths; columns = code.columns } in
    let count : length (sources k) ≡ k = length-range_with_len 0 k in
    sym it.here
    ∙ sym (fragment_is k n f index it.fragments (sources_of k payload) few below ours record {
      count = length-map (range_with_len 0 k) (λ i. record { index = i; bytes = piece (padded k payload) f i }) ∙ count;
      distinct = subst (λ (l : List ℕ). IsDistinct nat_eq l) (sym (given_indexes f (padded k payload) 0 k)) (sources_are_indexes k n fits).distinct;
      each = given_each n f (padded k payload) it.fragments 0 k (λ i from within. let here : i < k = omega (arith, within) in (omega (arith, here, fits), holds i (omega (arith, here, count)) ∙ ap (fragment_at it.fragments) (source_at k i here)));
    })

-- the fragments of no payload have no bytes
pub no_fragment : (k index : ℕ) → fragment k [] index ≡ []
unfolding fragment
no_fragment k index = ap (λ n. fragment_from (sources_of k []) n index) (ap₂ (λ a b. a + min 1 b) (zero-div k) (zero-mod k) ∙ none)
  where
    none : 0 + min 1 0 ≡ 0
    none = refl

pub length-fragment : (k : ℕ) (payload : List ℕ) (index : ℕ) → length (fragment k payload index) ≡ fragment_len k (length payload)
unfolding fragment
length-fragment k payload index = length-map (range_with_len 0 (fragment_len k (length payload))) _ ∙ length-range_with_len 0 (fragment_len k (length payload))

-- one that is cut out of a buffer that has them all
pub piece_is_fragment : (k p len f index : ℕ) (bytes : List ℕ) → KeepsFragments k p len f bytes → index < k + p → IsFragment k (k + p) (take len bytes) index (piece bytes f index)
piece_is_fragment k p len f index bytes keeps below = record {
  fragments = pieces (k + p) f bytes;
  of_payload = keeps.are;
  here = get_or-map-range_with_len (piece bytes f) 0 (k + p) index index [] below (omega arith);
}
