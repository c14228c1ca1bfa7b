-- The fragments of a payload that are put on the members are those of its code.
use Rattle.std.proofs.Common.{◌≡◌, ℕ, ◌+◌, ◌<◌, ◌≤◌, List, [], ◌∷◌, ◌++◌, length, map, take, get_or, refl, sym, ap, ◌∙◌, subst, arith}
use Rattle.std.specs.List.{concat, flat_map, range_with_len}
use Rattle.std.proofs.lemmas.List.{ext_get_or}
use Rattle.std.proofs.lemmas.List.FromFn.{length-range_with_len, length-map-range_with_len, get_or-map-range_with_len, take-map-range_with_len}
use Rattle.rs_code.specs.Fragments as code
use Rattle.rs_code.specs.Fragments.{fragment_len, padded, fragment_at}
use Rattle.rs_code.proofs.Payloads.{length-padded, one_code}
use Rattle.array_model.specs.Payload.{IsCode, AreFragments}
use Rattle.set_writer.specs.Entry.{fragment}
use Rattle.set_writer.specs.PayloadLaws.{fragments_for, FragmentsAreOfPayload}
use Rattle.set_writer.proofs.FragmentLaws.{source_at, is_fragment}
use Rattle.rs_code.proofs.Joined.{joined_pieces}

concat-map : (g : ℕ → List ℕ) (xs : List ℕ) → concat (map g xs) ≡ flat_map g xs
concat-map g [] = refl
concat-map g (x ∷ xs) = ap (λ (l : List ℕ). g x ++ l) (concat-map g xs)

module _ (k n : ℕ) (payload : List ℕ) (fragments : List (List ℕ)) (some : 1 ≤ k) (fits : k ≤ n) (few : n ≤ 256) (are : code.AreFragments k n payload fragments) where
  one_at : (i : ℕ) → i < n → fragment k payload i ≡ fragment_at fragments i
  one_at i below = sym (is_fragment k n payload i (fragment_at fragments i) some fits few below (record { fragments = fragments; of_payload = are; here = refl }))

  all_same : map (fragment k payload) (range_with_len 0 n) ≡ fragments
  all_same =
      let long = length-map-range_with_len (fragment k payload) 0 n in
      ext_get_or [] (map (fragment k payload) (range_with_len 0 n)) fragments (long ∙ sym are.0.count)
      (λ i within. let below : i < n = omega (arith, long, within) in get_or-map-range_with_len (fragment k payload) 0 n i i [] below (omega arith) ∙ one_at i below)

  sources_joined : concat (take k (map (fragment k payload) (range_with_len 0 n))) ≡ padded k payload
  sources_joined =
      let f = fragment_len k (length payload) in
      let count = length-range_with_len 0 k in
      ap (λ (l : List (List ℕ)). concat l) (take-map-range_with_len (fragment k payload) 0 n k fits)
      ∙ concat-map (fragment k payload) (range_with_len 0 k)
      ∙ sym (joined_pieces k f 0 (fragment k payload) (padded k payload) (length-padded k payload some)
      (λ i below.
      are.1 i (omega (arith, below, count))
      ∙ ap (fragment_at fragments) (source_at k i below)
      ∙ sym (one_at i (omega (arith, below, fits)))
      ∙ ap (fragment k payload) (let e : i ≡ 0 + i = omega arith in e)))

  is_code : IsCode k n (fragment_len k (length payload)) fragments
  is_code = record { count = are.0.count; lengths = are.0.lengths; columns = are.0.columns }

  these_are : AreFragments k n payload (map (fragment k payload) (range_with_len 0 n))
  these_are = record { code = subst (λ (l : List (List ℕ)). IsCode k n (fragment_len k (length payload)) l) (sym all_same) is_code; source = sources_joined }

pub fragments_are_of_payload : FragmentsAreOfPayload
fragments_are_of_payload k n payload some fits few bytes =
    let one = one_code k n payload some few fits bytes in
    these_are k n payload one.0 some fits few one.1

pub fragment_for : (k n : ℕ) (payload : List ℕ) (i : ℕ) → i < n → get_or (fragments_for k n payload) i [] ≡ fragment k payload i
fragment_for k n payload i below = get_or-map-range_with_len (fragment k payload) 0 n i i [] below (omega arith)
