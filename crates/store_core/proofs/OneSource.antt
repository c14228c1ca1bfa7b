-- Objects in parts of one source fragment and one of parity: both fragments are the part.
use Rattle.std.proofs.Common.{inl, inr, ◌≡◌, ℕ, ◌-◌, ◌*◌, ◌<◌, ◌≤◌, List, [], ◌∷◌, ◌++◌, map, length, take, drop, replicate, refl, sym, ap, subst, ◌∙◌, arith}
use Rattle.std.specs.Prelude.{slice_index}
use Rattle.std.specs.Int.Bits.{bit_xor, xor_zero_r}
use Rattle.std.specs.List.{range_with_len}
use Rattle.std.proofs.lemmas.Bool.{cases_lt}
use Rattle.std.proofs.lemmas.List.{append-nil, take_all, ext_get_or, length-append}
use Rattle.gf_field.specs.Polynomial.{value_at, IsCodeword}
use Rattle.gf_field.proofs.Linear.{product-zero_right}
use Rattle.rs_code.specs.Fragments.{fragment_at, column, fragment_len, padded, IsFragment}
use Rattle.rs_code.specs.Coded.{CodedPayload}
use Rattle.rs_code.specs.Blob.{joined, AreWholeButLast, AreParts}
use Rattle.store_core.proofs.SaidLaws.{one_source}

-- the values of a polynomial of degree 0
constant : (a x : ℕ) → value_at (a ∷ []) x ≡ a
constant a x = ap (bit_xor a) (product-zero_right x) ∙ xor_zero_r a

two_fragments : {X : Type 0} (xs : List X) → length xs ≡ 2 → (a : X) × (b : X) × (xs ≡ a ∷ b ∷ [])
two_fragments [] e = absurd (omega (arith, e))
two_fragments (a ∷ []) e = absurd (omega (arith, e))
two_fragments (a ∷ b ∷ []) e = (a, b, refl)
two_fragments (a ∷ b ∷ c ∷ xs) e = absurd (omega (arith, e))

one_coefficient : (xs : List ℕ) → length xs ≡ 1 → (a : ℕ) × (xs ≡ a ∷ [])
one_coefficient [] e = absurd (omega (arith, e))
one_coefficient (a ∷ []) e = (a, refl)
one_coefficient (a ∷ b ∷ xs) e = absurd (omega (arith, e))

same_values : (x y : ℕ) → IsCodeword 1 2 (x ∷ y ∷ []) → x ≡ y
same_values x y word =
    let a = one_coefficient word.coefficients word.degree_below in
    let values : x ∷ y ∷ [] ≡ value_at (a.0 ∷ []) 0 ∷ value_at (a.0 ∷ []) 1 ∷ [] = word.values ∙ ap (λ (cs : List ℕ). map (value_at cs) (range_with_len 0 2)) a.1 in
    let first : x ≡ value_at (a.0 ∷ []) 0 = cc in
    let second : y ≡ value_at (a.0 ∷ []) 1 = cc in
    first ∙ constant a.0 0 ∙ sym (constant a.0 1) ∙ sym second

pub fragment_is_payload : (payload : List ℕ) (index : ℕ) (bytes : List ℕ) → index < 2 → IsFragment 1 2 payload index bytes → bytes ≡ payload
fragment_is_payload payload index bytes below it =
    let f = fragment_len 1 (length payload) in
    let size : f ≡ length payload = one_source (length payload) in
    let code = it.of_payload.0 in
    let two = two_fragments it.fragments code.count in
    let none : 1 * f - length payload ≡ 0 = omega (arith, size) in
    let whole : padded 1 payload ≡ payload = ap (λ n. payload ++ replicate n 0) none ∙ append-nil payload in
    let first : two.0 ≡ payload =
    ap (λ (fs : List (List ℕ)). fragment_at fs 0) (sym two.2) ∙ sym (it.of_payload.1 0 (omega arith))
    ∙ ap (λ n. take f (drop n (padded 1 payload))) (let n : 0 * f ≡ 0 = omega arith in n) ∙ ap (λ (l : List ℕ). take f l) whole ∙ take_all f payload (omega (arith, size)) in
    let long : length two.1 ≡ f = ap (λ (fs : List (List ℕ)). length (fragment_at fs 1)) (sym two.2) ∙ code.lengths 1 (omega arith) in
    let second : two.1 ≡ payload = ext_get_or 0 two.1 payload (long ∙ size) (λ c within.
    sym (same_values (slice_index two.0 c) (slice_index two.1 c) (subst (IsCodeword 1 2) (ap (λ (fs : List (List ℕ)). column fs c) two.2) (code.columns c (omega (arith, within, long)))))
    ∙ ap (λ (l : List ℕ). slice_index l c) first) in
    let here = sym it.here ∙ ap (λ (fs : List (List ℕ)). fragment_at fs index) two.2 in
    elim (cases_lt index 1) [
      | inl l ↦ here ∙ ap (fragment_at (two.0 ∷ two.1 ∷ [])) (let n : index ≡ 0 = omega (arith, l) in n) ∙ first
      | inr l ↦ here ∙ ap (fragment_at (two.0 ∷ two.1 ∷ [])) (let n : index ≡ 1 = omega (arith, l, below) in n) ∙ second
    ]

-- ---- an object of one part

-- of no bytes there are no parts, and else one of all bytes
pub data IsOne (object : List ℕ) : List CodedPayload → Type 0 where
  is_none : object ≡ [] → IsOne object []
  is_part : (part : CodedPayload) → part.payload ≡ object → 0 < length object → part.k ≡ 1 → part.p ≡ 1 → IsOne object (part ∷ [])

pub parts_are : (size : ℕ) (object : List ℕ) (parts : List CodedPayload) → AreParts 1 1 size object parts → length object ≤ size → IsOne object parts
parts_are size object [] are small = is_none (sym are.all_bytes)
parts_are size object (part ∷ []) are small =
    let all = sym (append-nil part.payload) ∙ are.all_bytes in
    let code = are.code 0 part (omega arith) in
    is_part part all (omega (arith, are.sizes.0, ap length all)) code.0 code.1
parts_are size object (part ∷ next ∷ parts) are small = absurd (omega (arith, are.sizes.0, more_than (next ∷ parts) are.sizes.1 (omega arith), length-append part.payload (joined (next ∷ parts)), ap length are.all_bytes, small))
  where
    more_than : (others : List CodedPayload) → AreWholeButLast size others → 0 < length others → 0 < length (joined others)
    more_than [] whole some = absurd (omega (arith, some))
    more_than (only ∷ []) whole some = omega (arith, whole.0, length-append only.payload [])
    more_than (first ∷ second ∷ others) whole some = omega (arith, more_than (second ∷ others) whole.1 (omega arith), length-append first.payload (joined (second ∷ others)))
