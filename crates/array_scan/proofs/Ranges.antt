-- Numbers in a row, one more at the end.
use Rattle.std.proofs.Common.{◌≡◌, ℕ, zero, suc, ◌+◌, [], ◌∷◌, ◌++◌, Option, ap, ◌∙◌, arith, add-one}
use Rattle.std.specs.List.{filter_map, cons_option, range_with_len}
use Rattle.std.proofs.lemmas.List.Elements.{filter_map-append}

range_next : (a n j : ℕ) → a + n ≡ j → range_with_len a (suc n) ≡ range_with_len a n ++ j ∷ []
range_next a zero j is = ap (λ x. x ∷ []) (omega (arith, is))
range_next a (suc n) j is = ap (λ l. a ∷ l) (range_next (a + 1) n j (omega (arith, is)))

pub range_more : (a n j : ℕ) → a + n ≡ j → range_with_len a (n + 1) ≡ range_with_len a n ++ j ∷ []
range_more a n j is = ap (range_with_len a) (add-one n) ∙ range_next a n j is

pub filter_map-range_more : {Y : Type 0} (h : ℕ → Option Y) (a n j : ℕ) → a + n ≡ j → filter_map h (range_with_len a (n + 1)) ≡ filter_map h (range_with_len a n) ++ cons_option (h j) []
filter_map-range_more h a n j is = ap (filter_map h) (range_more a n j is) ∙ filter_map-append h (range_with_len a n) (j ∷ [])
