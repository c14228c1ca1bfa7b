-- What is found among rising rows, and what an edit of them does.
use Rattle.std.proofs.Common.{◌≡◌, ℕ, zero, suc, ◌+◌, ◌-◌, ◌<◌, ◌≤◌, eqb, ◌≢◌, Bool, true, false, cond, List, [], ◌∷◌, length, get_or, set, Some, None, IsSome, Result, Ok, Err, IfOk, IfErr, refl, sym, ap, subst, ◌∙◌, inl, inr, arith}
use mathlib.Core.Bool.{false≢true}
use Rattle.std.specs.List.{insert, remove}
use Rattle.std.specs.List.Sorted.{IsSearchInRange, IsBinarySearchResult, IsNonDecreasingBy}
use Rattle.std.specs.Ordering.{nat_cmp, ordering_index}
use Rattle.std.proofs.lemmas.Cmp.{ranked}
use Rattle.std.proofs.lemmas.List.Sorted.{IsNonDecreasingBy-from_default}
use Rattle.std.proofs.lemmas.List.Edits.{length-insert, get_or-insert_below, get_or-insert_at, get_or-insert_above}
use Rattle.std.proofs.lemmas.Bool.{cases_lt, eqb-true}
use Rattle.std.proofs.lemmas.Bool.Decides.{nat_tests}
use Rattle.std.proofs.lemmas.Grind.{common_steps}
use Rattle.set_table.specs.declared.rows.Row.{Row}
use Rattle.set_table.specs.Rows.{row_of, no_row, set_at, IsRising, IsAt, IsGapFor, IsAbove, PutsRow, TakesRow, IsLeastAbove}

-- no row before this place is the set's
abbrev NoneBefore : List Row → ℕ → ℕ → Type 0
NoneBefore rows k i = (j : ℕ) → j < i → set_at rows j ≢ k

tail_none : (x : Row) (l : List Row) (k i : ℕ) → NoneBefore (x ∷ l) k (suc i) → NoneBefore l k i
tail_none x l k i none j lt = none (suc j) (omega arith)

tail_at : (x : Row) (l : List Row) (k i : ℕ) → IsAt (x ∷ l) k (suc i) → IsAt l k i
tail_at x l k i is = record { in_range = omega (arith, is.in_range); has_set = is.has_set }

absent : (l : List Row) (k : ℕ) → NoneBefore l k (length l) → row_of k l ≡ None
absent [] k none = refl
absent (x ∷ l) k none = grind (arith, nat_tests, none 0 (omega arith), absent l k (tail_none x l k _ none))

present : (l : List Row) (k i : ℕ) → IsAt l k i → NoneBefore l k i → row_of k l ≡ Some (get_or l i no_row)
present [] k i is none = absurd (omega (arith, is.in_range))
present (x ∷ l) k zero is none = grind (arith, nat_tests, is.has_set)
present (x ∷ l) k (suc i) is none = grind (arith, nat_tests, none 0 (omega arith), present l k i (tail_at x l k i is) (tail_none x l k i none))

puts_set : (l : List Row) (row : Row) (i : ℕ) → IsAt l row.set i → NoneBefore l row.set i → PutsRow row l (set l i row)
puts_set [] row i is none q = absurd (omega (arith, is.in_range))
puts_set (x ∷ l) row zero is none q = grind (arith, nat_tests, is.has_set)
puts_set (x ∷ l) row (suc i) is none q = grind (arith, nat_tests, none 0 (omega arith), puts_set l row i (tail_at x l row.set i is) (tail_none x l row.set i none) q)

puts_insert : (l : List Row) (row : Row) (i : ℕ) → NoneBefore l row.set i → PutsRow row l (insert l i row)
puts_insert l row zero none q = refl
puts_insert [] row (suc i) none q = refl
puts_insert (x ∷ l) row (suc i) none q = grind (arith, nat_tests, none 0 (omega arith), puts_insert l row i (tail_none x l row.set i none) q)

module _ (l : List Row) (rising : IsRising l) (k : ℕ) where
  comparisons_rise : IsNonDecreasingBy (λ (row : Row). ordering_index (nat_cmp row.set k)) l
  comparisons_rise = IsNonDecreasingBy-from_default (λ (row : Row). ordering_index (nat_cmp row.set k)) l no_row (λ i j le in_range.
      let sets_rise : set_at l i ≤ set_at l j = grind (arith, rising i j, λ (same : i ≡ j). ap (set_at l) same) in
      grind (arith, nat_tests))

  -- a search by number ends at the set's row, or at the gap for it
  pub searched : (r : Result ℕ ℕ) → IsSearchInRange r (length l) → IsBinarySearchResult (λ (row : Row). nat_cmp row.set k) l r → record { found : IfOk r (IsAt l k); absent : IfErr r (IsGapFor l k) }
  searched (Ok at) in_range equal = record { found = record { in_range = in_range; has_set = ranked _ k _ (sym (equal no_row)) }; absent = tt }
  searched (Err at) in_range parted = record {
    found = tt;
    absent = record {
      in_range = in_range;
      smaller_before = λ j lt. ranked _ k _ (sym ((parted comparisons_rise).0 j no_row (omega arith) lt));
      greater_after = λ j le lt. ranked _ k _ (sym ((parted comparisons_rise).1 j no_row le lt));
    };
  }

module _ (l : List Row) (rising : IsRising l) (k at : ℕ) (is : IsAt l k at) where
  none_before : NoneBefore l k at
  none_before j lt same = omega (arith, rising j at lt is.in_range, is.has_set)

  pub found_at : row_of k l ≡ Some (get_or l at no_row)
  found_at = present l k at is none_before

  pub puts_at : (row : Row) → row.set ≡ k → PutsRow row l (set l at row)
  puts_at row same = puts_set l row at (subst (λ n. IsAt l n at) (sym same) is) (subst (λ n. NoneBefore l n at) (sym same) none_before)

  pub rising_set : (row : Row) → row.set ≡ k → IsRising (set l at row)
  rising_set row same i j lt in_range = grind (arith, common_steps, rising i j, rising i at, rising at j, is.in_range, is.has_set, same)

module _ (l : List Row) (k at : ℕ) (gap : IsGapFor l k at) where
  pub none_in_gap : row_of k l ≡ None
  none_in_gap = absent l k (λ j lt same. grind (arith, gap.smaller_before j, gap.greater_after j))

  pub puts_in_gap : (row : Row) → row.set ≡ k → PutsRow row l (insert l at row)
  puts_in_gap row same = puts_insert l row at (λ j lt is. omega (arith, gap.smaller_before j lt, same, is))

  pub rising_insert : (row : Row) → row.set ≡ k → IsRising l → IsRising (insert l at row)
  rising_insert row same rising i j lt in_range =
      let new = insert l at row in
      let number = λ (x : Row). x.set in
      let length_new = length-insert l at row gap.in_range in
      let below : (i : ℕ) → i < at → set_at new i ≡ set_at l i = λ i b. ap number (get_or-insert_below l at row no_row i b gap.in_range) in
      let here : (i : ℕ) → i ≡ at → set_at new i ≡ k = λ i h. rw h (ap number (get_or-insert_at l at row no_row gap.in_range) ∙ same) in
      let above : (i : ℕ) → at < i → set_at new i ≡ set_at l (i - 1) = λ i a. subst (λ q. set_at new q ≡ set_at l (i - 1)) {x = i - 1 + 1} (omega arith) (ap number (get_or-insert_above l at row no_row (i - 1) (omega arith) gap.in_range)) in
      grind (arith, below i, here i, above i, below j, here j, above j, rising i j, rising i (j - 1), rising (i - 1) (j - 1), gap.smaller_before i, gap.greater_after (j - 1))

-- ---- a row taken out

removed : (l : List Row) (k i : ℕ) → IsAt l k i → NoneBefore l k i → ((j : ℕ) → i < j → j < length l → set_at l j ≢ k) → TakesRow k l (remove l i)
removed [] k i is none later q = absurd (omega (arith, is.in_range))
removed (x ∷ l) k zero is none later q = grind (arith, nat_tests, is.has_set, absent l k (λ j lt. later (suc j) (omega arith) (omega (arith, lt))))
removed (x ∷ l) k (suc i) is none later q = grind (arith, nat_tests, none 0 (omega arith), removed l k i (tail_at x l k i is) (tail_none x l k i none) (λ j lt below. later (suc j) (omega (arith, lt)) (omega (arith, below))) q)

pub takes_at : (l : List Row) → IsRising l → (k at : ℕ) → IsAt l k at → TakesRow k l (remove l at)
takes_at l rising k at is = removed l k at is (none_before l rising k at is) (λ j lt below same. omega (arith, rising at j lt below, is.has_set, same))

pub takes_none : (l : List Row) (k : ℕ) → row_of k l ≡ None → TakesRow k l l
takes_none l k none q = at_one (eqb k q) refl
  where
    at_one : (b : Bool) → eqb k q ≡ b → row_of q l ≡ cond b None (row_of q l)
    at_one true e = ap (λ n. row_of n l) (sym (eqb-true k q e)) ∙ none
    at_one false e = refl

-- ---- the least set above one

somewhere : (l : List Row) (q : ℕ) → IsSome (row_of q l) → (i : ℕ) × (i < length l) × (set_at l i ≡ q)
somewhere [] q some = absurd (false≢true some)
somewhere (x ∷ l) q some = at_one (eqb x.set q) refl (somewhere l q)
  where
    at_one : (b : Bool) → eqb x.set q ≡ b → (IsSome (row_of q l) → (i : ℕ) × (i < length l) × (set_at l i ≡ q)) → (i : ℕ) × (i < length (x ∷ l)) × (set_at (x ∷ l) i ≡ q)
    at_one true e later = (0, omega arith, eqb-true x.set q e)
    at_one false e later =
        let it = later (subst (λ b. IsSome (cond b (Some x) (row_of q l))) e some) in
        (suc it.0, omega (arith, it.1), it.2)

pub none_above : (l : List Row) (k i : ℕ) → IsAbove l k i → length l ≤ i → IsLeastAbove k l None
none_above l k i it past q some =
    let here = somewhere l q some in
    subst (λ n. n ≤ k) here.2 (it.not_above here.0 (omega (arith, here.1, past)))

pub least_above : (l : List Row) → IsRising l → (k i : ℕ) → IsAbove l k i → i < length l → IsLeastAbove k l (Some (set_at l i))
least_above l rising k i it within =
    (it.above i (omega arith) within, subst IsSome (sym (found_at l rising (set_at l i) i (record { in_range = within; has_set = refl }))) refl, least)
  where
    rises : (a b : ℕ) → a ≤ b → b < length l → set_at l a ≤ set_at l b
    rises a b le below = elim (cases_lt a b) [
      | inl lt ↦ omega (arith, rising a b lt below)
      | inr ge ↦ subst (λ n. set_at l a ≤ set_at l n) {x = a} (omega (arith, le, ge)) (omega arith)
    ]

    least : (q : ℕ) → IsSome (row_of q l) → k < q → set_at l i ≤ q
    least q some more =
        let here = somewhere l q some in
        elim (cases_lt here.0 i) [
          | inl lt ↦ absurd (omega (arith, it.not_above here.0 lt, here.2, more))
          | inr ge ↦ subst (λ n. set_at l i ≤ n) here.2 (rises i here.0 ge here.1)
        ]

pub above_at : (l : List Row) → IsRising l → (k at : ℕ) → IsAt l k at → IsAbove l k (at + 1)
above_at l rising k at is = record {
  in_range = omega (arith, is.in_range);
  not_above = λ j lt. elim (cases_lt j at) [
    | inl below ↦ omega (arith, rising j at below is.in_range, is.has_set)
    | inr ge ↦ subst (λ n. set_at l n ≤ k) {x = at} (omega (arith, lt, ge)) (omega (arith, is.has_set))
  ];
  above = λ j le below. omega (arith, rising at j (omega (arith, le)) below, is.has_set);
}

pub above_gap : (l : List Row) (k at : ℕ) → IsGapFor l k at → IsAbove l k at
above_gap l k at gap = record {
  in_range = gap.in_range;
  not_above = λ j lt. omega (arith, gap.smaller_before j lt);
  above = gap.greater_after;
}
