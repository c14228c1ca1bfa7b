-- Which drives are chosen for a set.
use Rattle.std.proofs.Common.{◌≡◌, ◌≢◌, ℕ, zero, suc, ◌+◌, ◌<◌, ◌≤◌, Bool, true, false, List, length, replicate, get_or, set, Option, Some, None, inl, inr, refl, sym, ap, subst, ◌∙◌, arith}
use Rattle.std.proofs.lemmas.Bool.{cases_lt, cases_eq, lt-ltb, le-ltb, eq-eqb, or_left, or_right, and_from, both_ways}
use Rattle.std.proofs.lemmas.List.{get_or-set_same, get_or-set_other, length-set}
use Rattle.set_table.specs.Table.{Table, empty_on, has_empty, is_rather, fragments_of, IsBest, IsChoice}
use Rattle.set_table.proofs.Counts.{count, count_none, count_one, count_same, count_weaker}

-- the best of the drives below one
pub record BestBelow (t : Table) (chosen : List Bool) (n : ℕ) (best : Option ℕ) (most : ℕ) : Type 0 where
  pub none : best ≡ None → most ≡ 0
  pub some : (b : ℕ) → best ≡ Some b → (b < n) × (get_or chosen b false ≡ false) × (most ≡ empty_on t b) × (0 < most) × ((d : ℕ) → d < b → get_or chosen d false ≡ false → empty_on t d < most)
  pub rest : (d : ℕ) → d < n → get_or chosen d false ≡ false → empty_on t d ≤ most

module _ (t : Table) (chosen : List Bool) where
  pub best_none : BestBelow t chosen 0 None 0
  best_none = record {
    none = λ e. refl;
    some = λ b e. absurd (differ e);
    rest = λ d below. absurd (omega (arith, below));
  }
    where
      differ : {b : ℕ} → None ≡ Some b → ⊥
      differ e = absurd cc

  -- this drive is better
  pub best_here : (n : ℕ) (best : Option ℕ) (most : ℕ) → BestBelow t chosen n best most → get_or chosen n false ≡ false → most < empty_on t n → BestBelow t chosen (n + 1) (Some n) (empty_on t n)
  best_here n best most before unchosen more = record {
    none = λ e. absurd (differ e);
    some = λ b e.
        let same = some_same e in (
          subst (λ k. k < n + 1) same (omega arith),
          subst (λ k. get_or chosen k false ≡ false) same unchosen,
          ap (empty_on t) same,
          omega (arith, more),
          λ d below left. omega (arith, more, before.rest d (subst (λ k. d < k) (sym same) below) left),
        );
    rest = λ d below left. elim (cases_lt d n) [
      | inl less ↦ omega (arith, more, before.rest d less left)
      | inr ge ↦ subst (λ k. empty_on t d ≤ empty_on t k) {x = d} {y = n} (omega (arith, below, ge)) (omega arith)
    ];
  }
    where
      differ : Some n ≡ None → ⊥
      differ e = absurd cc

      some_same : {b : ℕ} → Some n ≡ Some b → n ≡ b
      some_same e = cc

  -- or isn't
  pub best_before : (n : ℕ) (best : Option ℕ) (most : ℕ) → BestBelow t chosen n best most → (get_or chosen n false ≡ false → empty_on t n ≤ most) → BestBelow t chosen (n + 1) best most
  best_before n best most before no_more = record {
    none = before.none;
    some = λ b e. let it = before.some b e in (omega (arith, it.0), it.1, it.2, it.3, it.4);
    rest = λ d below left. elim (cases_lt d n) [
      | inl less ↦ before.rest d less left
      | inr ge ↦
          let same : d ≡ n = omega (arith, below, ge) in
          subst (λ k. empty_on t k ≤ most) (sym same) (no_more (subst (λ k. get_or chosen k false ≡ false) same left))
    ];
  }

  pub best_is : (best : Option ℕ) (most : ℕ) → BestBelow t chosen t.geometry.drives best most → IsBest t (λ d. get_or chosen d false) best
  best_is None most it = λ d below left. le-ltb 0 (empty_on t d) (omega (arith, it.rest d below left, it.none refl))
  best_is (Some b) most it =
      let is = it.some b refl in (
        is.0,
        is.1,
        lt-ltb 0 (empty_on t b) (omega (arith, is.2, is.3)),
        λ d below left apart. elim (cases_lt d b) [
          | inl less ↦ or_left _ _ (lt-ltb (empty_on t d) (empty_on t b) (omega (arith, is.4 d less left, is.2)))
          | inr ge ↦ elim (cases_lt (empty_on t d) (empty_on t b)) [
            | inl fewer ↦ or_left _ _ (lt-ltb (empty_on t d) (empty_on t b) fewer)
            | inr no_fewer ↦
                let same : empty_on t b ≡ empty_on t d = omega (arith, it.rest d below left, is.2, no_fewer) in
                or_right _ _ (and_from _ _ (eq-eqb (empty_on t b) (empty_on t d) same) (lt-ltb b d (omega (arith, ge, apart))))
          ]
        ],
      )

-- ---- one drive after the other

all_false : (n d : ℕ) → get_or (replicate n false) d false ≡ false
all_false zero d = refl
all_false (suc n) zero = refl
all_false (suc n) (suc d) = all_false n d

-- so many drives are chosen
pub record ChosenSoFar (t : Table) (chosen : List Bool) (n : ℕ) : Type 0 where
  pub long : length chosen ≡ 24
  pub count_is : count (λ d. get_or chosen d false) t.geometry.drives ≡ n
  pub drives : (d : ℕ) → get_or chosen d false ≡ true → d < t.geometry.drives
  pub empty : (d : ℕ) → get_or chosen d false ≡ true → has_empty t d ≡ true
  pub best : (a b : ℕ) → get_or chosen a false ≡ true → get_or chosen b false ≡ false → b < t.geometry.drives → has_empty t b ≡ true → is_rather t a b ≡ true

pub chosen_none : (t : Table) → ChosenSoFar t (replicate 24 false) 0
chosen_none t = record {
  long = refl;
  count_is = count_none (λ d. get_or (replicate 24 false) d false) t.geometry.drives (λ d below. all_false 24 d);
  drives = λ d is. absurd (both_ways (get_or (replicate 24 false) d false) (all_false 24 d) is);
  empty = λ d is. absurd (both_ways (get_or (replicate 24 false) d false) (all_false 24 d) is);
  best = λ a b is. absurd (both_ways (get_or (replicate 24 false) a false) (all_false 24 a) is);
}

module _ (t : Table) (chosen : List Bool) (n : ℕ) (so_far : ChosenSoFar t chosen n) (most : t.geometry.drives ≤ 24) where
  -- one more is chosen
  pub one_more : (device : ℕ) → IsBest t (λ d. get_or chosen d false) (Some device) → ChosenSoFar t (set chosen device true) (n + 1)
  one_more device best = record {
    long = length-set chosen device true ∙ so_far.long;
    count_is = count_one (λ d. get_or chosen d false) (λ d. get_or (set chosen device true) d false) t.geometry.drives device best.0 best.1 here (λ d apart. sym (there d apart)) ∙ ap (λ k. k + 1) so_far.count_is;
    drives = λ d is. elim (cases_eq d device) [
      | inl same ↦ subst (λ k. k < t.geometry.drives) (sym same) best.0
      | inr apart ↦ so_far.drives d (sym (there d apart) ∙ is)
    ];
    empty = λ d is. elim (cases_eq d device) [
      | inl same ↦ subst (λ k. has_empty t k ≡ true) (sym same) best.2
      | inr apart ↦ so_far.empty d (sym (there d apart) ∙ is)
    ];
    best = λ a b is left below has. elim (cases_eq b device) [
      | inl same ↦ absurd (both_ways (get_or (set chosen device true) b false) left (subst (λ k. get_or (set chosen device true) k false ≡ true) (sym same) here))
      | inr other ↦
          let unchosen = sym (there b other) ∙ left in
          elim (cases_eq a device) [
            | inl same ↦ subst (λ k. is_rather t k b ≡ true) (sym same) (best.3 b below unchosen other)
            | inr apart ↦ so_far.best a b (sym (there a apart) ∙ is) unchosen below has
          ]
    ];
  }
    where
      here : get_or (set chosen device true) device false ≡ true
      here = get_or-set_same chosen device true false (omega (arith, best.0, most, so_far.long))

      there : (d : ℕ) → d ≢ device → get_or (set chosen device true) d false ≡ get_or chosen d false
      there d apart = get_or-set_other chosen device d true false apart

  -- no more are there
  pub no_more : n < fragments_of t → IsBest t (λ d. get_or chosen d false) None → IsChoice t (λ d. get_or chosen d false)
  no_more fewer none =
      let all = count_same (λ d. get_or chosen d false) (has_empty t) t.geometry.drives (λ d below. alike d below (get_or chosen d false) refl) in
      record {
        drives = so_far.drives;
        empty = so_far.empty;
        count = omega (arith, all, so_far.count_is, fewer);
        best = so_far.best;
      }
    where
      alike : (d : ℕ) → d < t.geometry.drives → (b : Bool) → get_or chosen d false ≡ b → get_or chosen d false ≡ has_empty t d
      alike d below true e = e ∙ sym (so_far.empty d e)
      alike d below false e = e ∙ sym (none d below e)

  -- as many are chosen as a set has fragments
  pub enough : n ≡ fragments_of t → IsChoice t (λ d. get_or chosen d false)
  enough all =
      let within = count_weaker (λ d. get_or chosen d false) (has_empty t) t.geometry.drives (λ d below is. so_far.empty d is) in
      record {
        drives = so_far.drives;
        empty = so_far.empty;
        count = omega (arith, within, so_far.count_is, all);
        best = so_far.best;
      }
