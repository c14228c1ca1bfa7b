-- How many sets can be formed, before a set is formed and afterwards.
use Rattle.std.proofs.Common.{◌≡◌, ◌⊎◌, ℕ, zero, suc, ◌+◌, ◌*◌, ◌/◌, ◌<◌, ◌≤◌, min, Bool, true, false, map, inl, inr, sym, ap, subst, ◌∙◌, arith}
use mathlib.Core.Bool.{true≢false}
use Rattle.std.specs.Prelude.{sum_by}
use Rattle.std.specs.Int.{from_bool}
use Rattle.std.specs.List.{range_with_len}
use Rattle.std.proofs.lemmas.Bool.{cases_lt, cases_Bool, le-leb, leb-true}
use Rattle.std.proofs.lemmas.Nat.{le-div}
use Rattle.smore_base.specs.Room.{can_form, room}
use Rattle.smore_base.proofs.RoomLaws.{room_is_greatest}
use Rattle.set_table.proofs.Counts.{count, count_more, sum_more}

-- of so many drives, the zones that sets take
abbrev zones_to : (ℕ → ℕ) → ℕ → ℕ → ℕ
zones_to empty most n = sum_by (min most) (map empty (range_with_len 0 n))

step : (n : ℕ) → n + 1 ≡ suc n
step n = omega arith

zones_suc : (empty : ℕ → ℕ) (most n : ℕ) → zones_to empty most (suc n) ≡ zones_to empty most n + min most (empty n)
zones_suc empty most n = ap (zones_to empty most) (sym (step n)) ∙ sum_more (min most) empty n

count_suc : (p : ℕ → Bool) (n : ℕ) → count p (suc n) ≡ count p n + from_bool (p n)
count_suc p n = ap (count p) (sym (step n)) ∙ count_more p n

pub zones_grow : (empty : ℕ → ℕ) (a b n : ℕ) → a ≤ b → zones_to empty a n ≤ zones_to empty b n
zones_grow empty a b zero le = omega arith
zones_grow empty a b (suc n) le = omega (arith, zones_suc empty a n, zones_suc empty b n, zones_grow empty a b n le, le)

-- ---- room as it is found: from a greater number down

-- no more sets can be formed than so many zones are enough for
pub room_within : (members n : ℕ) (empty : ℕ → ℕ) (zones : ℕ) → 1 ≤ members → zones_to empty (room members (map empty (range_with_len 0 n))) n ≤ zones → room members (map empty (range_with_len 0 n)) ≤ zones / members
room_within members n empty zones some within =
    let most = room members (map empty (range_with_len 0 n)) in
    let can : members * most ≤ zones_to empty most n = leb-true (members * most) (zones_to empty most n) (room_is_greatest members (map empty (range_with_len 0 n)) some).can in
    le-div most zones members some (omega (arith, can, within))

-- the first of them that can be formed is room
pub room_found : (members n : ℕ) (empty : ℕ → ℕ) (sets : ℕ) → 1 ≤ members → room members (map empty (range_with_len 0 n)) ≤ sets → members * sets ≤ zones_to empty sets n → sets ≡ room members (map empty (range_with_len 0 n))
room_found members n empty sets some above can =
    let most = (room_is_greatest members (map empty (range_with_len 0 n)) some).most sets (le-leb (members * sets) (zones_to empty sets n) can) in
    omega (arith, above, most)

-- ---- a set is formed

module _ (members n : ℕ) (was now : ℕ → ℕ) (chosen : ℕ → Bool) (some : 1 ≤ members) (one_each : (d : ℕ) → d < n → now d + from_bool (chosen d) ≡ was d) where
  fewer : (most m : ℕ) → m ≤ n → zones_to now most m ≤ zones_to was most m
  fewer most zero le = omega arith
  fewer most (suc m) le = omega (arith, zones_suc now most m, zones_suc was most m, fewer most m (omega (arith, le)), one_each m (omega (arith, le)))

  -- room isn't raised
  pub room_not_raised : room members (map now (range_with_len 0 n)) ≤ room members (map was (range_with_len 0 n))
  room_not_raised =
      let most = room members (map now (range_with_len 0 n)) in
      let can : members * most ≤ zones_to now most n = leb-true (members * most) (zones_to now most n) (room_is_greatest members (map now (range_with_len 0 n)) some).can in
      (room_is_greatest members (map was (range_with_len 0 n)) some).most most (le-leb (members * most) (zones_to was most n) (omega (arith, can, fewer most n (omega arith))))

  one_of : (b : Bool) → b ≡ true → from_bool b ≡ 1
  one_of b e = ap from_bool e

  none_of : (b : Bool) → b ≡ false → from_bool b ≡ 0
  none_of b e = ap from_bool e

  -- where each drive that was chosen had as many
  all_had : (most m : ℕ) → m ≤ n → ((d : ℕ) → d < m → chosen d ≡ true → suc most ≤ was d) → count chosen m * most ≤ zones_to now most m
  all_had most zero le had = omega arith
  all_had most (suc m) le had =
      let before = all_had most m (omega (arith, le)) (λ d below. had d (omega (arith, below))) in
      elim (cases_Bool (chosen m)) [
        | inl is ↦
            let more : count chosen (suc m) ≡ count chosen m + 1 = omega (arith, count_suc chosen m, one_of (chosen m) is) in
            subst (λ k. k * most ≤ zones_to now most (suc m)) (sym more) (omega (arith, zones_suc now most m, before, one_each m (omega (arith, le)), one_of (chosen m) is, had m (omega arith) is))
        | inr not_is ↦
            let same : count chosen (suc m) ≡ count chosen m = omega (arith, count_suc chosen m, none_of (chosen m) not_is) in
            subst (λ k. k * most ≤ zones_to now most (suc m)) (sym same) (omega (arith, zones_suc now most m, before))
      ]

  -- where each drive that wasn't chosen had fewer
  none_had : (most m : ℕ) → m ≤ n → ((d : ℕ) → d < m → chosen d ≡ false → was d ≤ most) → zones_to was (suc most) m ≤ zones_to now most m + count chosen m
  none_had most zero le had = omega arith
  none_had most (suc m) le had = elim (cases_Bool (chosen m)) [
    | inl is ↦ omega (arith, zones_suc now most m, zones_suc was (suc most) m, count_suc chosen m, none_had most m (omega (arith, le)) (λ d below. had d (omega (arith, below))), one_each m (omega (arith, le)), one_of (chosen m) is)
    | inr not_is ↦ omega (arith, zones_suc now most m, zones_suc was (suc most) m, count_suc chosen m, none_had most m (omega (arith, le)) (λ d below. had d (omega (arith, below))), one_each m (omega (arith, le)), none_of (chosen m) not_is, had m (omega arith) not_is)
  ]

  -- some drive that wasn't chosen had more, or none had
  either : (most m : ℕ) → ((d : ℕ) × (d < m) × (chosen d ≡ false) × (most < was d)) ⊎ ((d : ℕ) → d < m → chosen d ≡ false → was d ≤ most)
  either most zero = inr (λ d below. absurd (omega (arith, below)))
  either most (suc m) = elim (either most m) [
    | inl it ↦ inl (it.0, omega (arith, it.1), it.2, it.3)
    | inr none ↦ elim (cases_Bool (chosen m)) [
      | inl is ↦ inr (λ d below left. elim (cases_lt d m) [
        | inl less ↦ none d less left
        | inr ge ↦ absurd (true≢false (sym is ∙ subst (λ k. chosen k ≡ false) {x = d} {y = m} (omega (arith, below, ge)) left))
      ])
      | inr not_is ↦ elim (cases_lt most (was m)) [
        | inl more ↦ inl (m, omega arith, not_is, more)
        | inr no_more ↦ inr (λ d below left. elim (cases_lt d m) [
          | inl less ↦ none d less left
          | inr ge ↦ subst (λ k. was k ≤ most) {x = m} {y = d} (omega (arith, below, ge)) no_more
        ])
      ]
    ]
  ]

  -- room is lowered by one at most
  pub room_one_less : count chosen n ≡ members → ((a b : ℕ) → a < n → b < n → chosen a ≡ true → chosen b ≡ false → was b ≤ was a) → room members (map was (range_with_len 0 n)) ≤ room members (map now (range_with_len 0 n)) + 1
  room_one_less all rather = at_one (room members (map was (range_with_len 0 n))) (room_is_greatest members (map was (range_with_len 0 n)) some).can
    where
      at_one : (r : ℕ) → can_form members (map was (range_with_len 0 n)) r ≡ true → r ≤ room members (map now (range_with_len 0 n)) + 1
      at_one zero can = omega arith
      at_one (suc most) can =
          let could : members * suc most ≤ zones_to was (suc most) n = leb-true (members * suc most) (zones_to was (suc most) n) can in
          let enough : members * most ≤ zones_to now most n = elim (either most n) [
            | inl it ↦
                let had = all_had most n (omega arith) (λ d below is. omega (arith, rather d it.0 below it.1 is it.2, it.3)) in
                subst (λ k. k * most ≤ zones_to now most n) all had
            | inr none ↦
                let had = none_had most n (omega arith) none in
                omega (arith, could, had, all)
          ] in
          omega (arith, (room_is_greatest members (map now (range_with_len 0 n)) some).most most (le-leb (members * most) (zones_to now most n) enough))
