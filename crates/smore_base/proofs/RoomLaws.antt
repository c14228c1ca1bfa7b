-- Room is the greatest number of sets that can be formed; and need is at most one set for each record.
use Rattle.std.proofs.Common.{◌≡◌, ℕ, zero, suc, ◌+◌, ◌*◌, ◌≤◌, true, min, inl, inr, List, [], ◌∷◌, length, Option, Some, None, subst, arith}
use Rattle.std.specs.Prelude.{sum_by}
use Rattle.std.proofs.lemmas.Bool.{cond_both, le-leb, leb-true, cases_lt, both_ways}
use Rattle.std.proofs.lemmas.Nat.{mul-le}
use Rattle.std.proofs.lemmas.List.Sums.{sum_by-cons}
use Rattle.smore_base.specs.declared.geometry.Geometry.{Geometry}
use Rattle.smore_base.specs.Room.{can_form, most_formed, room, IsGreatest, OpenSet, record_blocks, fits_open, open_behind, need}

-- no set can always be formed
none_can : (members : ℕ) (empty : List ℕ) → can_form members empty 0 ≡ true
none_can members empty = le-leb (members * 0) (sum_by (min 0) empty) (omega arith)

most_can : (members : ℕ) (empty : List ℕ) (bound : ℕ) → can_form members empty (most_formed members empty bound) ≡ true
most_can members empty zero = none_can members empty
most_can members empty (suc bound) =
    cond_both (can_form members empty (suc bound)) (suc bound) (most_formed members empty bound) (λ sets. can_form members empty sets ≡ true) (λ is. is) (λ _. most_can members empty bound)

most_above : (members : ℕ) (empty : List ℕ) (bound sets : ℕ) → can_form members empty sets ≡ true → sets ≤ bound → sets ≤ most_formed members empty bound
most_above members empty zero sets can within = within
most_above members empty (suc bound) sets can within =
    cond_both (can_form members empty (suc bound)) (suc bound) (most_formed members empty bound) (λ most. sets ≤ most) (λ _. within) (λ cannot. elim (cases_lt bound sets) [
      | inl top ↦
          let same : sets ≡ suc bound = omega (arith, top, within) in
          absurd (both_ways (can_form members empty (suc bound)) cannot (subst (λ s. can_form members empty s ≡ true) same can))
      | inr lower ↦ most_above members empty bound sets can lower
    ])

-- no more zones are taken than are empty
taken_at_most : (sets : ℕ) (empty : List ℕ) → sum_by (min sets) empty ≤ sum_by (λ zones. zones) empty
taken_at_most sets [] = omega arith
taken_at_most sets (zones ∷ empty) =
    let rest = taken_at_most sets empty in
    let some = sum_by-cons (min sets) zones empty in
    let all = sum_by-cons (λ zones. zones) zones empty in
    omega (arith, rest, some, all)

pub room_is_greatest : (members : ℕ) (empty : List ℕ) → 1 ≤ members → IsGreatest members empty (room members empty)
room_is_greatest members empty some = record {
  can = most_can members empty (sum_by (λ zones. zones) empty);
  most = λ more can. most_above members empty (sum_by (λ zones. zones) empty) more can (within more can);
}
  where
    within : (more : ℕ) → can_form members empty more ≡ true → more ≤ sum_by (λ zones. zones) empty
    within more can =
        let formed : members * more ≤ sum_by (min more) empty = leb-true (members * more) (sum_by (min more) empty) can in
        let each : 1 * more ≤ members * more = mul-le 1 more members more some (omega arith) in
        omega (arith, formed, each, taken_at_most more empty)

pub need_at_most : (g : Geometry) (current : Option OpenSet) (fragments : List ℕ) → need g current fragments ≤ length fragments
need_at_most g current [] = omega arith
need_at_most g current (fragment ∷ fragments) =
    let blocks = record_blocks fragment in
    cond_both (fits_open g blocks current)
    (need g (Some (open_behind blocks current)) fragments)
    (1 + need g (Some (open_behind blocks None)) fragments)
    (λ sets. sets ≤ length (fragment ∷ fragments))
    (λ _. omega (arith, need_at_most g (Some (open_behind blocks current)) fragments))
    (λ _. omega (arith, need_at_most g (Some (open_behind blocks None)) fragments))
