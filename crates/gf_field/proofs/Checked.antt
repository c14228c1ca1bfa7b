-- Tests of each number below a bound, which antt computes.
use Rattle.std.proofs.Common.{◌≡◌, ℕ, suc, zero, ◌<◌, refl, arith, Bool, true, false, ◌&&◌, subst, sym, inl, inr}
use Rattle.std.proofs.lemmas.Bool.{cases_eq}

-- whether the test holds at each number below n
abbrev pub all_below : ℕ → (ℕ → Bool) → Bool
all_below zero test = true
all_below (suc n) test = test n && all_below n test

first_true : (a b : Bool) → (a && b) ≡ true → a ≡ true
first_true true b h = refl
first_true false b h = h

second_true : (a b : Bool) → (a && b) ≡ true → b ≡ true
second_true true b h = h
second_true false b h = cc

pub at_each : (n : ℕ) (test : ℕ → Bool) → all_below n test ≡ true → (i : ℕ) → i < n → test i ≡ true
at_each zero test h i lt = absurd (omega arith)
at_each (suc n) test h i lt =
    elim (cases_eq i n) [
      | inl e ↦ subst (λ j. test j ≡ true) (sym e) (first_true (test n) (all_below n test) h)
      | inr ne ↦ at_each n test (second_true (test n) (all_below n test) h) i (omega arith)
    ]
