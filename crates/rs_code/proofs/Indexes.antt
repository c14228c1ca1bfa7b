-- Indexes that rise are distinct.
use Rattle.std.proofs.Common.{◌≡◌, ℕ, suc, ◌<◌, ◌≤◌, Bool, true, false, ◌&&◌, List, [], ◌∷◌, length, nat_eq, nat_le, nat_lt, arith}
use Rattle.std.specs.List.{AllByRecursion, IsDistinct}
use Rattle.std.proofs.lemmas.Bool.{and_parts, leb-true, ltb-true, ne_eqb}
use Rattle.std.proofs.lemmas.List.Elements.{All-from_recursion}
use Rattle.rs_code.specs.Fragments.{AreIndexes}

-- whether the numbers rise, from low on and below n
abbrev pub rises : ℕ → ℕ → List ℕ → Bool
rises low n [] = true
rises low n (x ∷ xs) = nat_le low x && (nat_lt x n && rises (suc x) n xs)

-- what that says of the first and of the others
first_rises : (low n x : ℕ) (xs : List ℕ) → rises low n (x ∷ xs) ≡ true → (low ≤ x) × (x < n) × (rises (suc x) n xs ≡ true)
first_rises low n x xs h =
    let parts = and_parts (nat_le low x) (nat_lt x n && rises (suc x) n xs) h in
    let more = and_parts (nat_lt x n) (rises (suc x) n xs) parts.1 in
    (leb-true low x parts.0, ltb-true x n more.0, more.1)

apart_from : (x low n : ℕ) (xs : List ℕ) → x < low → rises low n xs ≡ true → AllByRecursion (λ y. nat_eq x y ≡ false) xs
apart_from x low n [] lt h = tt
apart_from x low n (y ∷ ys) lt h =
    let parts = first_rises low n y ys h in
    let from = parts.0 in (
      ne_eqb x y (λ e. absurd (omega arith)),
      apart_from x (suc y) n ys (omega arith) parts.2,
    )

rising_is_distinct : (low n : ℕ) (xs : List ℕ) → rises low n xs ≡ true → IsDistinct nat_eq xs
unfolding IsDistinct
rising_is_distinct low n [] h = tt
rising_is_distinct low n (x ∷ xs) h =
    let parts = first_rises low n x xs h in (apart_from x (suc x) n xs (omega arith) parts.2, rising_is_distinct (suc x) n xs parts.2)

rising_is_below : (low n : ℕ) (xs : List ℕ) → rises low n xs ≡ true → AllByRecursion (λ y. y < n) xs
rising_is_below low n [] h = tt
rising_is_below low n (x ∷ xs) h =
    let parts = first_rises low n x xs h in (parts.1, rising_is_below (suc x) n xs parts.2)

pub rising_indexes : (k n : ℕ) (xs : List ℕ) → length xs ≡ k → rises 0 n xs ≡ true → AreIndexes k n xs
rising_indexes k n xs l h = record {
  count = l;
  distinct = rising_is_distinct 0 n xs h;
  below = All-from_recursion (λ y. y < n) xs (rising_is_below 0 n xs h);
}
