-- Counts and sums over the numbers below one.
use Rattle.std.proofs.Common.{◌≡◌, ℕ, zero, suc, ◌+◌, ◌<◌, ◌≤◌, Bool, true, false, cond, List, [], ◌∷◌, ◌++◌, map, length, filter, ◌≢◌, ◌||◌, get_or, inl, inr, refl, sym, ap, subst, ◌∙◌, arith}
use mathlib.Core.Bool.{false≢true}
use Rattle.std.specs.Prelude.{sum_by}
use Rattle.std.specs.Int.{from_bool}
use Rattle.std.specs.List.{range_with_len, list_any}
use Rattle.std.proofs.lemmas.Bool.{cases_lt, cases_eq}
use Rattle.std.proofs.lemmas.List.{length-append}
use Rattle.std.proofs.lemmas.List.Elements.{filter-append}
use Rattle.std.proofs.lemmas.List.FromFn.{sum_by-map-range_with_len_more}

last : (a n j : ℕ) → a + n ≡ j → range_with_len a (suc n) ≡ range_with_len a n ++ (j ∷ [])
last a zero j e = let same : a ≡ j = omega (arith, e) in ap (λ x. x ∷ []) same
last a (suc n) j e = ap (λ l. a ∷ l) (last (a + 1) n j (omega (arith, e)))

-- those of the numbers below this one that pass
abbrev pub below : (ℕ → Bool) → ℕ → List ℕ
below p n = filter p (range_with_len 0 n)

abbrev pub count : (ℕ → Bool) → ℕ → ℕ
count p n = length (filter p (range_with_len 0 n))

pub below_suc : (p : ℕ → Bool) (n : ℕ) → below p (suc n) ≡ below p n ++ cond (p n) (n ∷ []) []
below_suc p n = ap (filter p) (last 0 n n (omega arith)) ∙ filter-append p (range_with_len 0 n) (n ∷ [])

pub below_more : (p : ℕ → Bool) (n : ℕ) → below p (n + 1) ≡ below p n ++ cond (p n) (n ∷ []) []
below_more p n = ap (below p) {x = n + 1} {y = suc n} (omega arith) ∙ below_suc p n

count_suc : (p : ℕ → Bool) (n : ℕ) → count p (suc n) ≡ count p n + from_bool (p n)
count_suc p n = ap length (below_suc p n) ∙ length-append (below p n) (cond (p n) (n ∷ []) []) ∙ ap (λ k. count p n + k) (at_one (p n))
  where
    at_one : (b : Bool) → length (cond b (n ∷ []) []) ≡ from_bool b
    at_one true = refl
    at_one false = refl

pub count_more : (p : ℕ → Bool) (n : ℕ) → count p (n + 1) ≡ count p n + from_bool (p n)
count_more p n = ap (count p) {x = n + 1} {y = suc n} (omega arith) ∙ count_suc p n

pub count_yes : (p : ℕ → Bool) (n : ℕ) → p n ≡ true → count p (n + 1) ≡ count p n + 1
count_yes p n e = count_more p n ∙ ap (λ b. count p n + from_bool b) e

pub count_no : (p : ℕ → Bool) (n : ℕ) → p n ≡ false → count p (n + 1) ≡ count p n
count_no p n e = count_more p n ∙ ap (λ b. count p n + from_bool b) e ∙ omega arith

one_at_most : (b : Bool) → from_bool b ≤ 1
one_at_most true = omega arith
one_at_most false = omega arith

pub count_few : (p : ℕ → Bool) (n : ℕ) → count p n ≤ n
count_few p zero = omega arith
count_few p (suc n) = omega (arith, count_suc p n, count_few p n, one_at_most (p n))

pub count_grows : (p : ℕ → Bool) (m n : ℕ) → m ≤ n → count p m ≤ count p n
count_grows p m zero le = omega (arith, count_few p m, le)
count_grows p m (suc n) le = elim (cases_lt m (suc n)) [
  | inl lt ↦ omega (arith, count_suc p n, count_grows p m n (omega (arith, lt)))
  | inr ge ↦ subst (λ k. count p m ≤ count p k) {x = m} {y = suc n} (omega (arith, le, ge)) (omega arith)
]

-- where another test passes each that this one does
pub count_weaker : (p q : ℕ → Bool) (n : ℕ) → ((d : ℕ) → d < n → p d ≡ true → q d ≡ true) → count p n ≤ count q n
count_weaker p q zero weaker = omega arith
count_weaker p q (suc n) weaker = omega (arith, count_suc p n, count_suc q n, count_weaker p q n (λ d lt. weaker d (omega (arith, lt))), at_one (p n) (q n) (weaker n (omega arith)))
  where
    at_one : (a b : Bool) → (a ≡ true → b ≡ true) → from_bool a ≤ from_bool b
    at_one false b more = omega arith
    at_one true b more = subst (λ c. 1 ≤ from_bool c) (sym (more refl)) (omega arith)

pub count_none : (p : ℕ → Bool) (n : ℕ) → ((d : ℕ) → d < n → p d ≡ false) → count p n ≡ 0
count_none p zero none = refl
count_none p (suc n) none = count_suc p n ∙ ap (λ k. k + from_bool (p n)) (count_none p n (λ d lt. none d (omega (arith, lt)))) ∙ ap (λ b. 0 + from_bool b) (none n (omega arith))

-- both tests pass the same
pub count_same : (p q : ℕ → Bool) (n : ℕ) → ((d : ℕ) → d < n → p d ≡ q d) → count p n ≡ count q n
count_same p q zero same = refl
count_same p q (suc n) same = count_suc p n ∙ ap (λ k. k + from_bool (p n)) (count_same p q n (λ d lt. same d (omega (arith, lt)))) ∙ ap (λ b. count q n + from_bool b) (same n (omega arith)) ∙ sym (count_suc q n)

-- one more number passes
pub count_one : (p q : ℕ → Bool) (n k : ℕ) → k < n → p k ≡ false → q k ≡ true → ((d : ℕ) → d ≢ k → p d ≡ q d) → count q n ≡ count p n + 1
count_one p q zero k within left taken same = absurd (omega (arith, within))
count_one p q (suc n) k within left taken same = elim (cases_eq n k) [
  | inl e ↦
      let before = count_same p q n (λ d lt. same d (λ f. omega (arith, lt, e, f))) in
      let one : from_bool (q n) ≡ 1 = ap (λ d. from_bool (q d)) e ∙ ap from_bool taken in
      let none : from_bool (p n) ≡ 0 = ap (λ d. from_bool (p d)) e ∙ ap from_bool left in
      omega (arith, count_suc p n, count_suc q n, before, one, none)
  | inr apart ↦
      let here : from_bool (p n) ≡ from_bool (q n) = ap from_bool (same n apart) in
      omega (arith, count_suc p n, count_suc q n, here, count_one p q n k (omega (arith, within, apart)) left taken same)
]

pub sum_more : (f e : ℕ → ℕ) (n : ℕ) → sum_by f (map e (range_with_len 0 (n + 1))) ≡ sum_by f (map e (range_with_len 0 n)) + f (e n)
sum_more f e n = sum_by-map-range_with_len_more f e 0 n n (omega arith)

-- ---- some element passes

pub any_somewhere : {X : Type 0} (p : X → Bool) (xs : List X) → list_any p xs ≡ true → (i : ℕ) × (i < length xs) × ((d : X) → p (get_or xs i d) ≡ true)
any_somewhere p [] any = absurd (false≢true any)
any_somewhere {X = X} p (x ∷ xs) any = at_one (p x) refl (any_somewhere p xs)
  where
    at_one : (b : Bool) → p x ≡ b → (list_any p xs ≡ true → (i : ℕ) × (i < length xs) × ((d : X) → p (get_or xs i d) ≡ true)) → (i : ℕ) × (i < length (x ∷ xs)) × ((d : X) → p (get_or (x ∷ xs) i d) ≡ true)
    at_one true e later = (0, omega arith, λ d. e)
    at_one false e later =
        let it = later (subst (λ b. (b || list_any p xs) ≡ true) e any) in
        (suc it.0, omega (arith, it.1), it.2)
