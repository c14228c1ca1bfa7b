-- Facts of lists of jobs.
use Rattle.std.proofs.Common.{◌≡◌, ℕ, zero, suc, ◌+◌, ◌<◌, ◌≤◌, ◌⊎◌, List, [], ◌∷◌, ◌++◌, Option, Some, None, length, set, sym, refl, ap, ◌∙◌, inl, inr, ⊎_elim, arith}
use Rattle.std.specs.List.{sum_by}
use Rattle.std.proofs.lemmas.List.Sums.{sum_by-cons, sum_by_push}
use mathlib.Core.Option.{some, some-injective, some-ne-none}
use lib.ListN.{get_elem?}
use Rattle.job_queue.specs.Lists.{links_of, marks_of, MarksBehind, MayPut, InOrder, EachInOrder, weight, add_own}

module _ {X : Type 0} where
  pub in_order-append : (xs ys zs : List X) → InOrder xs ys → InOrder xs (ys ++ zs)
  in_order-append [] ys zs h = tt
  in_order-append (x ∷ xs) [] zs h = absurd h
  in_order-append (x ∷ xs) (y ∷ ys) zs h = ⊎_elim (λ (p : (x ≡ y) × InOrder xs ys). inl (p.0, in_order-append xs ys zs p.1)) (λ (q : InOrder (x ∷ xs) ys). inr (in_order-append (x ∷ xs) ys zs q)) h

  in_order-last : (ys : List X) (x : X) → InOrder (x ∷ []) (ys ++ x ∷ [])
  in_order-last [] x = inl (refl, tt)
  in_order-last (y ∷ ys) x = inr (in_order-last ys x)

  pub in_order-push : (xs ys : List X) (x : X) → InOrder xs ys → InOrder (xs ++ x ∷ []) (ys ++ x ∷ [])
  in_order-push [] ys x h = in_order-last ys x
  in_order-push (z ∷ zs) [] x h = absurd h
  in_order-push (z ∷ zs) (y ∷ ys) x h = ⊎_elim (λ (p : (z ≡ y) × InOrder zs ys). inl (p.0, in_order-push zs ys x p.1)) (λ (q : InOrder (z ∷ zs) ys). inr (in_order-push (z ∷ zs) ys x q)) h

  pub each_in_order-before : (xss : List (List X)) (ys zs : List X) → EachInOrder xss ys → EachInOrder xss (ys ++ zs)
  each_in_order-before [] ys zs h = tt
  each_in_order-before (xs ∷ xss) ys zs h = (in_order-append xs ys zs h.0, each_in_order-before xss ys zs h.1)

  pub each_in_order-push : (xss : List (List X)) (ys : List X) (x : X) → EachInOrder xss ys → EachInOrder xss (ys ++ x ∷ [])
  each_in_order-push xss ys x h = each_in_order-before xss ys (x ∷ []) h

  pub each_in_order-own : (xss : List (List X)) (ys : List X) (x : X) → EachInOrder xss ys → EachInOrder (add_own x xss) (ys ++ x ∷ [])
  each_in_order-own [] ys x h = tt
  each_in_order-own (xs ∷ xss) ys x h = (in_order-push xs ys x h.0, each_in_order-push xss ys x h.1)

  pub each_in_order-append : (xss zss : List (List X)) (ys : List X) → EachInOrder xss ys → EachInOrder zss ys → EachInOrder (xss ++ zss) ys
  each_in_order-append [] zss ys h k = k
  each_in_order-append (xs ∷ xss) zss ys h k = (h.0, each_in_order-append xss zss ys h.1 k)

  pub weight-own : (h : X → ℕ) (xss : List (List X)) (x : X) → 0 < length xss → weight h (add_own x xss) ≡ weight h xss + h x
  weight-own h [] x p = absurd (omega arith)
  weight-own h (xs ∷ xss) x p = omega (arith, sum_by-cons (sum_by h) (xs ++ x ∷ []) xss, sum_by-cons (sum_by h) xs xss, sum_by_push h xs x)

  pub length-own : (xss : List (List X)) (x : X) → length (add_own x xss) ≡ length xss
  length-own [] x = refl
  length-own (xs ∷ xss) x = refl

  pub links_of-append : (js ks : List (Option X)) → links_of (js ++ ks) ≡ links_of js ++ links_of ks
  links_of-append [] ks = refl
  links_of-append (Some x ∷ js) ks = ap (λ l. x ∷ l) (links_of-append js ks)
  links_of-append (None ∷ js) ks = links_of-append js ks

  ends : (xs ys : List X) → xs ++ ys ≡ [] → ys ≡ []
  ends [] ys e = e
  ends (x ∷ xs) ys e = cc

  may_put-after : (js : List (Option X)) (y : X) (x : Option X) → MayPut (Some y ∷ js) x → MayPut js x
  may_put-after js y (Some x) m = m
  may_put-after js y None m = tt

  pub marks_behind-push : (js : List (Option X)) (x : Option X) → MayPut js x → MarksBehind js → MarksBehind (js ++ x ∷ [])
  marks_behind-push [] (Some x) m h = tt
  marks_behind-push [] None m h = refl
  marks_behind-push (Some y ∷ js) x m h = marks_behind-push js x (may_put-after js y x m) h
  marks_behind-push (None ∷ js) (Some x) m h = absurd (omega arith)
  marks_behind-push (None ∷ js) None m h = links_of-append js (None ∷ []) ∙ ap (λ l. l ++ []) h

  -- behind a mark no link stands
  pub none_behind : (gone rest : List (Option X)) → MarksBehind (gone ++ rest) → 0 < marks_of gone → links_of rest ≡ []
  none_behind [] rest h p = absurd (omega arith)
  none_behind (Some x ∷ js) rest h p = none_behind js rest h p
  none_behind (None ∷ js) rest h p = ends (links_of js) (links_of rest) (sym (links_of-append js rest) ∙ h)

module _ {V : Type 0} where
  -- the total after a change of one
  pub total-set : (f : V → ℕ) (views : List V) (seat : ℕ) (v w : V) → get_elem? views seat ≡ some v → sum_by f (set views seat w) + f v ≡ sum_by f views + f w
  total-set f [] seat v w e = absurd (some-ne-none v (sym e))
  total-set f (u ∷ us) zero v w e = omega (arith, sum_by-cons f w us, sum_by-cons f u us, ap f (some-injective u v e))
  total-set f (u ∷ us) (suc seat) v w e = omega (arith, sum_by-cons f u (set us seat w), sum_by-cons f u us, total-set f us seat v w e)

  pub total-at : (f : V → ℕ) (views : List V) (seat : ℕ) (v : V) → get_elem? views seat ≡ some v → f v ≤ sum_by f views
  total-at f [] seat v e = absurd (some-ne-none v (sym e))
  total-at f (u ∷ us) zero v e = omega (arith, sum_by-cons f u us, ap f (some-injective u v e))
  total-at f (u ∷ us) (suc seat) v e = omega (arith, sum_by-cons f u us, total-at f us seat v e)

  -- where nothing has any of the one, nothing has any of the other
  pub total-none : (f g : V → ℕ) (views : List V) → ((seat : ℕ) (u : V) → get_elem? views seat ≡ some u → f u ≡ 0 → g u ≡ 0) → sum_by f views ≡ 0 → sum_by g views ≡ 0
  total-none f g [] each none = refl
  total-none f g (u ∷ us) each none =
      let here : f u ≡ 0 = omega (arith, sum_by-cons f u us) in
      let there : sum_by f us ≡ 0 = omega (arith, sum_by-cons f u us) in
      omega (arith, sum_by-cons g u us, each 0 u refl here, total-none f g us (λ seat w e. each (suc seat) w e) there)

  -- where the total of the one is that of one view, so is the total of the other
  pub total-alone : (f g : V → ℕ) (views : List V) (seat : ℕ) (v : V) → ((seat : ℕ) (u : V) → get_elem? views seat ≡ some u → f u ≡ 0 → g u ≡ 0)
      → get_elem? views seat ≡ some v → sum_by f views ≡ f v → sum_by g views ≡ g v
  total-alone f g [] seat v each e all = absurd (some-ne-none v (sym e))
  total-alone f g (u ∷ us) zero v each e all =
      let rest : sum_by f us ≡ 0 = omega (arith, sum_by-cons f u us, ap f (some-injective u v e)) in
      omega (arith, sum_by-cons g u us, ap g (some-injective u v e), total-none f g us (λ s w at. each (suc s) w at) rest)
  total-alone f g (u ∷ us) (suc seat) v each e all =
      let here : f u ≡ 0 = omega (arith, sum_by-cons f u us, total-at f us seat v e) in
      let there : sum_by f us ≡ f v = omega (arith, sum_by-cons f u us) in
      omega (arith, sum_by-cons g u us, each 0 u refl here, total-alone f g us seat v (λ s w at. each (suc s) w at) e there)

  -- a view that is new stands behind the others
  pub at_push : (l : List V) (a b : V) (j : ℕ) → get_elem? (l ++ a ∷ []) j ≡ some b → (get_elem? l j ≡ some b) ⊎ ((j ≡ length l) × (a ≡ b))
  at_push [] a b zero e = inr (refl, some-injective a b e)
  at_push [] a b (suc j) e = absurd (some-ne-none b (sym e))
  at_push (x ∷ xs) a b zero e = inl e
  at_push (x ∷ xs) a b (suc j) e = ⊎_elim (λ (h : get_elem? xs j ≡ some b). inl h) (λ (h : (j ≡ length xs) × (a ≡ b)). inr (ap suc h.0, h.1)) (at_push xs a b j e)
