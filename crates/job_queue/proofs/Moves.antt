-- Each move keeps the rule of the queue.
use Rattle.std.proofs.Common.{◌≡◌, ◌≢◌, ℕ, zero, suc, ◌+◌, ◌<◌, ◌^◌, ◌==◌, Bool, true, false, true≢false, cond, ◌||◌, List, [], ◌∷◌, ◌++◌, Option, length, set, sym, refl, ap, ◌∙◌, subst, ⊎_elim, append_assoc, arith, length-append}
use Rattle.std.specs.List.{sum_by}
use Rattle.std.proofs.lemmas.List.Sums.{sum_by-append, sum_by_push}
use mathlib.Core.Option.{some, some-injective, some-ne-none}
use lib.ListN.{get_elem?}
use Rattle.crossbeam_queue.specs.Fifo.{Pushes, Pops, Forks, Merges, Learns}
use Rattle.crossbeam_queue.proofs.Lists.{at_set}
use Rattle.job_queue.specs.declared.hand.Hand.{Hand}
use Rattle.job_queue.specs.Lists.{MarksBehind, MayPut, EachInOrder, weight}
use Rattle.job_queue.specs.Hands.{owner_hand, new_hand, spent_hand, makes, puts, takes, joined}
use Rattle.job_queue.specs.Rule.{State, Fits, Kept, one_if}
use Rattle.job_queue.specs.Ends.{KnowsAll, KnowsOrder}
use Rattle.job_queue.proofs.Lists.{each_in_order-push, each_in_order-own, each_in_order-append, each_in_order-before, weight-own, length-own, marks_behind-push, total-set, total-at, total-none, total-alone, at_push}

merge_owner : (a b : Bool) (seat other own made m n : ℕ) → other ≢ seat → (a ≡ true → (seat ≡ own) × (m ≡ made)) → (a ≡ false → m ≡ 0) → (b ≡ true → (other ≡ own) × (n ≡ made)) → (b ≡ false → n ≡ 0) → (a || b) ≡ true
    → (seat ≡ cond b seat own) × (m + n ≡ made)
merge_owner true true seat other own made m n apart a1 a0 b1 b0 e = absurd (apart ((b1 refl).0 ∙ sym (a1 refl).0))
merge_owner true false seat other own made m n apart a1 a0 b1 b0 e = ((a1 refl).0, omega (arith, (a1 refl).1, b0 refl))
merge_owner false true seat other own made m n apart a1 a0 b1 b0 e = (refl, omega (arith, a0 refl, (b1 refl).1))
merge_owner false false seat other own made m n apart a1 a0 b1 b0 e = absurd (true≢false (sym e))

merge_other : (a b : Bool) (m n : ℕ) → (a ≡ false → m ≡ 0) → (b ≡ false → n ≡ 0) → (a || b) ≡ false → m + n ≡ 0
merge_other true b m n a0 b0 e = absurd (true≢false e)
merge_other false true m n a0 b0 e = absurd (true≢false e)
merge_other false false m n a0 b0 e = omega (arith, a0 refl, b0 refl)

one_of : (a b : Bool) → (a ≡ true → b ≡ true → ⊥) → one_if (a || b) ≡ one_if a + one_if b
one_of true true n = absurd (n refl refl)
one_of true false n = refl
one_of false true n = refl
one_of false false n = refl

neither : (a b : Bool) → a ≡ false → b ≡ false → (a || b) ≡ false
neither a b x y = cc

is_one : (b : Bool) → one_if b ≡ 1 → b ≡ true
is_one true e = refl
is_one false e = absurd (omega arith)

stays : (b : Bool) (seat other own j : ℕ) → (b ≡ true → other ≡ own) → j ≢ other → j ≡ own → j ≡ cond b seat own
stays true seat other own j is apart e = absurd (apart (e ∙ sym (is refl)))
stays false seat other own j is apart e = e

none_weighs : {X : Type 0} (h : X → ℕ) (xss : List (List X)) → length xss ≡ 0 → weight h xss ≡ 0
none_weighs h [] e = refl
none_weighs h (xs ∷ xss) e = absurd (omega arith)

append_nil : {X : Type 0} (xs : List X) → xs ++ [] ≡ xs
append_nil [] = refl
append_nil (x ∷ xs) = ap (λ l. x ∷ l) (append_nil xs)

merge_first : {X : Type 0} (a b : Bool) (seat other own : ℕ) (p q all : List X) → other ≢ seat → (a ≡ true → (seat ≡ own) × (p ≡ all)) → (a ≡ false → p ≡ []) → (b ≡ true → (other ≡ own) × (q ≡ all)) → (b ≡ false → q ≡ []) → (a || b) ≡ true
    → (seat ≡ cond b seat own) × (p ++ q ≡ all)
merge_first true true seat other own p q all apart a1 a0 b1 b0 e = absurd (apart ((b1 refl).0 ∙ sym (a1 refl).0))
merge_first true false seat other own p q all apart a1 a0 b1 b0 e = ((a1 refl).0, ap (λ l. p ++ l) (b0 refl) ∙ append_nil p ∙ (a1 refl).1)
merge_first false true seat other own p q all apart a1 a0 b1 b0 e = (refl, ap (λ l. l ++ q) (a0 refl) ∙ (b1 refl).1)
merge_first false false seat other own p q all apart a1 a0 b1 b0 e = absurd (true≢false (sym e))

merge_later : {X : Type 0} (a b : Bool) (p q : List X) → (a ≡ false → p ≡ []) → (b ≡ false → q ≡ []) → (a || b) ≡ false → p ++ q ≡ []
merge_later true b p q a0 b0 e = absurd (true≢false e)
merge_later false true p q a0 b0 e = absurd (true≢false e)
merge_later false false p q a0 b0 e = ap (λ l. l ++ q) (a0 refl) ∙ b0 refl

module _ {L : Type 0} where
  abbrev Each : State L → List (Hand L) → Type 0
  Each s views = (seat : ℕ) (v : Hand L) → get_elem? views seat ≡ some v → Fits s seat v

  abbrev took : Hand L → ℕ
  took v = length v.taken

  abbrev is_first : Hand L → ℕ
  is_first v = one_if v.first

  -- all views after a change of one
  each-set : (t : State L) (views : List (Hand L)) (seat : ℕ) (w : Hand L) → Fits t seat w → ((j : ℕ) (u : Hand L) → j ≢ seat → get_elem? views j ≡ some u → Fits t j u) → Each t (set views seat w)
  each-set t views seat w mine others j u e = ⊎_elim (λ (x : (j ≡ seat) × (w ≡ u)). subst (λ (y : ℕ × Hand L). Fits t y.0 y.1) (λ i. (sym x.0 i, x.1 i)) mine)
      (λ (x : (j ≢ seat) × (get_elem? views j ≡ some u)). others j u x.0 x.1) (at_set views seat j w u e)

  -- all views after a new one
  each-push : (t : State L) (views : List (Hand L)) (w : Hand L) → Fits t (length views) w → Each t views → Each t (views ++ w ∷ [])
  each-push t views w mine others j u e = ⊎_elim (λ (x : get_elem? views j ≡ some u). others j u x)
      (λ (x : (j ≡ length views) × (w ≡ u)). subst (λ (y : ℕ × Hand L). Fits t y.0 y.1) (λ i. (sym x.0 i, x.1 i)) mine) (at_push views w u j e)

  abbrev start : State L
  start = record { owner = 0; first = 0; made = 0; put = []; gone = [] }

  begins-each : (seat : ℕ) (v : Hand L) → get_elem? (owner_hand 0 ∷ []) seat ≡ some v → Fits start seat v
  begins-each zero v e = subst (λ (u : Hand L). Fits start 0 u) (some-injective (owner_hand 0) v e)
      (record { owner = λ _. (refl, refl); other = λ p. absurd (true≢false p); first = λ p. absurd (true≢false (sym p)); later = λ _. refl; idle = λ _. refl; order = tt })
  begins-each (suc seat) v e = absurd (some-ne-none v (sym e))

  pub begins : Kept {L = L} [] (owner_hand 0 ∷ [])
  begins = record {
    state = start;
    whole = refl;
    few = omega arith;
    behind = tt;
    begun = λ _. refl;
    passes = refl;
    firsts = λ p. absurd (omega arith);
    each_once = λ h. refl;
    each = begins-each;
  }

  -- the first pass was not made where none was
  no_first : (s : State L) (views : List (Hand L)) → Each s views → sum_by took views ≡ 0 → (seat : ℕ) (v : Hand L) → get_elem? views seat ≡ some v → v.first ≡ false
  no_first s views each none seat v at = let le = total-at took views seat v at in (each seat v at).idle (omega arith)

  forks_first : (seat : ℕ) (v : Hand L) (items : List (Option (ℕ × L))) (views : List (Hand L)) → v.owner ≡ true → (k : Kept items views) → k.state.made ≡ 0 → get_elem? views seat ≡ some v
      → Kept items (set views seat (makes v) ++ new_hand true ∷ [])
  forks_first seat v items views own k zero_made at =
      let s = k.state in
      let mine = k.each seat v at in
      let w : Hand L = makes v in
      let vs : List (Hand L) = set views seat w in
      let new : Hand L = new_hand true in
      let none : sum_by took views ≡ 0 = k.passes ∙ zero_made in
      let t : State L = record { owner = s.owner; first = length vs; made = s.made + 1; put = s.put; gone = s.gone } in
      let not_first : (j : ℕ) (u : Hand L) → get_elem? views j ≡ some u → u.first ≡ false = no_first s views k.each none in
      let each : Each t vs = each-set t views seat w
      (record {
        owner = λ p. ((mine.owner p).0, ap (λ n. n + 1) (mine.owner p).1);
        other = λ p. absurd (true≢false (sym own ∙ p));
        first = λ p. absurd (true≢false (sym p ∙ not_first seat v at));
        later = mine.later;
        idle = mine.idle;
        order = mine.order;
      })
      (λ j u apart e.
      let theirs = k.each j u e in
      record {
        owner = λ p. absurd (apart ((theirs.owner p).0 ∙ sym (mine.owner own).0));
        other = theirs.other;
        first = λ p. absurd (true≢false (sym p ∙ not_first j u e));
        later = theirs.later;
        idle = theirs.idle;
        order = theirs.order;
      }) in
      let firsts_none : sum_by is_first views ≡ 0 = total-none took is_first views (λ j u e _. ap one_if (not_first j u e)) none in
      record {
        state = t;
        whole = k.whole;
        few = k.few;
        behind = k.behind;
        begun = λ z. absurd (omega arith);
        passes = let a = total-set took views seat v w at in let b = sum_by_push took vs new in omega arith;
        firsts = λ _. let a = total-set is_first views seat v w at in let b = sum_by_push is_first vs new in omega arith;
        each_once = λ h. let f : Hand L → ℕ = λ u. weight h u.taken in let a = total-set f views seat v w at in let b = sum_by_push f vs new in let o = k.each_once h in omega arith;
        each = each-push t vs new
            (record { owner = λ p. absurd (true≢false (sym p)); other = λ _. refl; first = λ _. (refl, sym (k.begun zero_made)); later = λ p. absurd (true≢false p); idle = λ z. absurd (omega arith); order = (tt, tt) })
            each;
      }

  forks_later : (seat : ℕ) (v : Hand L) (items : List (Option (ℕ × L))) (views : List (Hand L)) → v.owner ≡ true → (k : Kept items views) → 0 < k.state.made → get_elem? views seat ≡ some v
      → Kept items (set views seat (makes v) ++ new_hand false ∷ [])
  forks_later seat v items views own k some_made at =
      let s = k.state in
      let mine = k.each seat v at in
      let w : Hand L = makes v in
      let vs : List (Hand L) = set views seat w in
      let new : Hand L = new_hand false in
      let t : State L = record { owner = s.owner; first = s.first; made = s.made + 1; put = s.put; gone = s.gone } in
      let each : Each t vs = each-set t views seat w
      (record {
        owner = λ p. ((mine.owner p).0, ap (λ n. n + 1) (mine.owner p).1);
        other = λ p. absurd (true≢false (sym own ∙ p));
        first = mine.first;
        later = mine.later;
        idle = mine.idle;
        order = mine.order;
      })
      (λ j u apart e.
      let theirs = k.each j u e in
      record {
        owner = λ p. absurd (apart ((theirs.owner p).0 ∙ sym (mine.owner own).0));
        other = theirs.other;
        first = theirs.first;
        later = theirs.later;
        idle = theirs.idle;
        order = theirs.order;
      }) in
      record {
        state = t;
        whole = k.whole;
        few = k.few;
        behind = k.behind;
        begun = λ z. absurd (omega arith);
        passes = let a = total-set took views seat v w at in let b = sum_by_push took vs new in let c = k.passes in omega arith;
        firsts = λ _. let a = total-set is_first views seat v w at in let b = sum_by_push is_first vs new in let c = k.firsts some_made in omega arith;
        each_once = λ h. let f : Hand L → ℕ = λ u. weight h u.taken in let a = total-set f views seat v w at in let b = sum_by_push f vs new in let o = k.each_once h in omega arith;
        each = each-push t vs new
            (record { owner = λ p. absurd (true≢false (sym p)); other = λ _. refl; first = λ p. absurd (true≢false (sym p)); later = λ _. refl; idle = λ z. absurd (omega arith); order = (tt, tt) })
            each;
      }

  forks_by : (b : Bool) (seat : ℕ) (v : Hand L) → v.owner ≡ true → (v.made == 0) ≡ b → Forks Kept seat v (makes v) (new_hand b)
  forks_by true seat v own is items views k at = forks_first seat v items views own k (let m = ((k.each seat v at).owner own).1 in grind arith) at
  forks_by false seat v own is items views k at = forks_later seat v items views own k (let m = ((k.each seat v at).owner own).1 in grind arith) at

  pub forks : (seat : ℕ) (v : Hand L) → v.owner ≡ true → Forks Kept seat v (makes v) (new_hand (v.made == 0))
  forks seat v own = forks_by (v.made == 0) seat v own refl

  pub pushes : (n seat : ℕ) (v : Hand L) (x : Option (ℕ × L)) → n < 2 ^ 64 → v.first ≡ true → MayPut v.put x → Pushes Kept n seat v x (λ w. w ≡ puts v x)
  pushes n seat v x small first may items views room k at =
      let s = k.state in
      let mine = k.each seat v at in
      let w : Hand L = puts v x in
      let t : State L = record { owner = s.owner; first = s.first; made = s.made; put = s.put ++ x ∷ []; gone = s.gone } in
      let le = total-at took views seat v at in
      let some_taken : took v ≢ 0 = λ z. true≢false (sym first ∙ mine.idle z) in (
        w,
        record {
          state = t;
          whole = ap (λ l. l ++ x ∷ []) k.whole ∙ append_assoc s.gone items (x ∷ []);
          few = omega (arith, length-append items (x ∷ []));
          behind = marks_behind-push s.put x (subst (λ l. MayPut l x) (mine.first first).1 may) k.behind;
          begun = λ z. absurd (some_taken (let c = k.passes in omega arith));
          passes = let a = total-set took views seat v w at in let c = k.passes in omega arith;
          firsts = λ p. let a = total-set is_first views seat v w at in let c = k.firsts p in omega arith;
          each_once = λ h. let f : Hand L → ℕ = λ u. weight h u.taken in let a = total-set f views seat v w at in let o = k.each_once h in omega arith;
          each = each-set t views seat w
              (record {
                owner = mine.owner;
                other = mine.other;
                first = λ _. ((mine.first first).0, ap (λ l. l ++ x ∷ []) (mine.first first).1);
                later = λ p. absurd (true≢false (sym first ∙ p));
                idle = mine.idle;
                order = mine.order;
              })
              (λ j u apart e.
              let theirs = k.each j u e in
              record {
                owner = theirs.owner;
                other = theirs.other;
                first = λ p. absurd (apart ((theirs.first p).0 ∙ sym (mine.first first).0));
                later = theirs.later;
                idle = theirs.idle;
                order = theirs.order;
              });
        },
        refl,
      )

  pub pops : (seat : ℕ) (v : Hand L) → 0 < length v.taken → Pops Kept seat v (λ x w. w ≡ takes v x)
  pops seat v some_taken x items views k at =
      let s = k.state in
      let mine = k.each seat v at in
      let w : Hand L = takes v x in
      let t : State L = record { owner = s.owner; first = s.first; made = s.made; put = s.put; gone = s.gone ++ x ∷ [] } in
      let same : took w ≡ took v = length-own v.taken x in (
        w,
        record {
          state = t;
          whole = k.whole ∙ sym (append_assoc s.gone (x ∷ []) items);
          few = let c = k.few in omega arith;
          behind = k.behind;
          begun = k.begun;
          passes = let a = total-set took views seat v w at in let c = k.passes in omega arith;
          firsts = λ p. let a = total-set is_first views seat v w at in let c = k.firsts p in omega arith;
          each_once = λ h. let f : Hand L → ℕ = λ u. weight h u.taken in let a = total-set f views seat v w at in let o = k.each_once h in
              let g = weight-own h v.taken x some_taken in let b = sum_by_push h s.gone x in omega arith;
          each = each-set t views seat w
              (record { owner = mine.owner; other = mine.other; first = mine.first; later = mine.later; idle = λ z. absurd (omega arith); order = each_in_order-own v.taken s.gone x mine.order })
              (λ j u apart e.
              let theirs = k.each j u e in
              record { owner = theirs.owner; other = theirs.other; first = theirs.first; later = theirs.later; idle = theirs.idle; order = each_in_order-push u.taken s.gone x theirs.order });
        },
        refl,
      )

  pub merges : (seat : ℕ) (v : Hand L) (other : ℕ) (u : Hand L) → Merges Kept seat v other u (joined v u) spent_hand
  merges seat v other u items views k at two at' =
      let s = k.state in
      let both : Hand L = joined v u in
      let spent : Hand L = spent_hand in
      let vs : List (Hand L) = set views seat both in
      let was : get_elem? views other ≡ some u = ⊎_elim (λ (x : (other ≡ seat) × (both ≡ u)). absurd (two x.0)) (λ (x : (other ≢ seat) × (get_elem? views other ≡ some u)). x.1) (at_set views seat other both u at') in
      let mine = k.each seat v at in
      let theirs = k.each other u was in
      let t : State L = record { owner = cond u.owner seat s.owner; first = cond u.first seat s.first; made = s.made; put = s.put; gone = s.gone } in
      let not_both : v.first ≡ true → u.first ≡ true → ⊥ = λ p q. two ((theirs.first q).0 ∙ sym (mine.first p).0) in
      let J : Fits t seat both = record {
        owner = merge_owner v.owner u.owner seat other s.owner s.made v.made u.made two mine.owner mine.other theirs.owner theirs.other;
        other = merge_other v.owner u.owner v.made u.made mine.other theirs.other;
        first = merge_first v.first u.first seat other s.first v.put u.put s.put two mine.first mine.later theirs.first theirs.later;
        later = merge_later v.first u.first v.put u.put mine.later theirs.later;
        idle = λ z. neither v.first u.first (mine.idle (omega (arith, length-append v.taken u.taken))) (theirs.idle (omega (arith, length-append v.taken u.taken)));
        order = each_in_order-append v.taken u.taken s.gone mine.order theirs.order;
      } in
      let S : Fits t other spent = record { owner = λ p. absurd (true≢false (sym p)); other = λ _. refl; first = λ p. absurd (true≢false (sym p)); later = λ _. refl; idle = λ _. refl; order = tt } in
      let total : (f : Hand L → ℕ) → f both ≡ f v + f u → f spent ≡ 0 → sum_by f (set vs other spent) ≡ sum_by f views =
      λ f e z. let a = total-set f views seat v both at in let b = total-set f vs other u spent at' in omega arith in
      record {
        state = t;
        whole = k.whole;
        few = k.few;
        behind = k.behind;
        begun = k.begun;
        passes = total took (length-append v.taken u.taken) refl ∙ k.passes;
        firsts = λ p. total is_first (one_of v.first u.first not_both) refl ∙ k.firsts p;
        each_once = λ h. total (λ w. weight h w.taken) (sum_by-append (sum_by h) v.taken u.taken) refl ∙ k.each_once h;
        each = each-set t vs other spent S
            (λ j w apart e. ⊎_elim (λ (x : (j ≡ seat) × (both ≡ w)). subst (λ (y : ℕ × Hand L). Fits t y.0 y.1) (λ i. (sym x.0 i, x.1 i)) J)
            (λ (x : (j ≢ seat) × (get_elem? views j ≡ some w)).
            let others = k.each j w x.1 in
            record {
              owner = λ p. (stays u.owner seat other s.owner j (λ q. (theirs.owner q).0) apart (others.owner p).0, (others.owner p).1);
              other = others.other;
              first = λ p. (stays u.first seat other s.first j (λ q. (theirs.first q).0) apart (others.first p).0, (others.first p).1);
              later = others.later;
              idle = others.idle;
              order = others.order;
            }) (at_set views seat j both w e));
      }

  pub learns : (seat : ℕ) (v : Hand L) → v.owner ≡ true → v.made ≡ length v.taken → 0 < length v.taken → Learns Kept seat v (KnowsAll v)
  learns seat v own all some_taken items views k at =
      let s = k.state in
      let mine = k.each seat v at in
      let made = (mine.owner own).1 in
      let whole : sum_by took views ≡ took v = k.passes ∙ (sym made ∙ all) in
      let one : is_first v ≡ 1 = sym (total-alone took is_first views seat v (λ j u e z. ap one_if ((k.each j u e).idle z)) at whole) ∙ k.firsts (omega arith) in
      let first = is_one v.first one in
      let put : v.put ≡ s.put = (mine.first first).1 in
      record {
        gone = s.gone;
        parted = record {
          whole = put ∙ k.whole;
          each_once = λ h. sym (total-alone took (λ (u : Hand L). weight h u.taken) views seat v (λ j u e z. none_weighs h u.taken z) at whole) ∙ k.each_once h;
          in_order = mine.order;
        };
        few = k.few;
        behind = subst MarksBehind (sym put) k.behind;
      }

  pub learns_order : (seat : ℕ) (v : Hand L) → Learns Kept seat v (λ items. KnowsOrder v)
  learns_order seat v items views k at first =
      let s = k.state in
      let mine = k.each seat v at in
      subst (EachInOrder v.taken) (sym ((mine.first first).1 ∙ k.whole)) (each_in_order-before v.taken s.gone items mine.order)
