-- What a pass counts, and what is left once all are joined.
use Rattle.std.proofs.Common.{◌≡◌, ℕ, ◌+◌, ◌%◌, ◌<◌, ◌≤◌, ◌^◌, Bool, true, false, true≢false, ◌||◌, List, [], ◌∷◌, ◌++◌, Option, Some, None, length, sym, refl, ap, ◌∙◌, subst, arith, length-append}
use Rattle.std.specs.List.{sum_by}
use Rattle.std.specs.Option.{is_some}
use Rattle.std.proofs.lemmas.List.Sums.{sum_by-cons, sum_by-append, sum_by_push}
use Rattle.job_queue.specs.declared.hand.Hand.{Hand}
use Rattle.job_queue.specs.Lists.{links_of, marks_of, MarksBehind, EachInOrder, EachOnce, weight, add_own}
use Rattle.job_queue.specs.Hands.{joined, puts, takes, owner_hand, links_put, links_taken, marks_taken, passes_in}
use Rattle.job_queue.specs.Ends.{KnowsAll, Ending}
use Rattle.job_queue.proofs.Lists.{links_of-append, none_behind, length-own}

pub one_more : (a t p : ℕ) → (a + t) % 2 ^ 64 ≡ p % 2 ^ 64 → ((a + 1) % 2 ^ 64 + t) % 2 ^ 64 ≡ (p + 1) % 2 ^ 64
one_more a t p e = omega arith

pub both_counts : (a b t u p q : ℕ) → (a + t) % 2 ^ 64 ≡ p % 2 ^ 64 → (b + u) % 2 ^ 64 ≡ q % 2 ^ 64 → ((a + b) % 2 ^ 64 + (t + u)) % 2 ^ 64 ≡ (p + q) % 2 ^ 64
both_counts a b t u p q e f = omega arith

pub one_less : (a t u p : ℕ) → u ≡ t + 1 → (a + t) % 2 ^ 64 ≡ p % 2 ^ 64 → ((a + 18446744073709551615) % 2 ^ 64 + u) % 2 ^ 64 ≡ p % 2 ^ 64
one_less a t u p is e = omega arith

left_over : (a t r : ℕ) → a < 2 ^ 64 → r < 2 ^ 64 → (a + t) % 2 ^ 64 ≡ (t + r) % 2 ^ 64 → a ≡ r
left_over a t r la lr e = omega arith

append_nil : {X : Type 0} (xs : List X) → xs ++ [] ≡ xs
append_nil [] = refl
append_nil (x ∷ xs) = ap (λ l. x ∷ l) (append_nil xs)

or_true : (a b : Bool) → b ≡ true → (a || b) ≡ true
or_true true b e = refl
or_true false b e = e

neither : (a b : Bool) → a ≡ false → b ≡ false → (a || b) ≡ false
neither a b x y = cc

module _ {X : Type 0} where
  abbrev is_link : Option X → ℕ
  is_link (Some x) = 1
  is_link None = 0

  links_weigh : (js : List (Option X)) → sum_by is_link js ≡ length (links_of js)
  links_weigh [] = refl
  links_weigh (Some x ∷ js) = omega (arith, sum_by-cons is_link (Some x) js, links_weigh js)
  links_weigh (None ∷ js) = omega (arith, sum_by-cons is_link None js, links_weigh js)

  abbrev links_in : List (Option X) → ℕ
  links_in js = length (links_of js)

  all_weigh : (jss : List (List (Option X))) → weight is_link jss ≡ sum_by links_in jss
  all_weigh [] = refl
  all_weigh (js ∷ jss) = omega (arith, sum_by-cons (sum_by is_link) js jss, sum_by-cons links_in js jss, links_weigh js, all_weigh jss)

  abbrev is_mark : Option X → ℕ
  is_mark (Some x) = 0
  is_mark None = 1

  marks_weigh : (js : List (Option X)) → sum_by is_mark js ≡ marks_of js
  marks_weigh [] = refl
  marks_weigh (Some x ∷ js) = omega (arith, sum_by-cons is_mark (Some x) js, marks_weigh js)
  marks_weigh (None ∷ js) = omega (arith, sum_by-cons is_mark None js, marks_weigh js)

  all_marks_weigh : (jss : List (List (Option X))) → weight is_mark jss ≡ sum_by marks_of jss
  all_marks_weigh [] = refl
  all_marks_weigh (js ∷ jss) = omega (arith, sum_by-cons (sum_by is_mark) js jss, sum_by-cons marks_of js jss, marks_weigh js, all_marks_weigh jss)

  links_few : (js : List (Option X)) → length (links_of js) ≤ length js
  links_few [] = omega arith
  links_few (Some x ∷ js) = let h = links_few js in omega arith
  links_few (None ∷ js) = let h = links_few js in omega arith

  pub links_push : (js : List (Option X)) (j : Option X) → length (links_of (js ++ j ∷ [])) ≡ length (links_of js) + is_link j
  links_push js j = sym (links_weigh (js ++ j ∷ [])) ∙ sum_by_push is_link js j ∙ ap (λ n. n + is_link j) (links_weigh js)

  -- a thing more in the first list
  pub links-own : (jss : List (List (Option X))) (j : Option X) → 0 < length jss → sum_by links_in (add_own j jss) ≡ sum_by links_in jss + is_link j
  links-own [] j p = absurd (omega arith)
  links-own (js ∷ jss) j p = omega (arith, sum_by-cons links_in (js ++ j ∷ []) jss, sum_by-cons links_in js jss, links_push js j)

module _ {L : Type 0} where
  pub all_in : (v u w : Hand L) → w ≡ joined v u → v.made ≡ 0 → u ≡ owner_hand u.made → passes_in v ≡ u.made → 0 < passes_in v → (w.owner ≡ true) × (w.made ≡ length w.taken) × (0 < length w.taken)
  all_in v u w is none own all some =
      let taken : length w.taken ≡ length v.taken = omega (arith, ap (λ (x : Hand L). length x.taken) is, length-append v.taken u.taken, ap (λ (x : Hand L). length x.taken) own) in (
        ap (λ (x : Hand L). x.owner) is ∙ or_true v.owner u.owner (ap (λ (x : Hand L). x.owner) own),
        (let m = ap (λ (x : Hand L). x.made) is in omega arith),
        omega arith,
      )

  pub ending : (v u w : Hand L) (items : List (Option (ℕ × L))) (left : ℕ) → w ≡ joined v u → u ≡ owner_hand u.made → KnowsAll w items → left < 2 ^ 64
      → (left + links_taken v) % 2 ^ 64 ≡ links_put v % 2 ^ 64 → Ending v left
  ending v u w items left is own knows small counted =
      let put : w.put ≡ v.put = ap (λ (x : Hand L). x.put) is ∙ ap (λ l. v.put ++ l) (ap (λ (x : Hand L). x.put) own) ∙ append_nil v.put in
      let taken : w.taken ≡ v.taken = ap (λ (x : Hand L). x.taken) is ∙ ap (λ l. v.taken ++ l) (ap (λ (x : Hand L). x.taken) own) ∙ append_nil v.taken in
      let gone = knows.gone in
      let whole : v.put ≡ gone ++ items = sym put ∙ knows.parted.whole in
      let once : EachOnce v.taken gone = subst (λ l. EachOnce l gone) taken knows.parted.each_once in
      let took : links_taken v ≡ length (links_of gone) = sym (all_weigh v.taken) ∙ once is_link ∙ links_weigh gone in
      let marks : marks_taken v ≡ marks_of gone = sym (all_marks_weigh v.taken) ∙ once is_mark ∙ marks_weigh gone in
      let puts : links_put v ≡ length (links_of gone) + length (links_of items) = ap (λ l. length (links_of l)) whole ∙ ap length (links_of-append gone items) ∙ length-append (links_of gone) (links_of items) in
      let few = links_few items in
      let less = knows.few in
      let rest : left ≡ length (links_of items) = left_over left (length (links_of gone)) (length (links_of items)) small (omega arith) (sym (ap (λ n. (left + n) % 2 ^ 64) took) ∙ counted ∙ ap (λ n. n % 2 ^ 64) puts) in
      record {
        gone = gone;
        rest = items;
        parted = record { whole = whole; each_once = once; in_order = subst (λ l. EachInOrder l gone) taken knows.parted.in_order };
        counted = rest;
        closed = λ p. rest ∙ ap length (none_behind gone items (subst MarksBehind (put ∙ whole) knows.behind) (omega arith));
      }

  -- what a pass keeps beside what it knows
  pub record Sound (v : Hand L) (ahead : ℕ) : Type 0 where
    pub counted : (ahead + links_taken v) % 2 ^ 64 ≡ links_put v % 2 ^ 64
    pub takes : 0 < length v.taken
    pub apart : v.owner ≡ false
    pub none_made : v.made ≡ 0

  pub sound_put : (v w : Hand L) (x : ℕ × L) (a : ℕ) → Sound v a → w ≡ puts v (Some x) → Sound w ((a + 1) % 2 ^ 64)
  sound_put v w x a s is = subst (λ (u : Hand L). Sound u ((a + 1) % 2 ^ 64)) (sym is) (record {
    counted = one_more a (links_taken v) (links_put v) s.counted ∙ ap (λ n. n % 2 ^ 64) (sym (links_push v.put (Some x)));
    takes = s.takes;
    apart = s.apart;
    none_made = s.none_made;
  })

  pub sound_mark : (v w : Hand L) (a : ℕ) → Sound v a → w ≡ puts v None → Sound w a
  sound_mark v w a s is = subst (λ (u : Hand L). Sound u a) (sym is) (record {
    counted = s.counted ∙ ap (λ n. n % 2 ^ 64) (let e = links_push v.put None in omega arith);
    takes = s.takes;
    apart = s.apart;
    none_made = s.none_made;
  })

  sound_take : (v w : Hand L) (x : ℕ × L) (a : ℕ) → Sound v a → w ≡ takes v (Some x) → Sound w ((a + 18446744073709551615) % 2 ^ 64)
  sound_take v w x a s is = subst (λ (u : Hand L). Sound u ((a + 18446744073709551615) % 2 ^ 64)) (sym is) (record {
    counted = one_less a (links_taken v) (links_taken (takes v (Some x))) (links_put v) (links-own v.taken (Some x) s.takes) s.counted;
    takes = let e = length-own v.taken (Some x) in let t = s.takes in omega arith;
    apart = s.apart;
    none_made = s.none_made;
  })

  sound_end : (v w : Hand L) (a : ℕ) → Sound v a → w ≡ takes v None → Sound w a
  sound_end v w a s is = subst (λ (u : Hand L). Sound u a) (sym is) (record {
    counted = ap (λ n. (a + n) % 2 ^ 64) (let e = links-own v.taken None s.takes in omega arith) ∙ s.counted;
    takes = let e = length-own v.taken None in let t = s.takes in omega arith;
    apart = s.apart;
    none_made = s.none_made;
  })

  pub sound_join : (v u w : Hand L) (a b : ℕ) → Sound v a → Sound u b → w ≡ joined v u → Sound w ((a + b) % 2 ^ 64)
  sound_join v u w a b s t is = subst (λ (x : Hand L). Sound x ((a + b) % 2 ^ 64)) (sym is) (record {
    counted =
        ap (λ n. ((a + b) % 2 ^ 64 + n) % 2 ^ 64) (sum_by-append (λ js. length (links_of js)) v.taken u.taken)
        ∙ both_counts a b (links_taken v) (links_taken u) (links_put v) (links_put u) s.counted t.counted
        ∙ ap (λ n. n % 2 ^ 64) (sym (ap length (links_of-append v.put u.put) ∙ length-append (links_of v.put) (links_of u.put)));
    takes = let e = length-append v.taken u.taken in let t = s.takes in omega arith;
    apart = neither v.owner u.owner s.apart t.apart;
    none_made = let m = s.none_made in let n = t.none_made in omega arith;
  })

  pub sound_some : (v w : Hand L) (j : Option (ℕ × L)) (a : ℕ) → Sound v a → is_some j ≡ true → w ≡ takes v j → Sound w ((a + 18446744073709551615) % 2 ^ 64)
  sound_some v w (Some x) a s some is = sound_take v w x a s is
  sound_some v w None a s some is = absurd (true≢false (sym some))

  pub sound_none : (v w : Hand L) (j : Option (ℕ × L)) (a : ℕ) → Sound v a → is_some j ≡ false → w ≡ takes v j → Sound w a
  sound_none v w None a s none is = sound_end v w a s is
  sound_none v w (Some x) a s none is = absurd (true≢false none)
