-- How a change adds to a zone's past.
use Rattle.std.proofs.Common.{zero, ◌≡◌, ℕ, ◌+◌, ◌<◌, ◌≤◌, suc, List, [], ◌∷◌, ◌++◌, length, get_or, drop, sym, subst, ◌∙◌, ap, arith, inl, inr}
use Rattle.std.proofs.lemmas.Bool.{cases_lt, lt-ltb, le-ltb}
use Rattle.std.proofs.lemmas.List.{take-append-le, append-nil, take_all, drop-append-le, drop_all, length-drop}
use Rattle.bay_memory.specs.declared.was.Was.{Was}
use Rattle.bay_memory.specs.Past.{State, Track, LieWithin, IsSteady, Goes, state_then, state_at, now, with_more, all_firm, blank}

-- a part of the bytes, when more came
then_same : (was : Was) (ever more : List ℕ) → was.end ≤ length ever → state_then (ever ++ more) was ≡ state_then ever was
then_same was ever more within = ap (λ (l : List ℕ). let s : State = record { bytes = drop was.start l; firm = was.firm } in s) (take-append-le was.end ever more within)

-- one more change, of a zone to which bytes may come
until_changed : (past : List Was) (was : Was) (ever more : List ℕ) (before after : State) (m : ℕ) → LieWithin past (length ever) → state_then (ever ++ more) was ≡ before → m ≤ was.moment → state_at (past ++ was ∷ []) (ever ++ more) after m ≡ state_at past ever before m
until_changed [] was ever more before after m within is earlier = rw (le-ltb was.moment m earlier) is
until_changed (w ∷ ws) was ever more before after m within is earlier = elim (cases_lt w.moment m) [
  | inl gone ↦ rw (lt-ltb w.moment m gone) (until_changed ws was ever more before after m (λ i d h. within (suc i) d (omega arith)) is earlier)
  | inr there ↦ rw (le-ltb w.moment m there) (then_same w ever more (within 0 w (omega arith)))
]

since_changed : (past : List Was) (was : Was) (moment m : ℕ) → ((i : ℕ) (d : Was) → i < length past → (get_or past i d).moment < moment) → was.moment ≡ moment → moment < m → (i : ℕ) (d : Was) → i < length (past ++ was ∷ []) → (get_or (past ++ was ∷ []) i d).moment < m
since_changed [] was moment m steady is later zero d within = omega arith
since_changed [] was moment m steady is later (suc i) d within = absurd (omega arith)
since_changed (w ∷ ws) was moment m steady is later zero d within = let h : w.moment < moment = steady 0 d (omega arith) in omega arith
since_changed (w ∷ ws) was moment m steady is later (suc i) d within = since_changed ws was moment m (λ j e h. steady (suc j) e (omega arith)) is later i d (omega arith)

pub now_with_more : (ever ever_now more : List ℕ) (start firm : ℕ) → ever_now ≡ ever ++ more → start ≤ length ever → let before : State = record { bytes = drop start ever; firm = firm } in let after : State = record { bytes = drop start ever_now; firm = firm } in after ≡ with_more more before
now_with_more ever ever_now more start firm is within = ap (λ (l : List ℕ). let s : State = record { bytes = l; firm = firm } in s) (ap (λ (l : List ℕ). drop start l) is ∙ drop-append-le start ever more within)

pub now_all_gone : (ever : List ℕ) (start : ℕ) → length ever ≤ start → let after : State = record { bytes = drop start ever; firm = 0 } in after ≡ blank
now_all_gone ever start past = ap (λ (l : List ℕ). let s : State = record { bytes = l; firm = 0 } in s) (drop_all start ever past)

pub now_all_firm : (ever : List ℕ) (start firm firm_now : ℕ) → firm_now + start ≡ length ever → let before : State = record { bytes = drop start ever; firm = firm } in let after : State = record { bytes = drop start ever; firm = firm_now } in after ≡ all_firm before
now_all_firm ever start firm firm_now is = ap (λ (n : ℕ). let s : State = record { bytes = drop start ever; firm = n } in s) (omega (arith, length-drop start ever))

-- a change that was noted
module _ (moment : ℕ) (change : State → State) (old new : Track) (within : LieWithin old.past (length old.ever)) (steady : IsSteady moment old) (was : Was) (is : was ≡ record { moment = moment; start = old.start; end = length old.ever; firm = old.firm }) (noted : new.past ≡ old.past ++ was ∷ []) (changed : now new ≡ change (now old)) where
  pub goes_with : (more : List ℕ) → new.ever ≡ old.ever ++ more → Goes moment change old new
  goes_with more put = record {
    changed = changed;
    until = λ m earlier. ap (λ (past : List Was). state_at past new.ever (now new) m) noted ∙ ap (λ (ever : List ℕ). state_at (old.past ++ was ∷ []) ever (now new) m) put ∙ until_changed old.past was old.ever more (now old) (now new) m within before (omega (arith, ap (λ (w : Was). w.moment) is));
    since = λ m later. subst (λ (past : List Was). (i : ℕ) (d : Was) → i < length past → (get_or past i d).moment < m) (sym noted) (since_changed old.past was moment m steady (ap (λ (w : Was). w.moment) is) later);
  }
    where
      before : state_then (old.ever ++ more) was ≡ now old
      before = rw is (ap (λ (l : List ℕ). let s : State = record { bytes = drop old.start l; firm = old.firm } in s) (take-append-le (length old.ever) old.ever more (omega arith) ∙ take_all (length old.ever) old.ever (omega arith)))

  -- the zone got no bytes
  pub goes : new.ever ≡ old.ever → Goes moment change old new
  goes same = goes_with [] (same ∙ sym (append-nil old.ever))
