-- What is needed with more records behind those of the highest set: one of these, or what was needed before.
use Rattle.std.proofs.Common.{◌≡◌, ℕ, Bool, false, cond, count_by, List, [], ◌∷◌, ◌++◌, Contains, ◌⊎◌, inl, inr, ⊎_elim, refl, sym, ap, ◌∙◌, subst, arith}
use Rattle.array_model.specs.Record.{Record}
use Rattle.array_model.specs.Sets.{ReadSet, Placed, records_of, HasCarrier}
use Rattle.array_model.specs.Map.{items_of}
use Rattle.array_model.specs.Need.{IsNeeded, IsWanted}
use Rattle.array_model.specs.SetLaws.{Appends}
use Rattle.array_model.proofs.Records.{Among, among_from_contains, contains_from_among, among_first, among_rest}
use Rattle.array_model.proofs.Thinned.{counted, among_items}
use Rattle.array_model.proofs.Appended.{CutNothingOff, extra_of, read_places, read_more}

-- A record among joined records stands in the first of them, or in the rest.
pub split_joined : {X : Type 0} (before : List X) (it : X) (after first rest : List X) → first ++ rest ≡ before ++ it ∷ after → ((more : List X) × (first ≡ before ++ it ∷ more) × (after ≡ more ++ rest)) ⊎ Among it rest
split_joined [] it after [] rest is = inr (subst (λ r. Among it r) (sym is) (inl refl))
split_joined [] it after (x ∷ first) rest is =
    let head : x ≡ it = cc in
    let tail : first ++ rest ≡ after = cc in
    inl (first, ap (λ y. y ∷ first) head, sym tail)
split_joined (b ∷ before) it after [] rest is = inr (subst (λ r. Among it r) (sym is) (inr (among_rest before (it ∷ after) it (inl refl))))
split_joined (b ∷ before) it after (x ∷ first) rest is =
    let head : x ≡ b = cc in
    let tail : first ++ rest ≡ before ++ it ∷ after = cc in
    elim (split_joined before it after first rest tail) [
      | inl found ↦ inl (found.0, ap (λ f. x ∷ f) found.1 ∙ ap (λ y. y ∷ (before ++ it ∷ found.0)) head, found.2)
      | inr later ↦ inr later
    ]

-- More records of a set leave its carriers.
same_carriers : (below : List ReadSet) (top : ReadSet) (more : List Record) (above : List ReadSet) (id : ℕ) → HasCarrier (below ++ record top { records = top.records ++ more } ∷ above) id → HasCarrier (below ++ top ∷ above) id
same_carriers [] top more above id has = has
same_carriers (set ∷ below) top more above id (inl here) = inl here
same_carriers (set ∷ below) top more above id (inr later) = inr (same_carriers below top more above id later)

-- None of a kind counts for none.
pub count_none : (test : Record → Bool) (items : List Record) → ((item : Record) → Among item items → test item ≡ false) → count_by test items ≡ 0
count_none test [] none = refl
count_none test (item ∷ items) none =
    let one = counted test item items in
    let here : cond {A = ℕ} (test item) 1 0 ≡ 0 = ap (λ b. cond {A = ℕ} b 1 0) (none item (inl refl)) in
    let rest = count_none test items (λ other found. none other (inr found)) in
    omega arith

-- What is needed then is one of the more records, or was needed, where what is wanted then was wanted.
pub needed_before : (k : ℕ) (uploads before : List ℕ) (more : List Record) (old new : List ReadSet) (appends : Appends k more old new) → CutNothingOff k more (appends.top ∷ appends.above) appends.below → ((item : Record) → Among item (items_of (records_of k old)) → IsWanted uploads (items_of (records_of k old) ++ more) item → IsWanted before (items_of (records_of k old)) item) → (it : Placed) → IsNeeded k uploads new it → IsNeeded k before old it ⊎ Among it (extra_of appends.top more)
needed_before k uploads before more old new appends nothing was it needed = ⊎_elim (λ found. inl (at_place found)) (λ among. inr among) (split_joined needed.before it needed.after (records_of k old) (extra_of appends.top more) (sym read ∙ needed.valid))
  where
    extra : List Placed
    extra = extra_of appends.top more

    read : records_of k new ≡ records_of k old ++ extra_of appends.top more
    read = read_places k more old new appends nothing

    has_was : (id : ℕ) → HasCarrier new id → HasCarrier old id
    has_was id has = subst (λ sets. HasCarrier sets id) (sym appends.was) (same_carriers appends.below appends.top more appends.above id (subst (λ sets. HasCarrier sets id) appends.is has))

    at_place : (later : List Placed) × (records_of k old ≡ needed.before ++ it ∷ later) × (needed.after ≡ later ++ extra) → IsNeeded k before old it
    at_place (later, at, behind) = record {
      before = needed.before;
      after = later;
      valid = at;
      why = ⊎_elim
          (λ wanted. inl (
            was it.item
                (among_items (records_of k old) it it.item (subst (λ r. Among it r) (sym at) (among_rest needed.before (it ∷ later) it (inl refl))) refl)
                (subst (λ r. IsWanted uploads r it.item) (read_more k more old new appends nothing) wanted.0),
            wanted.1,
          ))
          (λ last. inr (last.0, last.1, last.2, has_was last.0 last.3, λ other among cuts. last.4 other (subst (λ r. Contains r other) (sym behind) (contains_from_among (later ++ extra) other (among_first later extra other (among_from_contains later other among)))) cuts))
          needed.why;
    }
