-- A set among others: what all of them keep of it, the sets above it keep, for cuts are of lower sets.
use Rattle.std.proofs.Common.{◌≡◌, ℕ, ◌<◌, ◌≤◌, Bool, true, false, cond, inl, inr, List, [], ◌∷◌, ◌++◌, Option, Some, None, Contains, refl, sym, ap, ◌∙◌, subst, arith}
use Rattle.array_model.specs.Record.{Cut}
use Rattle.array_model.specs.Sets.{ReadSet, ValidSet, Placed, RiseAbove, AreRising, stands, cut_to, kept_by, valid, records_of}
use Rattle.array_model.specs.Map.{items_of}
use Rattle.array_model.specs.SetLaws.{CutsAreOfLower}
use Rattle.array_model.proofs.Records.{Among, contains_from_among, least_at_most, least_is_there}
use Rattle.array_model.proofs.Sets.{kept_least}
use Rattle.array_model.proofs.Thinned.{among_items, item_among}
use Rattle.array_model.proofs.Copies.{among_above}
use Rattle.array_model.proofs.CutOff.{among_more, kept_below}

above_low : (low : ℕ) (below : List ReadSet) (set : ReadSet) (above : List ReadSet) → RiseAbove low (below ++ set ∷ above) → low < set.id
above_low low [] set above rise = rise.0
above_low low (other ∷ below) set above rise = let more = rise.0 in let rest = above_low other.id below set above rise.1 in omega arith

module _ (k : ℕ) where
  -- A record of a higher set stands in the sets above.
  higher_above : (low : ℕ) (below : List ReadSet) (set : ReadSet) (above : List ReadSet) (it : Placed) → RiseAbove low (below ++ set ∷ above) → set.id < it.set → Among it (records_of k (below ++ set ∷ above)) → Among it (records_of k above)
  higher_above low [] set above it rise higher found = among_above k set above it higher found
  higher_above low (other ∷ below) set above it rise higher found =
      let lower = above_low other.id below set above rise.1 in
      higher_above other.id below set above it rise.1 higher (among_above k other (below ++ set ∷ above) it (omega arith) found)

  module _ (all below : List ReadSet) (set : ReadSet) (above : List ReadSet) (is : all ≡ below ++ set ∷ above) (rising : AreRising all) (lower : CutsAreOfLower k all) where
    kept_in_all : (m : ℕ) → kept_by set.id (valid k above) ≡ Some m → (n : ℕ) × (kept_by set.id (valid k all) ≡ Some n) × (n ≤ m)
    kept_in_all m kept =
        let cut = item_among (records_of k above) (Cut set.id m) (least_is_there set.id m (items_of (records_of k above)) (sym (kept_least set.id (valid k above)) ∙ kept)) in
        let found = kept_below k set.id m below (set ∷ above) cut.0 cut.2 (among_more k set above cut.0 cut.1) in
        (found.0, ap (λ sets. kept_by set.id (valid k sets)) is ∙ found.1, found.2)

    kept_in_above : (n : ℕ) → kept_by set.id (valid k all) ≡ Some n → (m : ℕ) × (kept_by set.id (valid k above) ≡ Some m) × (m ≤ n)
    kept_in_above n kept =
        let cut = item_among (records_of k all) (Cut set.id n) (least_is_there set.id n (items_of (records_of k all)) (sym (kept_least set.id (valid k all)) ∙ kept)) in
        let higher = lower cut.0 set.id n (contains_from_among (records_of k all) cut.0 cut.1) cut.2 in
        let there = higher_above 0 below set above cut.0 (subst (λ sets. RiseAbove 0 sets) is rising) higher (subst (λ sets. Among cut.0 (records_of k sets)) is cut.1) in
        let least = least_at_most set.id n (items_of (records_of k above)) (among_items (records_of k above) cut.0 (Cut set.id n) there cut.2) in
        (least.0, ◌∙◌ {c = Some least.0} (kept_least set.id (valid k above)) least.1, least.2)

    pub kept_by_above : kept_by set.id (valid k all) ≡ kept_by set.id (valid k above)
    kept_by_above = at_both (kept_by set.id (valid k all)) refl (kept_by set.id (valid k above)) refl
      where
        at_both : (o : Option ℕ) → kept_by set.id (valid k all) ≡ o → (p : Option ℕ) → kept_by set.id (valid k above) ≡ p → o ≡ p
        at_both None none None none' = refl
        at_both None none (Some m) kept = let e = (kept_in_all m kept).1 in absurd cc
        at_both (Some n) kept None none = let e = (kept_in_above n kept).1 in absurd cc
        at_both (Some n) kept (Some m) kept' =
            let low = kept_in_above n kept in
            let high = kept_in_all m kept' in
            let one : low.0 ≡ m = (let e = low.1 in cc) in
            let other : high.0 ≡ n = (let e = high.1 in cc) in
            ap Some (omega (arith, low.2, high.2, one, other))

  -- A set that stands is among the valid ones, with what the sets above keep of it.
  valid_among : (below : List ReadSet) (set : ReadSet) (above : List ReadSet) → stands k set ≡ true → Among (record { id = set.id; records = cut_to (kept_by set.id (valid k above)) set.records }) (valid k (below ++ set ∷ above))
  valid_among [] set above stood = at_one (stands k set) stood
    where
      own : ValidSet
      own = record { id = set.id; records = cut_to (kept_by set.id (valid k above)) set.records }

      at_one : (b : Bool) → b ≡ true → Among own (cond b (own ∷ valid k above) (valid k above))
      at_one true is = inl refl
      at_one false is = absurd cc
  valid_among (other ∷ below) set above stood = at_one (stands k other) (valid_among below set above stood)
    where
      own : ValidSet
      own = record { id = set.id; records = cut_to (kept_by set.id (valid k above)) set.records }

      rest : List ValidSet
      rest = valid k (below ++ set ∷ above)

      at_one : (b : Bool) → Among own rest → Among own (cond b (record { id = other.id; records = cut_to (kept_by other.id rest) other.records } ∷ rest) rest)
      at_one true found = inr found
      at_one false found = found

  pub valid_there : (all below : List ReadSet) (set : ReadSet) (above : List ReadSet) → all ≡ below ++ set ∷ above → stands k set ≡ true → Contains (valid k all) (record { id = set.id; records = cut_to (kept_by set.id (valid k above)) set.records })
  valid_there all below set above is stood =
      contains_from_among (valid k all) (record { id = set.id; records = cut_to (kept_by set.id (valid k above)) set.records })
      (subst (λ sets. Among (record { id = set.id; records = cut_to (kept_by set.id (valid k above)) set.records }) (valid k sets)) (sym is) (valid_among below set above stood))
