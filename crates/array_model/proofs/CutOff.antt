-- What is cut off says nothing.
use Rattle.std.proofs.Common.{◌≡◌, ℕ, ◌≤◌, Bool, true, false, true≢false, List, [], ◌∷◌, ◌++◌, take, Some, ◌⊎◌, inl, inr, refl, sym, ap, ◌∙◌, subst}
use Rattle.array_model.specs.Record.{Cut}
use Rattle.array_model.specs.Sets.{ReadSet, Placed, stands, cut_to, kept_by, placed_from, valid, records_of, least_kept}
use Rattle.array_model.specs.Map.{items_of}
use Rattle.array_model.proofs.Records.{Among, among_rest, least_at_most}
use Rattle.array_model.proofs.Thinned.{among_items}
use Rattle.array_model.proofs.Sets.{kept_least, cut_records, read_standing, read_fallen}

-- a set of which the sets above keep so many records, with as many first ones, that stands as it stood or of which none is kept
pub record IsSameWhereKept (k : ℕ) (above : List ReadSet) (old new : ReadSet) : Type 0 where
  pub id : new.id ≡ old.id
  pub kept : ℕ
  pub is : kept_by old.id (valid k above) ≡ Some kept
  pub first : take kept new.records ≡ take kept old.records
  pub stand : (stands k new ≡ stands k old) ⊎ (kept ≡ 0)

abbrev pub AreSameWhereKept : ℕ → List ReadSet → List ReadSet → Type 0
AreSameWhereKept k [] [] = Unit {0}
AreSameWhereKept k [] (set' ∷ above') = ⊥
AreSameWhereKept k (set ∷ above) [] = ⊥
AreSameWhereKept k (set ∷ above) (set' ∷ above') = ((set' ≡ set) ⊎ IsSameWhereKept k above set set') × AreSameWhereKept k above above'

module _ (k : ℕ) where
  -- What the sets above keep follows from their records.
  kept_from_read : (target : ℕ) (above above' : List ReadSet) → records_of k above' ≡ records_of k above → kept_by target (valid k above') ≡ kept_by target (valid k above)
  kept_from_read target above above' same = kept_least target (valid k above') ∙ ap (λ r. least_kept target (items_of r)) same ∙ sym (kept_least target (valid k above))

  -- A set that stands, and is kept as it was,
  same_cut : (set set' : ReadSet) (above above' : List ReadSet) → (set' ≡ set) ⊎ IsSameWhereKept k above set set' → records_of k above' ≡ records_of k above → cut_records k set' above' ≡ cut_records k set above
  same_cut set set' above above' (inl same) rest =
      ap (λ (s : ReadSet). cut_records k s above') same ∙ ap (λ o. placed_from set.id 0 (cut_to o set.records)) (kept_from_read set.id above above' rest)
  same_cut set set' above above' (inr it) rest =
      ap (λ (id : ℕ). placed_from id 0 (cut_to (kept_by id (valid k above')) set'.records)) it.id
      ∙ ap (λ o. placed_from set.id 0 (cut_to o set'.records)) (kept_from_read set.id above above' rest ∙ it.is)
      ∙ ap (placed_from set.id 0) it.first
      ∙ ap (λ o. placed_from set.id 0 (cut_to o set.records)) (sym it.is)

  -- or one of which none is kept.
  same_standing : (set set' : ReadSet) (above : List ReadSet) → (set' ≡ set) ⊎ IsSameWhereKept k above set set' → (stands k set' ≡ stands k set) ⊎ (cut_records k set above ≡ [])
  same_standing set set' above (inl same) = inl (ap (stands k) same)
  same_standing set set' above (inr it) = elim it.stand [
    | inl alike ↦ inl alike
    | inr zero_kept ↦ inr (ap (λ o. placed_from set.id 0 (cut_to o set.records)) (it.is ∙ ap Some zero_kept))
  ]

  read_kept : (set set' : ReadSet) (above above' : List ReadSet) → (set' ≡ set) ⊎ IsSameWhereKept k above set set' → records_of k above' ≡ records_of k above → (b b' : Bool) → stands k set ≡ b → stands k set' ≡ b' → records_of k (set' ∷ above') ≡ records_of k (set ∷ above)
  read_kept set set' above above' same rest true true is is' =
      read_standing k set' above' is' ∙ ap (λ m. m ++ records_of k above') (same_cut set set' above above' same rest) ∙ ap (λ r. cut_records k set above ++ r) rest ∙ sym (read_standing k set above is)
  read_kept set set' above above' same rest false false fell fell' = read_fallen k set' above' fell' ∙ rest ∙ sym (read_fallen k set above fell)
  read_kept set set' above above' same rest true false is fell' = elim (same_standing set set' above same) [
    | inl alike ↦ absurd (true≢false (sym is ∙ sym alike ∙ fell'))
    | inr none ↦ read_fallen k set' above' fell' ∙ rest ∙ ap (λ m. m ++ records_of k above) (sym none) ∙ sym (read_standing k set above is)
  ]
  read_kept set set' above above' same rest false true fell is' = elim (same_standing set set' above same) [
    | inl alike ↦ absurd (true≢false (sym is' ∙ alike ∙ fell))
    | inr none ↦ read_standing k set' above' is' ∙ ap (λ m. m ++ records_of k above') (same_cut set set' above above' same rest ∙ none) ∙ rest ∙ sym (read_fallen k set above fell)
  ]

  -- Where sets are the same as far as they are kept, so are the valid records.
  pub same_where_kept : (old new : List ReadSet) → AreSameWhereKept k old new → records_of k new ≡ records_of k old
  same_where_kept [] [] same = refl
  same_where_kept [] (set' ∷ new) same = absurd same
  same_where_kept (set ∷ old) [] same = absurd same
  same_where_kept (set ∷ old) (set' ∷ new) same = read_kept set set' old new same.0 (same_where_kept old new same.1) (stands k set) (stands k set') refl refl

  -- A record of sets at the top stays one with sets below.
  pub among_more : (set : ReadSet) (above : List ReadSet) (it : Placed) → Among it (records_of k above) → Among it (records_of k (set ∷ above))
  among_more set above it found = by_standing (stands k set) refl
    where
      by_standing : (b : Bool) → stands k set ≡ b → Among it (records_of k (set ∷ above))
      by_standing true is = subst (λ r. Among it r) (sym (read_standing k set above is)) (among_rest (cut_records k set above) (records_of k above) it found)
      by_standing false fell = subst (λ r. Among it r) (sym (read_fallen k set above fell)) found

  pub among_with_below : (below tail : List ReadSet) (it : Placed) → Among it (records_of k tail) → Among it (records_of k (below ++ tail))
  among_with_below [] tail it found = found
  among_with_below (set ∷ below) tail it found = among_more set (below ++ tail) it (among_with_below below tail it found)

  -- So a cut there counts for each set below.
  pub kept_below : (target kept : ℕ) (below tail : List ReadSet) (it : Placed) → it.item ≡ Cut target kept → Among it (records_of k tail) → (least : ℕ) × (kept_by target (valid k (below ++ tail)) ≡ Some least) × (least ≤ kept)
  kept_below target kept below tail it is found =
      let least = least_at_most target kept (items_of (records_of k (below ++ tail))) (among_items (records_of k (below ++ tail)) it (Cut target kept) (among_with_below below tail it found) is) in
      (least.0, kept_least target (valid k (below ++ tail)) ∙ least.1, least.2)
