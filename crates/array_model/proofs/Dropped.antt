-- Records behind those of the highest set that stands, or a new highest set, whose cuts drop some sets and leave the others.
use Rattle.std.proofs.Common.{◌≡◌, ℕ, ◌<◌, Bool, true, false, List, [], ◌∷◌, ◌++◌, Option, Some, None, ◌⊎◌, inl, inr, refl, sym, ap, ◌∙◌, subst, append_assoc, append-nil, arith}
use Rattle.array_model.specs.Record.{Record}
use Rattle.array_model.specs.Sets.{ReadSet, Placed, stands, cut_to, kept_by, lesser, least_kept, placed_from, valid, records_of, HasCarrier}
use Rattle.array_model.specs.Map.{items_of}
use Rattle.array_model.proofs.Sets.{kept_least, cut_records, read_standing, read_fallen, placed_in, standing_carriers}
use Rattle.array_model.proofs.Thinned.{Thinned, StandsIn, nothing, all_stay, all_go, least_stays}
use Rattle.array_model.proofs.Appended.{kept_joined}

lesser_zero : (a : Option ℕ) → lesser a (Some 0) ≡ Some 0
lesser_zero None = refl
lesser_zero (Some n) = ap Some (omega arith)

module _ (k : ℕ) (uploads : List ℕ) (all : List ReadSet) (more : List Record) (Gone : List Placed → Placed → List Placed → Type 0) (Replaced : Record → Type 0) (stands_in : StandsIn k uploads all more Gone Replaced) (some : 0 < k) (tail tail' : List ReadSet) (extra : List Placed) (behind : records_of k tail' ≡ records_of k tail ++ extra) (are : items_of extra ≡ more) where
  -- Of a set below these the more records cut nothing off,
  abbrev pub CutsNothing : ReadSet → List ReadSet → Type 0
  CutsNothing set above = cut_to (lesser (kept_by set.id (valid k above)) (least_kept set.id more)) set.records ≡ cut_to (kept_by set.id (valid k above)) set.records

  -- or they drop it, and its records may go.
  abbrev pub Drops : ReadSet → List ReadSet → Type 0
  Drops set above = (least_kept set.id more ≡ Some 0) × ((ahead : List Placed) (it : Placed) (after : List Placed) → records_of k all ≡ ahead ++ it ∷ (after ++ records_of k above) → it.set ≡ set.id → Gone ahead it (after ++ records_of k above))

  abbrev pub CutsOrDrops : List ReadSet → Type 0
  CutsOrDrops [] = Unit {0}
  CutsOrDrops (set ∷ below) = (stands k set ≡ true → CutsNothing set (below ++ tail) ⊎ Drops set (below ++ tail)) × CutsOrDrops below

  -- What is read then: the records before without those of the dropped sets, and the more records behind them.
  pub record ReadThen (before : List Placed) (old new : List ReadSet) : Type 0 where
    pub kept : List Placed
    pub thinned : Thinned Gone before (records_of k old) kept
    pub read : records_of k new ≡ kept ++ extra

  -- the number that a set is cut to then
  kept_then : (set : ReadSet) (above above' : List ReadSet) (before : List Placed) → HasCarrier all set.id → (then : ReadThen before above above') → kept_by set.id (valid k above') ≡ lesser (kept_by set.id (valid k above)) (least_kept set.id more)
  kept_then set above above' before there then =
      kept_joined k set.id more above' then.kept extra then.read are
      ∙ least_stays k uploads all more Gone Replaced stands_in set.id there then.thinned
      ∙ ap (λ o. lesser o (least_kept set.id more)) (sym (kept_least set.id (valid k above)))

  -- One set more that stands, of which nothing is cut off,
  stands_then : (set : ReadSet) (above above' : List ReadSet) (before : List Placed) → HasCarrier all set.id → stands k set ≡ true → CutsNothing set above → ReadThen (before ++ cut_records k set above) above above' → ReadThen before (set ∷ above) (set ∷ above')
  stands_then set above above' before there is same then =
      let mine = cut_records k set above in
      let cut : cut_records k set above' ≡ mine = ap (λ o. placed_from set.id 0 (cut_to o set.records)) (kept_then set above above' (before ++ mine) there then) ∙ ap (placed_from set.id 0) same in
      record {
        kept = mine ++ then.kept;
        thinned = subst (λ o. Thinned Gone before o (mine ++ then.kept)) (sym (read_standing k set above is)) (all_stay mine before (records_of k above) then.kept then.thinned);
        read = read_standing k set above' is ∙ ap (λ m. m ++ records_of k above') cut ∙ ap (λ r. mine ++ r) then.read ∙ sym (append_assoc mine then.kept extra);
      }

  -- or that is dropped,
  drops_then : (set : ReadSet) (above above' : List ReadSet) (before : List Placed) → HasCarrier all set.id → stands k set ≡ true → Drops set above → records_of k all ≡ before ++ (cut_records k set above ++ records_of k above) → ReadThen (before ++ cut_records k set above) above above' → ReadThen before (set ∷ above) (set ∷ above')
  drops_then set above above' before there is drops at then =
      let mine = cut_records k set above in
      let zero_kept : kept_by set.id (valid k above') ≡ Some 0 = kept_then set above above' (before ++ mine) there then ∙ ap (lesser (kept_by set.id (valid k above))) drops.0 ∙ lesser_zero (kept_by set.id (valid k above)) in
      let none : cut_records k set above' ≡ [] = ap (λ o. placed_from set.id 0 (cut_to o set.records)) zero_kept in
      record {
        kept = then.kept;
        thinned = subst (λ o. Thinned Gone before o then.kept) (sym (read_standing k set above is))
            (all_go (records_of k all) mine before (records_of k above) then.kept set.id (placed_in set.id 0 (cut_to (kept_by set.id (valid k above)) set.records)) drops.1 at then.thinned);
        read = read_standing k set above' is ∙ ap (λ m. m ++ records_of k above') none ∙ then.read;
      }

  -- or that doesn't stand.
  falls_then : (set : ReadSet) (above above' : List ReadSet) (before : List Placed) → stands k set ≡ false → ReadThen before above above' → ReadThen before (set ∷ above) (set ∷ above')
  falls_then set above above' before fell then = record {
    kept = then.kept;
    thinned = subst (λ o. Thinned Gone before o then.kept) (sym (read_fallen k set above fell)) then.thinned;
    read = read_fallen k set above' fell ∙ then.read;
  }

  pub read_then : (below : List ReadSet) (before : List Placed) → records_of k all ≡ before ++ records_of k (below ++ tail) → ((id : ℕ) → HasCarrier (below ++ tail) id → HasCarrier all id) → CutsOrDrops below → ReadThen before (below ++ tail) (below ++ tail')
  read_then [] before at there may = record {
    kept = records_of k tail;
    thinned = subst (λ r. Thinned Gone before r r) (append-nil (records_of k tail)) (all_stay (records_of k tail) before [] [] nothing);
    read = behind;
  }
  read_then (set ∷ below) before at there may = by_standing (stands k set) refl (λ ahead at'. read_then below ahead at' (λ id has. there id (inr has)) may.1)
    where
      by_standing : (b : Bool) → stands k set ≡ b → ((ahead : List Placed) → records_of k all ≡ ahead ++ records_of k (below ++ tail) → ReadThen ahead (below ++ tail) (below ++ tail')) → ReadThen before (set ∷ (below ++ tail)) (set ∷ (below ++ tail'))
      by_standing false fell again = falls_then set (below ++ tail) (below ++ tail') before fell (again before (at ∙ ap (λ r. before ++ r) (read_fallen k set (below ++ tail) fell)))
      by_standing true is again =
          let mine = cut_records k set (below ++ tail) in
          let at' : records_of k all ≡ before ++ (mine ++ records_of k (below ++ tail)) = at ∙ ap (λ r. before ++ r) (read_standing k set (below ++ tail) is) in
          let then = again (before ++ mine) (at' ∙ sym (append_assoc before mine (records_of k (below ++ tail)))) in
          let many = standing_carriers k set is in
          let has = there set.id (inl (refl, omega arith)) in
          elim (may.0 is) [
            | inl same ↦ stands_then set (below ++ tail) (below ++ tail') before has is same then
            | inr drops ↦ drops_then set (below ++ tail) (below ++ tail') before has is drops at' then
          ]
