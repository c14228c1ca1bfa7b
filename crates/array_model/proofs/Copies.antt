-- Copies of needed records change nothing.
use Rattle.std.proofs.Common.{◌≡◌, ℕ, ◌<◌, min, Bool, true, false, List, [], ◌∷◌, ◌++◌, Option, Some, None, inl, inr, refl, sym, ap, ◌∙◌, subst, arith}
use Rattle.std.specs.List.{AllByRecursion}
use Rattle.array_model.specs.Record.{Record, Part, Put, Delete, Cut, note_stamp}
use Rattle.array_model.specs.Sets.{ReadSet, Placed, AreRising, placed_from, RiseAbove, stands, cut_to, kept_by, lesser, least_kept, valid, records_of}
use Rattle.array_model.specs.Map.{items_of, newest, part_of, or_else, value_of, value_in}
use Rattle.array_model.specs.Need.{IsNeeded, IsWanted}
use Rattle.array_model.specs.SetLaws.{Appends, CutsAreOfLower, IsCopyOfNeeded, CopiesChangeNothing}
use Rattle.array_model.proofs.Records.{Among, among_joined, among_rest, contains_from_among, least_at_most, least_is_there, newest_is_note, newest_bound, all_among}
use Rattle.array_model.proofs.Objects.{SameParts, part_has_first, first_is_there}
use Rattle.array_model.proofs.MapLaws.{same_values_same_map}
use Rattle.array_model.proofs.Notes.{put_named, delete_named}
use Rattle.array_model.proofs.Thinned.{among_items}
use Rattle.array_model.proofs.Sets.{lesser_none, kept_least, placed_in, cut_records, read_standing, read_fallen}
use Rattle.array_model.proofs.Appended.{CutNothingOff, read_more}
use Rattle.array_model.proofs.Behind.{newest_behind, newest_before, part_joined, value_behind, or_else_none}

-- A needed record is a valid one.
pub needed_among : (k : ℕ) (uploads : List ℕ) (sets : List ReadSet) (it : Placed) → IsNeeded k uploads sets it → Among it (records_of k sets)
needed_among k uploads sets it needed = subst (λ r. Among it r) (sym needed.valid) (among_rest needed.before (it ∷ needed.after) it (inl refl))

-- A record of another set than the lowest of these stands in the sets above it,
pub among_other : (k : ℕ) (set : ReadSet) (above : List ReadSet) (it : Placed) → (it.set ≡ set.id → ⊥) → Among it (records_of k (set ∷ above)) → Among it (records_of k above)
among_other k set above it other found = by_standing (stands k set) refl
  where
    by_standing : (b : Bool) → stands k set ≡ b → Among it (records_of k above)
    by_standing true is = elim (among_joined (cut_records k set above) (records_of k above) it (subst (λ r. Among it r) (read_standing k set above is) found)) [
      | inl own ↦ absurd (other (all_among (λ (r : Placed). r.set ≡ set.id) (cut_records k set above) it (placed_in set.id 0 (cut_to (kept_by set.id (valid k above)) set.records)) own))
      | inr later ↦ later
    ]
    by_standing false fell = subst (λ r. Among it r) (read_fallen k set above fell) found

pub among_above : (k : ℕ) (set : ReadSet) (above : List ReadSet) (it : Placed) → set.id < it.set → Among it (records_of k (set ∷ above)) → Among it (records_of k above)
among_above k set above it higher found = among_other k set above it (λ e. omega arith) found

-- and so does any where the set is cut to 0.
pub among_past_dropped : (k : ℕ) (set : ReadSet) (above : List ReadSet) (it : Placed) → kept_by set.id (valid k above) ≡ Some 0 → Among it (records_of k (set ∷ above)) → Among it (records_of k above)
among_past_dropped k set above it none found = by_standing (stands k set) refl
  where
    by_standing : (b : Bool) → stands k set ≡ b → Among it (records_of k above)
    by_standing true is = subst (λ r. Among it r) (read_standing k set above is ∙ ap (λ o. placed_from set.id 0 (cut_to o set.records) ++ records_of k above) none) found
    by_standing false fell = subst (λ r. Among it r) (read_fallen k set above fell) found

-- A cut that keeps as many as one above keeps no fewer.
pub kept_above : (k target n : ℕ) (above : List ReadSet) (it : Placed) → it.item ≡ Cut target n → Among it (records_of k above) → lesser (kept_by target (valid k above)) (Some n) ≡ kept_by target (valid k above)
kept_above k target n above it is found =
    let least = least_at_most target n (items_of (records_of k above)) (among_items (records_of k above) it (Cut target n) found is) in
    let kept : kept_by target (valid k above) ≡ Some least.0 = kept_least target (valid k above) ∙ least.1 in
    let low = least.2 in
    let same : min least.0 n ≡ least.0 = omega arith in
    ap (λ o. lesser o (Some n)) kept ∙ ap Some same ∙ sym kept

-- Where each cut among more records is of a valid one of a higher set, they cut nothing off.
pub copied_cuts : (k : ℕ) (more : List Record) (all tail below : List ReadSet) (low : ℕ) → ((target kept : ℕ) → least_kept target more ≡ Some kept → (it : Placed) × Among it (records_of k all) × (it.item ≡ Cut target kept) × (target < it.set)) → RiseAbove low (below ++ tail) → ((it : Placed) → low < it.set → Among it (records_of k all) → Among it (records_of k (below ++ tail))) → CutNothingOff k more tail below
copied_cuts k more all tail [] low copied rise there = tt
copied_cuts k more all tail (set ∷ below) low copied rise there =
    (ap (λ o. cut_to o set.records) (kept_same (least_kept set.id more) refl), copied_cuts k more all tail below set.id copied rise.1 above)
  where
    above : (it : Placed) → set.id < it.set → Among it (records_of k all) → Among it (records_of k (below ++ tail))
    above it higher found = let low' = rise.0 in among_above k set (below ++ tail) it higher (there it (omega arith) found)

    kept_same : (least : Option ℕ) → least_kept set.id more ≡ least → lesser (kept_by set.id (valid k (below ++ tail))) least ≡ kept_by set.id (valid k (below ++ tail))
    kept_same None none = lesser_none (kept_by set.id (valid k (below ++ tail)))
    kept_same (Some n) is = let copy = copied set.id n is in kept_above k set.id n (below ++ tail) copy.0 copy.2 (above copy.0 copy.3 copy.1)

-- A note that is wanted is the newest of its name.
pub wanted_is_newest : (uploads name : List ℕ) (items : List Record) (note : Record) (stamp : ℕ) → note_stamp name note ≡ Some stamp → IsWanted uploads items note → newest name items ≡ Some note
wanted_is_newest uploads name items (Put own s upload parts bytes) stamp at wanted = ap (λ n. newest n items) (sym (put_named name own s upload parts bytes stamp at)) ∙ wanted
wanted_is_newest uploads name items (Delete own s) stamp at wanted = ap (λ n. newest n items) (sym (delete_named name own s stamp at)) ∙ wanted.0
wanted_is_newest uploads name items item stamp at wanted = absurd (cc)

module _ (k : ℕ) (uploads : List ℕ) (old : List ReadSet) (more : List Record) (copies : AllByRecursion (IsCopyOfNeeded k uploads old) more) where
  pub copied : (item : Record) → Among item more → IsCopyOfNeeded k uploads old item
  copied item found = all_among (IsCopyOfNeeded k uploads old) more item copies found

  -- A copy is of a record that is there.
  pub copy_there : (item : Record) → Among item more → Among item (items_of (records_of k old))
  copy_there item found = let it = copied item found in among_items (records_of k old) it.0 item (needed_among k uploads old it.0 it.1) it.2

  -- A copy of a note is of the newest of its name.
  pub copy_wanted : (item : Record) → ((target kept : ℕ) → item ≡ Cut target kept → ⊥) → Among item more → IsWanted uploads (items_of (records_of k old)) item
  copy_wanted item no_cut found =
      let it = copied item found in
      elim it.1.why [
        | inl wanted ↦ subst (λ (r : Record). IsWanted uploads (items_of (records_of k old)) r) it.2 wanted.0
        | inr last ↦ absurd (no_cut last.0 last.1 (sym it.2 ∙ last.2))
      ]

  pub copied_newest : (name : List ℕ) (note : Record) → newest name more ≡ Some note → newest name (items_of (records_of k old)) ≡ Some note
  copied_newest name note is =
      let told = newest_is_note name more note is in
      let at = told.1.1 in
      wanted_is_newest uploads name (items_of (records_of k old)) note told.1.0 at (copy_wanted note (λ target kept cut. let e = ap (note_stamp name) cut in cc) told.0)

  pub newest_copied : (name : List ℕ) → newest name (items_of (records_of k old) ++ more) ≡ newest name (items_of (records_of k old))
  newest_copied name = behind (newest name more) refl
    where
      behind : (found : Option Record) → newest name more ≡ found → newest name (items_of (records_of k old) ++ more) ≡ newest name (items_of (records_of k old))
      behind None none = newest_before name (items_of (records_of k old)) more none
      behind (Some note) is =
          let was = copied_newest name note is in
          let told = newest_is_note name (items_of (records_of k old)) note was in
          newest_behind name (items_of (records_of k old)) more note told.1.0 is told.1.1 (newest_bound name (items_of (records_of k old)) note told.1.0 was told.1.1) ∙ sym was

  parts_copied : (upload : ℕ) → SameParts (items_of (records_of k old)) (items_of (records_of k old) ++ more) upload
  parts_copied upload part = part_joined upload part (items_of (records_of k old)) more ∙ behind (part_of upload part more) refl
    where
      behind : (found : Option (List ℕ)) → part_of upload part more ≡ found → or_else (part_of upload part (items_of (records_of k old))) (part_of upload part more) ≡ part_of upload part (items_of (records_of k old))
      behind None none = ap (or_else (part_of upload part (items_of (records_of k old)))) none ∙ or_else_none (part_of upload part (items_of (records_of k old)))
      behind (Some payload) is =
          let first = part_has_first upload part payload (items_of (records_of k old)) (copy_there (Part upload part payload) (first_is_there upload part payload more is)) in
          ap (λ o. or_else o (part_of upload part more)) first.1 ∙ sym first.1

  pub cuts_copied : CutsAreOfLower k old → (target kept : ℕ) → least_kept target more ≡ Some kept → (it : Placed) × Among it (records_of k old) × (it.item ≡ Cut target kept) × (target < it.set)
  cuts_copied lower target kept is =
      let it = copied (Cut target kept) (least_is_there target kept more is) in
      let there = needed_among k uploads old it.0 it.1 in
      (it.0, there, it.2, lower it.0 target kept (contains_from_among (records_of k old) it.0 there) it.2)

-- They cut nothing off.
pub copies_cut_nothing : (k : ℕ) (uploads : List ℕ) (more : List Record) (old new : List ReadSet) → AreRising old → CutsAreOfLower k old → (appends : Appends k more old new) → AllByRecursion (IsCopyOfNeeded k uploads old) more → CutNothingOff k more (appends.top ∷ appends.above) appends.below
copies_cut_nothing k uploads more old new rising lower appends copies =
    copied_cuts k more old (appends.top ∷ appends.above) appends.below 0 (cuts_copied k uploads old more copies lower)
    (subst (λ sets. RiseAbove 0 sets) appends.was rising) (λ it higher found. subst (λ sets. Among it (records_of k sets)) appends.was found)

pub copies_change_nothing : CopiesChangeNothing
copies_change_nothing k uploads more old new rising lower appends copies =
    let items = items_of (records_of k old) in
    let read = read_more k more old new appends (copies_cut_nothing k uploads more old new rising lower appends copies) in
    let same : (name : List ℕ) → value_in k new name ≡ value_in k old name = (λ name. ap (λ r. value_of r name) read
    ∙ value_behind items more name (newest_copied k uploads old more copies name) (λ own stamp upload parts bytes is. parts_copied k uploads old more copies upload)) in
    record { map = same_values_same_map k old new same; value = same }
