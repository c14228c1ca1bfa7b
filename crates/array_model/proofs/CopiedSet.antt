-- Copies make nothing else needed.
use Rattle.std.proofs.Common.{◌≡◌, ℕ, ◌+◌, ◌<◌, cond, count_by, List, ◌++◌, Option, Some, None, is_some, Contains, inl, inr, ⊎_elim, refl, sym, ap, ◌∙◌, subst, arith}
use Rattle.std.specs.List.{AllByRecursion}
use Rattle.std.proofs.lemmas.Option.{same_Some}
use Rattle.std.proofs.lemmas.List.Sums.{sum_by-append}
use Rattle.array_model.specs.Record.{Record, Part, Put, Delete, Cut, Snapshot}
use Rattle.array_model.specs.Sets.{ReadSet, Placed, AreRising, records_of}
use Rattle.array_model.specs.Map.{items_of, newest}
use Rattle.array_model.specs.Need.{IsNeeded, IsWanted}
use Rattle.array_model.specs.SetLaws.{Appends, CutsAreOfLower, IsCopyOfNeeded, CopiesMakeNothingNeeded, CopiedSetHasCopies}
use Rattle.array_model.proofs.Records.{Among, among_from_contains, contains_from_among, among_joined, among_first, among_rest, newest_is_note, no_newest, all_among}
use Rattle.array_model.proofs.Thinned.{item_among}
use Rattle.array_model.proofs.Notes.{is_note}
use Rattle.array_model.proofs.Snapshots.{complete_among}
use Rattle.array_model.proofs.Appended.{extra_of, items_extra, extra_in, read_places}
use Rattle.array_model.proofs.NeededBefore.{needed_before, count_none}
use Rattle.array_model.proofs.Copies.{copy_there, copy_wanted, copied_newest, newest_copied, copies_cut_nothing}

module _ (k : ℕ) (uploads : List ℕ) (old : List ReadSet) (more : List Record) (copies : AllByRecursion (IsCopyOfNeeded k uploads old) more) where
  abbrev items : List Record
  items = items_of (records_of k old)

  -- Each record with the copies is one without them.
  without_copies : (item : Record) → Among item (items ++ more) → Among item items
  without_copies item found = ⊎_elim (λ first. first) (λ copy. copy_there k uploads old more copies item copy) (among_joined items more item found)

  -- A delete that is wanted with the copies was wanted: a copy of a note of its name is a copy of it.
  delete_was : (name : List ℕ) (stamp : ℕ) → IsWanted uploads (items ++ more) (Delete name stamp) → IsWanted uploads items (Delete name stamp)
  delete_was name stamp wanted = by_copies (newest name more) refl
    where
      was : newest name (items_of (records_of k old)) ≡ Some (Delete name stamp)
      was = sym (newest_copied k uploads old more copies name) ∙ wanted.0

      by_copies : (found : Option Record) → newest name more ≡ found → IsWanted uploads (items_of (records_of k old)) (Delete name stamp)
      by_copies None none =
          let zero_more : count_by (is_note name) more ≡ 0 = count_none (is_note name) more (λ item found. ap is_some (no_newest name more none item found)) in
          let joined : count_by (is_note name) (items_of (records_of k old) ++ more) ≡ count_by (is_note name) (items_of (records_of k old)) + count_by (is_note name) more = sum_by-append (λ item. cond (is_note name item) 1 0) (items_of (records_of k old)) more in
          let several = wanted.1 in
          (was, omega arith)
      by_copies (Some note) is =
          let its = copied_newest k uploads old more copies name note is in
          let same : note ≡ Delete name stamp = same_Some _ _ (sym its ∙ was) in
          let told = newest_is_note name more note is in
          subst (λ (r : Record). IsWanted uploads (items_of (records_of k old)) r) same
          (copy_wanted k uploads old more copies note (λ target kept cut. let e : Cut target kept ≡ Delete name stamp = sym cut ∙ same in cc) told.0)

  -- What is wanted with the copies was wanted.
  wanted_was : (item : Record) → IsWanted uploads (items ++ more) item → IsWanted uploads items item
  wanted_was (Put name stamp upload parts bytes) wanted = sym (newest_copied k uploads old more copies name) ∙ wanted
  wanted_was (Delete name stamp) wanted = delete_was name stamp wanted
  wanted_was (Part upload part payload) (inl open_upload) = inl open_upload
  wanted_was (Part upload part payload) (inr of_newest) = inr (of_newest.0, of_newest.1, of_newest.2, of_newest.3, sym (newest_copied k uploads old more copies of_newest.0) ∙ of_newest.4)
  wanted_was (Snapshot stamp part parts bytes payload) wanted = record {
    complete = complete_among (items_of (records_of k old) ++ more) (items_of (records_of k old)) stamp (λ part parts bytes payload found. without_copies _ found) wanted.complete;
    newest_one = λ other it. wanted.newest_one other (complete_among (items_of (records_of k old)) (items_of (records_of k old) ++ more) other (λ part parts bytes payload found. among_first _ more _ found) it);
  }
  wanted_was item wanted = wanted

  -- What is needed of a lower set with the copies was needed.
  needed_was : (new : List ReadSet) → AreRising old → CutsAreOfLower k old → (appends : Appends k more old new) → (it : Placed) → it.set < appends.top.id → IsNeeded k uploads new it → IsNeeded k uploads old it
  needed_was new rising lower appends it below needed = ⊎_elim
      (λ was. was)
      (λ among. let same = all_among (λ (r : Placed). r.set ≡ appends.top.id) (extra_of appends.top more) it (extra_in appends.top more) among in absurd (omega arith))
      (needed_before k uploads uploads more old new appends (copies_cut_nothing k uploads more old new rising lower appends copies) (λ item found wanted. wanted_was item wanted) it needed)

pub copies_make_nothing_needed : CopiesMakeNothingNeeded
copies_make_nothing_needed k uploads more old new it rising lower appends copies below needed = needed_was k uploads old more copies new rising lower appends it below needed

pub copied_set_has_copies : CopiedSetHasCopies
copied_set_has_copies k uploads more id old new rising lower appends copies all below it needed own =
    let was = needed_was k uploads old more copies new rising lower appends it (let e = own in omega arith) needed in
    let extra = extra_of appends.top more in
    let read = read_places k more old new appends (copies_cut_nothing k uploads more old new rising lower appends copies) in
    let copy = item_among extra it.item (subst (λ items. Among it.item items) (sym (items_extra appends.top more)) (among_from_contains more it.item (all it was own))) in
    let at = all_among (λ (r : Placed). r.set ≡ appends.top.id) extra copy.0 (extra_in appends.top more) copy.1 in
    (copy.0, subst (λ r. Contains r copy.0) (sym read) (contains_from_among (records_of k old ++ extra) copy.0 (among_rest (records_of k old) extra copy.0 copy.1)), omega arith, copy.2)
