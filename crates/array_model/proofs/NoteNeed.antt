-- What is needed with a newest note behind the records of the highest set.
use Rattle.std.proofs.Common.{◌≡◌, ℕ, ◌+◌, ◌<◌, false, cond, count_by, List, [], ◌∷◌, ◌++◌, Some, None, is_some, Contains, ◌⊎◌, inl, inr, ⊎_elim, refl, sym, ap, ◌∙◌, subst, bytes_eq, arith}
use Rattle.std.proofs.lemmas.Bool.{cases_Bool, iff_false}
use Rattle.std.proofs.lemmas.Option.{same_Some}
use Rattle.std.proofs.lemmas.List.Sums.{sum_by-append}
use Rattle.std.proofs.lemmas.Slice.Eq.{bytes_eq-Decides}
use Rattle.array_model.specs.Record.{Record, Part, Put, Delete, Cut, Snapshot, note_stamp, kept_of}
use Rattle.array_model.specs.Sets.{ReadSet, Placed, least_kept, lesser, records_of}
use Rattle.array_model.specs.Map.{items_of, newest}
use Rattle.array_model.specs.Need.{IsNeeded, IsWanted}
use Rattle.array_model.specs.SetLaws.{Appends, AllBelow, PutNeedsItsParts, DeleteNeedsNothing, IsNote, OlderNotesUnneeded, IsUploadOfOther, OlderPartsUnneeded}
use Rattle.array_model.proofs.Records.{Among, among_from_contains, contains_from_among, among_joined, among_first}
use Rattle.array_model.proofs.Notes.{is_note}
use Rattle.array_model.proofs.Snapshots.{complete_among}
use Rattle.array_model.proofs.Appended.{CutNothingOff, extra_of, items_extra, read_more, no_cut_nothing_off}
use Rattle.array_model.proofs.Behind.{newest_behind, newest_before}
use Rattle.array_model.proofs.Copies.{wanted_is_newest}
use Rattle.array_model.proofs.Thinned.{among_items}
use Rattle.array_model.proofs.NeededBefore.{needed_before, count_none}

-- ---- the note

noted : (name : List ℕ) (stamp : ℕ) (note : Record) → IsNote name stamp note → (other : List ℕ) → note_stamp other note ≡ cond (bytes_eq name other) (Some stamp) None
noted name stamp note (inl (upload, parts, bytes, is)) other = ap (note_stamp other) is
noted name stamp note (inr is) other = ap (note_stamp other) is

no_snapshot : (name : List ℕ) (stamp : ℕ) (note : Record) → IsNote name stamp note → (s part parts bytes : ℕ) (payload : List ℕ) → note ≡ Snapshot s part parts bytes payload → ⊥
no_snapshot name stamp note (inl (upload, p, b, is)) s part parts bytes payload same = absurd (cc)
no_snapshot name stamp note (inr is) s part parts bytes payload same = absurd (cc)

no_cut : (name : List ℕ) (stamp : ℕ) (note : Record) → IsNote name stamp note → (target : ℕ) → least_kept target (note ∷ []) ≡ None
no_cut name stamp note (inl (upload, parts, bytes, is)) target = ap (λ r. lesser (kept_of target r) None) is
no_cut name stamp note (inr is) target = ap (λ r. lesser (kept_of target r) None) is

module _ (name : List ℕ) (stamp : ℕ) (note : Record) (is : IsNote name stamp note) (items : List Record) (below : (item : Record) (its : ℕ) → Among item items → note_stamp name item ≡ Some its → its < stamp) where
  abbrev more : List Record
  more = items ++ note ∷ []

  own_stamp : note_stamp name note ≡ Some stamp
  own_stamp = noted name stamp note is name ∙ ap (λ b. cond b (Some stamp) None) ((bytes_eq-Decides name name).1 refl)

  none_equal : Among note items → ⊥
  none_equal found = let less = below note stamp found own_stamp in omega arith

  -- It is the newest of its name, and of no other.
  newest_own : newest name more ≡ Some note
  newest_own =
      newest_behind name items (note ∷ []) note stamp (ap (λ o. cond (is_some o) (Some note) None) own_stamp) own_stamp
      (λ item its found at. let less = below item its found at in omega arith)

  none_of_other : (other : List ℕ) → bytes_eq name other ≡ false → note_stamp other note ≡ None
  none_of_other other differs = noted name stamp note is other ∙ ap (λ b. cond b (Some stamp) None) differs

  newest_other : (other : List ℕ) → bytes_eq name other ≡ false → newest other more ≡ newest other items
  newest_other other differs = newest_before other items (note ∷ []) (ap (λ o. cond (is_some o) (Some note) None) (none_of_other other differs))

  -- What is newest then is the note, or was the newest of another name.
  newest_then : (other : List ℕ) (found : Record) → newest other more ≡ Some found → ((note ≡ found) × (name ≡ other)) ⊎ ((newest other items ≡ Some found) × (bytes_eq name other ≡ false))
  newest_then other found at = elim (cases_Bool (bytes_eq name other)) [
    | inl same ↦
        let mine : name ≡ other = (bytes_eq-Decides name other).0 same in
        inl (same_Some _ _ (sym newest_own ∙ ap (λ n. newest n more) mine ∙ at), mine)
    | inr differs ↦ inr (sym (newest_other other differs) ∙ at, differs)
  ]

  newest_was : (other : List ℕ) (found : Record) → Among found items → newest other more ≡ Some found → (newest other items ≡ Some found) × (bytes_eq name other ≡ false)
  newest_was other found there at = elim (newest_then other found at) [
    | inl own ↦ absurd (none_equal (subst (λ r. Among r items) (sym own.0) there))
    | inr was ↦ was
  ]

  -- What is wanted with it was wanted while its upload was in progress.
  module _ (uploads before : List ℕ) (still : (upload : ℕ) → Contains uploads upload → Contains before upload) (own : (other : List ℕ) (s upload parts bytes : ℕ) → note ≡ Put other s upload parts bytes → Contains before upload) where
    snapshot_was : (s part parts bytes : ℕ) (payload : List ℕ) → Among (Snapshot s part parts bytes payload) more → Among (Snapshot s part parts bytes payload) items
    snapshot_was s part parts bytes payload found = ⊎_elim (λ there. there) (λ last. ⊎_elim (λ same. absurd (no_snapshot name stamp note is s part parts bytes payload same)) (λ none. absurd none) last) (among_joined items (note ∷ []) (Snapshot s part parts bytes payload) found)

    wanted_was : (item : Record) → Among item items → IsWanted uploads more item → IsWanted before items item
    wanted_was (Put other s upload parts bytes) found wanted = (newest_was other (Put other s upload parts bytes) found wanted).0
    wanted_was (Delete other s) found wanted =
        let was = newest_was other (Delete other s) found wanted.0 in
        let none : count_by (is_note other) (note ∷ []) ≡ 0 = count_none (is_note other) (note ∷ []) (λ item among. ⊎_elim (λ same. ap (is_note other) (sym same) ∙ ap is_some (none_of_other other was.1)) (λ none. absurd none) among) in
        let joined : count_by (is_note other) more ≡ count_by (is_note other) items + count_by (is_note other) (note ∷ []) = sum_by-append (λ item. cond (is_note other item) 1 0) items (note ∷ []) in
        let several = wanted.1 in
        (was.0, omega arith)
    wanted_was (Part upload part payload) found (inl open_upload) = inl (still upload open_upload)
    wanted_was (Part upload part payload) found (inr (other, s, parts, bytes, at)) = elim (newest_then other (Put other s upload parts bytes) at) [
      | inl mine ↦ inl (own other s upload parts bytes mine.0)
      | inr was ↦ inr (other, s, parts, bytes, was.0)
    ]
    wanted_was (Snapshot s part parts bytes payload) found wanted = record {
      complete = complete_among more items s (λ i n b p there. snapshot_was s i n b p there) wanted.complete;
      newest_one = λ other it. wanted.newest_one other (complete_among items more other (λ i n b p there. among_first items (note ∷ []) (Snapshot other i n b p) there) it);
    }
    wanted_was item found wanted = wanted

-- ---- its laws

module _ (k : ℕ) (uploads name : List ℕ) (stamp : ℕ) (note : Record) (old new : List ReadSet) (is : IsNote name stamp note) (appends : Appends k (note ∷ []) old new) (bound : AllBelow (items_of (records_of k old)) name stamp) where
  abbrev items : List Record
  items = items_of (records_of k old)

  below : (item : Record) (its : ℕ) → Among item (items_of (records_of k old)) → note_stamp name item ≡ Some its → its < stamp
  below item its found at = bound item its (contains_from_among (items_of (records_of k old)) item found) at

  cuts_nothing : CutNothingOff k (note ∷ []) (appends.top ∷ appends.above) appends.below
  cuts_nothing = no_cut_nothing_off k (note ∷ []) (appends.top ∷ appends.above) (no_cut name stamp note is) appends.below

  read : items_of (records_of k new) ≡ items_of (records_of k old) ++ note ∷ []
  read = read_more k (note ∷ []) old new appends cuts_nothing

  -- What is needed is the note, or was needed.
  note_or_needed : (before : List ℕ) → ((upload : ℕ) → Contains uploads upload → Contains before upload) → ((other : List ℕ) (s upload parts bytes : ℕ) → note ≡ Put other s upload parts bytes → Contains before upload) → (it : Placed) → IsNeeded k uploads new it → (it.item ≡ note) ⊎ IsNeeded k before old it
  note_or_needed before still own it needed = ⊎_elim
      (λ was. inr was)
      (λ among. inl (⊎_elim (λ same. sym same) (λ none. absurd none) (subst (λ r. Among it.item r) (items_extra appends.top (note ∷ [])) (among_items (extra_of appends.top (note ∷ [])) it it.item among refl))))
      (needed_before k uploads before (note ∷ []) old new appends cuts_nothing (wanted_was name stamp note is items below uploads before still own) it needed)

  older_note : (it : Placed) (its : ℕ) → IsNeeded k uploads new it → note_stamp name it.item ≡ Some its → it.item ≡ note
  older_note it its needed at = ⊎_elim
      (λ wanted. same_Some _ _ (sym (wanted_is_newest uploads name (items_of (records_of k new)) it.item its at wanted.0) ∙ ap (newest name) read ∙ newest_own name stamp note is items below))
      (λ last. let e = sym (ap (note_stamp name) last.2) ∙ at in absurd (cc))
      needed.why

  older_part : (it : Placed) (upload part : ℕ) (payload : List ℕ) → IsNeeded k uploads new it → it.item ≡ Part upload part payload → ((parts : ℕ) × (bytes : ℕ) × (note ≡ Put name stamp upload parts bytes)) ⊎ (Contains uploads upload ⊎ IsUploadOfOther name items upload)
  older_part it upload part payload needed same = ⊎_elim (λ wanted. by_want (subst (λ (r : Record). IsWanted uploads (items_of (records_of k new)) r) same wanted.0)) (λ last. let e : Part upload part payload ≡ Cut last.0 last.1 = sym same ∙ last.2 in absurd (cc)) needed.why
    where
      stamp_same : (other : List ℕ) (s parts bytes : ℕ) → note ≡ Put other s upload parts bytes → name ≡ other → (parts : ℕ) × (bytes : ℕ) × (note ≡ Put name stamp upload parts bytes)
      stamp_same other s parts bytes put mine = by_kind is
        where
          by_kind : IsNote name stamp note → (parts : ℕ) × (bytes : ℕ) × (note ≡ Put name stamp upload parts bytes)
          by_kind (inl (u, p, b, own)) = let e : u ≡ upload = cc in (p, b, own ∙ ap (λ u. Put name stamp u p b) e)
          by_kind (inr own) = absurd (cc)

      by_want : IsWanted uploads (items_of (records_of k new)) (Part upload part payload) → ((parts : ℕ) × (bytes : ℕ) × (note ≡ Put name stamp upload parts bytes)) ⊎ (Contains uploads upload ⊎ IsUploadOfOther name (items_of (records_of k old)) upload)
      by_want (inl open_upload) = inr (inl open_upload)
      by_want (inr (other, s, parts, bytes, at)) = elim (newest_then name stamp note is (items_of (records_of k old)) below other (Put other s upload parts bytes) (sym (ap (newest other) read) ∙ at)) [
        | inl mine ↦ inl (stamp_same other s parts bytes mine.0 mine.1)
        | inr was ↦ inr (inr (other, s, parts, bytes, was.0, λ e. iff_false (bytes_eq-Decides name other) was.1 (sym e)))
      ]

there_first : (upload : ℕ) (uploads : List ℕ) → Contains (upload ∷ uploads) upload
there_first upload uploads = contains_from_among (upload ∷ uploads) upload (inl refl)

there_more : (upload first : ℕ) (uploads : List ℕ) → Contains uploads upload → Contains (first ∷ uploads) upload
there_more upload first uploads found = contains_from_among (first ∷ uploads) upload (inr (among_from_contains uploads upload found))

pub put_needs_its_parts : PutNeedsItsParts
put_needs_its_parts k uploads name stamp upload parts bytes old new it appends below needed =
    note_or_needed k uploads name stamp (Put name stamp upload parts bytes) old new (inl (upload, parts, bytes, refl)) appends below (upload ∷ uploads)
    (λ u found. there_more u upload uploads found)
    (λ other s u p b is. let e : upload ≡ u = cc in subst (Contains (upload ∷ uploads)) e (there_first upload uploads))
    it needed

pub delete_needs_nothing : DeleteNeedsNothing
delete_needs_nothing k uploads name stamp old new it appends below needed =
    note_or_needed k uploads name stamp (Delete name stamp) old new (inr refl) appends below uploads (λ u found. found) (λ other s u p b is. absurd (cc)) it needed

pub older_notes_unneeded : OlderNotesUnneeded
older_notes_unneeded k uploads name stamp note old new it its is appends below needed at = older_note k uploads name stamp note old new is appends below it its needed at

pub older_parts_unneeded : OlderPartsUnneeded
older_parts_unneeded k uploads name stamp note old new it upload part payload is appends below needed same = older_part k uploads name stamp note old new is appends below it upload part payload needed same
