-- The cuts of an opening fix what was read.
use Rattle.std.proofs.Common.{◌≡◌, ℕ, ◌<◌, ◌≤◌, Bool, true, false, length, length-take, List, [], ◌∷◌, ◌++◌, take, take_all, take-take, Option, Some, None, Contains, ◌⊎◌, inl, inr, ⊎_elim, refl, sym, ap, ◌∙◌, subst, append-nil, le-leb, arith}
use Rattle.std.specs.List.{AllByRecursion, AllZip, list_any}
use Rattle.std.proofs.Math.Bool.{or-true}
use Rattle.std.proofs.lemmas.Bool.{and_from, cases_lt}
use Rattle.std.proofs.lemmas.List.Folds.{list_any-append}
use Rattle.array_model.specs.Record.{Record, Head, Ready, Cut, is_ready, note_stamp, payload_of}
use Rattle.array_model.specs.Sets.{ReadSet, ValidSet, Placed, RiseAbove, stands, cut_to, kept_by, lesser, least_kept, placed_from, valid, records_of, HasCarrier}
use Rattle.array_model.specs.Map.{items_of, value_of, value_in}
use Rattle.array_model.specs.Need.{IsWanted}
use Rattle.array_model.specs.SetLaws.{CutsAreOfLower, OpensWithCuts, IsOpeningCut, IsSameToCut, OpeningChangesNothing, OpeningFixesWhatWasRead, ReadsTheSame}
use Rattle.array_model.proofs.Records.{Among, among_from_contains, contains_from_among, among_joined, among_first, least_at_most, least_is_there, all_among}
use Rattle.array_model.proofs.MapLaws.{same_values_same_map}
use Rattle.array_model.proofs.Thinned.{Thinned, StandsIn, Counts, no_more, fewer_thin, wanted_stays, part_stays, item_among}
use Rattle.array_model.proofs.Notes.{KeepsWanted, value_stays}
use Rattle.array_model.proofs.Sets.{lesser_none, items_placed, items_joined}
use Rattle.array_model.proofs.Appended.{read_highest}
use Rattle.array_model.proofs.Behind.{value_behind, newest_before, no_notes, no_parts, same_parts_before}
use Rattle.array_model.proofs.Copies.{among_above, needed_among, kept_above}
use Rattle.array_model.proofs.Dropped.{CutsOrDrops, ReadThen, read_then}
use Rattle.array_model.proofs.CutOff.{AreSameWhereKept, same_where_kept, kept_below}

-- the records of a new set
abbrev pub opened : List Record → List Record
opened cuts = Head ∷ (cuts ++ Ready ∷ [])

-- A cut among them is one of the cuts.
cut_among : (cuts : List Record) (target kept : ℕ) → Among (Cut target kept) (opened cuts) → Among (Cut target kept) cuts
cut_among cuts target kept (inl is) = absurd (cc)
cut_among cuts target kept (inr later) = elim (among_joined cuts (Ready ∷ []) (Cut target kept) later) [
  | inl cut ↦ cut
  | inr last ↦ ⊎_elim (λ is. absurd (cc)) (λ none. absurd none) last
]

-- What holds of all valid sets holds of those above one, and of it where it stands.
valid_above : (k : ℕ) (P : ValidSet → Type 0) (set : ReadSet) (above : List ReadSet) (b : Bool) → stands k set ≡ b → AllByRecursion P (valid k (set ∷ above)) → AllByRecursion P (valid k above)
valid_above k P set above true is all = (rw is at all).1
valid_above k P set above false fell all = rw fell at all

valid_here : (k : ℕ) (P : ValidSet → Type 0) (set : ReadSet) (above : List ReadSet) → stands k set ≡ true → AllByRecursion P (valid k (set ∷ above)) → P (record { id = set.id; records = cut_to (kept_by set.id (valid k above)) set.records })
valid_here k P set above is all = (rw is at all).0

-- To cut records at their length, or behind it, changes nothing.
long_enough : (kept : Option ℕ) (n : ℕ) (items : List Record) → length (cut_to kept items) ≤ n → cut_to (lesser kept (Some n)) items ≡ cut_to kept items
long_enough None n items short = take_all n items short
long_enough (Some m) n items short = elim (cases_lt n m) [
  | inl less ↦
      let l = length-take m items in
      let all : length items ≤ n = omega arith in
      ap (λ i. take i items) (omega arith) ∙ take_all n items all ∙ sym (take_all m items (omega arith))
  | inr more ↦ ap (λ i. take i items) (omega arith)
]

module _ (k : ℕ) (uploads : List ℕ) (cuts : List Record) (old : List ReadSet) (lower : CutsAreOfLower k old) (each : AllByRecursion (IsOpeningCut k uploads old cuts) cuts) where
  -- What goes, where it is needed, is a cut that is copied.
  abbrev pub IsCutCopied : List Placed → Placed → List Placed → Type 0
  IsCutCopied before it after = Counts k uploads old before it after → Among it.item cuts × ((target : ℕ) × (kept : ℕ) × (it.item ≡ Cut target kept))

  pub cuts_stand_in : StandsIn k uploads old (opened cuts) IsCutCopied (λ item. ⊥)
  cuts_stand_in = record {
    wanted = λ before it after gone wanted none. let cut = gone (inl (wanted, none)) in subst (λ (r : Record). IsWanted uploads (items_of (records_of k old)) r) cut.1.2 wanted;
    cut = λ before it after gone last.
        let cut = gone (inr last) in
        least_at_most last.0 last.1 (opened cuts) (inr (among_first cuts (Ready ∷ []) (Cut last.0 last.1) (subst (λ r. Among r cuts) last.2 cut.0)));
  }

  -- Of a set with such a cut nothing is cut off, or it is dropped.
  cut_or_drop : (set : ReadSet) (above : List ReadSet) (low n : ℕ) → low < set.id → ((it : Placed) → low < it.set → Among it (records_of k old) → Among it (records_of k (set ∷ above))) → ((P : ValidSet → Type 0) → AllByRecursion P (valid k old) → AllByRecursion P (valid k (set ∷ above))) → stands k set ≡ true → least_kept set.id (opened cuts) ≡ Some n → IsOpeningCut k uploads old cuts (Cut set.id n)
      → (cut_to (lesser (kept_by set.id (valid k above)) (Some n)) set.records ≡ cut_to (kept_by set.id (valid k above)) set.records) ⊎ ((n ≡ 0) × ((ahead : List Placed) (it : Placed) (after : List Placed) → records_of k old ≡ ahead ++ it ∷ (after ++ records_of k above) → it.set ≡ set.id → IsCutCopied ahead it (after ++ records_of k above)))
  cut_or_drop set above low n higher there down is least (target, kept, same, kind) =
      let mine : set.id ≡ target = cc in
      let many : n ≡ kept = cc in
      elim kind [
        | inl most ↦
            let short = valid_here k (λ (v : ValidSet). v.id ≡ target → length v.records ≤ kept) set above is (down (λ (v : ValidSet). v.id ≡ target → length v.records ≤ kept) most) mine in
            inl (long_enough (kept_by set.id (valid k above)) n set.records (omega arith))
        | inr (inl copy) ↦
            let among = needed_among k uploads old copy.0 copy.1 in
            let over = lower copy.0 set.id n (contains_from_among (records_of k old) copy.0 among) copy.2 in
            inl (ap (λ o. cut_to o set.records) (kept_above k set.id n above copy.0 copy.2 (among_above k set above copy.0 over (there copy.0 (omega arith) among))))
        | inr (inr emptied) ↦ inr (
          many ∙ emptied.0,
          λ ahead it after at own counts.
              let cut = emptied.1 it (record { before = ahead; after = after ++ records_of k above; valid = at; why = counts }) (own ∙ mine) in
              (among_from_contains cuts it.item cut.0, cut.1),
        )
      ]

  cuts_or_drops : (some : 0 < k) (tail' : List ReadSet) (extra : List Placed) (behind : records_of k tail' ≡ [] ++ extra) (are : items_of extra ≡ opened cuts) (below : List ReadSet) (low : ℕ) → RiseAbove low (below ++ []) → ((it : Placed) → low < it.set → Among it (records_of k old) → Among it (records_of k (below ++ []))) → ((P : ValidSet → Type 0) → AllByRecursion P (valid k old) → AllByRecursion P (valid k (below ++ []))) → CutsOrDrops k uploads old (opened cuts) IsCutCopied (λ item. ⊥) cuts_stand_in some [] tail' extra behind are below
  cuts_or_drops some tail' extra behind are [] low rise there down = tt
  cuts_or_drops some tail' extra behind are (set ∷ below) low rise there down = (
    (λ is. by_least is (least_kept set.id (opened cuts)) refl),
    cuts_or_drops some tail' extra behind are below set.id rise.1
        (λ it higher found. let low' = rise.0 in among_above k set (below ++ []) it higher (there it (omega arith) found))
        (λ P all. valid_above k P set (below ++ []) (stands k set) refl (down P all)),
  )
    where
      by_least : stands k set ≡ true → (least : Option ℕ) → least_kept set.id (opened cuts) ≡ least → (cut_to (lesser (kept_by set.id (valid k (below ++ []))) (least_kept set.id (opened cuts))) set.records ≡ cut_to (kept_by set.id (valid k (below ++ []))) set.records) ⊎ ((least_kept set.id (opened cuts) ≡ Some 0) × ((ahead : List Placed) (it : Placed) (after : List Placed) → records_of k old ≡ ahead ++ it ∷ (after ++ records_of k (below ++ [])) → it.set ≡ set.id → IsCutCopied ahead it (after ++ records_of k (below ++ []))))
      by_least is None none = inl (ap (λ o. cut_to (lesser (kept_by set.id (valid k (below ++ []))) o) set.records) none ∙ ap (λ o. cut_to o set.records) (lesser_none (kept_by set.id (valid k (below ++ [])))))
      by_least is (Some n) at =
          let kind = all_among (IsOpeningCut k uploads old cuts) cuts (Cut set.id n) each (cut_among cuts set.id n (least_is_there set.id n (opened cuts) at)) in
          elim (cut_or_drop set (below ++ []) low n rise.0 there down is at kind) [
            | inl same ↦ inl (ap (λ o. cut_to (lesser (kept_by set.id (valid k (below ++ []))) o) set.records) at ∙ same)
            | inr drops ↦ inr (at ∙ ap Some drops.0, drops.1)
          ]

module _ (k : ℕ) (uploads : List ℕ) (cuts : List Record) (old mid : List ReadSet) (some : 0 < k) (opens : OpensWithCuts k uploads cuts old mid) where
  abbrev pub top : ReadSet
  top = opens.opens.top

  top_stands : stands k top ≡ true
  top_stands = and_from _ _ (le-leb k top.carriers opens.opens.carriers)
      (ap (list_any is_ready) opens.opens.records ∙ list_any-append is_ready cuts (Ready ∷ []) ∙ or-true (list_any is_ready cuts))

  abbrev pub extra : List Placed
  extra = placed_from top.id 0 top.records

  pub behind : records_of k (top ∷ []) ≡ extra
  behind = read_highest k top [] top_stands tt

  pub are : items_of extra ≡ opened cuts
  are = items_placed top.id 0 top.records ∙ opens.opens.records

  abbrev pub was : old ≡ old ++ []
  was = sym (append-nil old)

  pub then : ReadThen k uploads old (opened cuts) (IsCutCopied k uploads cuts old opens.lower opens.each) (λ item. ⊥) (cuts_stand_in k uploads cuts old opens.lower opens.each) some [] (top ∷ []) extra behind are [] (old ++ []) (old ++ top ∷ [])
  then = read_then k uploads old (opened cuts) (IsCutCopied k uploads cuts old opens.lower opens.each) (λ item. ⊥) (cuts_stand_in k uploads cuts old opens.lower opens.each) some [] (top ∷ []) extra behind are old []
      (ap (records_of k) was) (λ other has. subst (λ sets. HasCarrier sets other) (sym was) has)
      (cuts_or_drops k uploads cuts old opens.lower opens.each some (top ∷ []) extra behind are old 0 (subst (λ sets. RiseAbove 0 sets) was opens.rising)
      (λ it higher found. subst (λ sets. Among it (records_of k sets)) was found) (λ P all. subst (λ sets. AllByRecursion P (valid k sets)) was all))

  pub thinned : Thinned (IsCutCopied k uploads cuts old opens.lower opens.each) [] (records_of k old) then.kept
  thinned = subst (λ sets. Thinned (IsCutCopied k uploads cuts old opens.lower opens.each) [] (records_of k sets) then.kept) (sym was) then.thinned

  keeps : KeepsWanted uploads (items_of (records_of k old)) (items_of then.kept)
  keeps = record {
    no_more = λ item found. no_more item thinned found;
    fewer = λ test. fewer_thin test thinned;
    wanted = λ item wanted found. ⊎_elim (λ still. still) (λ other. absurd other)
        (wanted_stays k uploads old (opened cuts) (IsCutCopied k uploads cuts old opens.lower opens.each) (λ item. ⊥) (cuts_stand_in k uploads cuts old opens.lower opens.each) item wanted (λ copy none is. absurd (omega arith)) thinned found);
    parts = λ upload part wanted. part_stays k uploads old (opened cuts) (IsCutCopied k uploads cuts old opens.lower opens.each) (λ item. ⊥) (cuts_stand_in k uploads cuts old opens.lower opens.each) upload part wanted (λ payload other. other) (λ other none. absurd (omega arith)) thinned;
    one = λ name stamp one other found also is as_well. opens.notes name stamp one other (contains_from_among _ _ found) (contains_from_among _ _ also) is as_well;
  }

  -- Heads, cuts and ready records say nothing.
  silent : {X : Type 0} (f : Record → Option X) → f Head ≡ None → f Ready ≡ None → ((target kept : ℕ) → f (Cut target kept) ≡ None) → (item : Record) → Among item (opened cuts) → f item ≡ None
  silent f head ready cut item (inl is) = ap f (sym is) ∙ head
  silent f head ready cut item (inr later) = elim (among_joined cuts (Ready ∷ []) item later) [
    | inl one ↦ let it = all_among (IsOpeningCut k uploads old cuts) cuts item opens.each one in ap f it.2 ∙ cut it.0 it.1
    | inr last ↦ ⊎_elim (λ is. ap f (sym is) ∙ ready) (λ none. absurd none) last
  ]

  value_then : (name : List ℕ) → value_in k mid name ≡ value_in k old name
  value_then name =
      let read : items_of (records_of k mid) ≡ items_of then.kept ++ opened cuts = ap (λ sets. items_of (records_of k sets)) opens.opens.is ∙ ap items_of then.read ∙ items_joined then.kept extra ∙ ap (λ r. items_of then.kept ++ r) are in
      ap (λ r. value_of r name) read
      ∙ value_behind (items_of then.kept) (opened cuts) name
      (newest_before name (items_of then.kept) (opened cuts) (no_notes name (opened cuts) (silent (note_stamp name) refl refl (λ target kept. refl))))
      (λ own stamp upload parts bytes is. same_parts_before (items_of then.kept) (opened cuts) upload (λ part. no_parts upload part (opened cuts) (silent (payload_of upload part) refl refl (λ target kept. refl))))
      ∙ value_stays uploads (items_of (records_of k old)) (items_of then.kept) keeps name

  reads_then : ReadsTheSame k old mid
  reads_then = record { map = same_values_same_map k old mid value_then; value = value_then }

  -- each cut at its place
  cut_there : (target kept : ℕ) → Contains cuts (Cut target kept) → (it : Placed) × Among it (records_of k (top ∷ [])) × (it.item ≡ Cut target kept)
  cut_there target kept found =
      let it = item_among extra (Cut target kept) (subst (λ items. Among (Cut target kept) items) (sym are) (inr (among_first cuts (Ready ∷ []) (Cut target kept) (among_from_contains cuts (Cut target kept) found)))) in
      (it.0, subst (λ r. Among it.0 r) (sym behind) it.1, it.2)

  -- So of a set that is the same as far as it is cut, what is kept is the same.
  same_to_cuts : (below new : List ReadSet) → AllZip (λ set set'. (set' ≡ set) ⊎ IsSameToCut k cuts set set') below new → AreSameWhereKept k (below ++ top ∷ []) (new ++ top ∷ [])
  same_to_cuts [] [] same = (inl refl, tt)
  same_to_cuts [] (set' ∷ new) same = absurd same
  same_to_cuts (set ∷ below) [] same = absurd same
  same_to_cuts (set ∷ below) (set' ∷ new) same = (
    elim same.0 [
      | inl equal ↦ inl equal
      | inr it ↦
          let cut = cut_there set.id it.kept it.cut in
          let kept = kept_below k set.id it.kept below (top ∷ []) cut.0 cut.2 cut.1 in
          inr (record {
            id = it.id;
            kept = kept.0;
            is = kept.1;
            first = sym (take-take kept.0 it.kept set'.records kept.2) ∙ ap (take kept.0) it.first ∙ take-take kept.0 it.kept set.records kept.2;
            stand = ⊎_elim (λ alike. inl alike) (λ none. inr (let low = kept.2 in omega arith)) it.stand;
          })
    ],
    same_to_cuts below new same.1,
  )

pub opening_changes_nothing : OpeningChangesNothing
opening_changes_nothing k uploads cuts old new some opens = reads_then k uploads cuts old new some opens

pub opening_fixes_what_was_read : OpeningFixesWhatWasRead
opening_fixes_what_was_read k uploads cuts old old' mid new some opens same is =
    let first = reads_then k uploads cuts old mid some opens in
    let kept = same_to_cuts k uploads cuts old mid some opens old old' same in
    let read : records_of k new ≡ records_of k mid = ap (records_of k) is ∙ same_where_kept k (old ++ opens.opens.top ∷ []) (old' ++ opens.opens.top ∷ []) kept ∙ ap (records_of k) (sym opens.opens.is) in
    let value : (name : List ℕ) → value_in k new name ≡ value_in k old name = (λ name. ap (λ r. value_of (items_of r) name) read ∙ first.value name) in
    record { map = same_values_same_map k old new value; value = value }
