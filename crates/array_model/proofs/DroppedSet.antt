-- A dropped set is gone.
use Rattle.std.proofs.Common.{◌≡◌, ℕ, ◌<◌, ◌≤◌, cond, List, [], ◌∷◌, ◌++◌, Option, Some, None, inl, inr, ⊎_elim, refl, sym, ap, ◌∙◌, subst, le_refl, ne_eqb, eq-eqb, arith}
use Rattle.std.proofs.lemmas.Bool.{cases_eq}
use Rattle.array_model.specs.Record.{Record, Part, Cut}
use Rattle.array_model.specs.Sets.{ReadSet, Placed, RiseAbove, cut_to, kept_by, lesser, valid, records_of, HasCarrier}
use Rattle.array_model.specs.Map.{items_of, part_of, value_of, value_in}
use Rattle.array_model.specs.Need.{IsWanted, IsLastCut}
use Rattle.array_model.specs.SetLaws.{DropsSet, DroppedSetIsGone, DroppedSetMayGo, DroppedSetIsEmpty, AreSameBut, HasHigherCopies, ReadsTheSame}
use Rattle.array_model.proofs.Records.{Among, among_from_contains, contains_from_among, among_rest}
use Rattle.array_model.proofs.Objects.{part_has_first, first_is_there}
use Rattle.array_model.proofs.MapLaws.{same_values_same_map}
use Rattle.array_model.proofs.Thinned.{Thinned, StandsIn, NoCopy, nothing, stays, goes, no_more, fewer_thin, wanted_stays, among_items, item_among}
use Rattle.array_model.proofs.Notes.{KeepsWanted, value_stays}
use Rattle.array_model.proofs.Sets.{lesser_none, items_joined}
use Rattle.array_model.proofs.Appended.{extra_of, items_extra, read_top}
use Rattle.array_model.proofs.Behind.{value_behind, newest_before, same_parts_before}
use Rattle.array_model.proofs.Copies.{among_above, among_other, among_past_dropped}
use Rattle.array_model.proofs.CutOff.{AreSameWhereKept, same_where_kept, kept_below}
use Rattle.array_model.proofs.Dropped.{CutsOrDrops, ReadThen, read_then}

module _ (k : ℕ) (uploads : List ℕ) (id : ℕ) (old : List ReadSet) where
  -- a valid record of another set is equal
  abbrev pub IsElsewhere : Record → Type 0
  IsElsewhere item = (copy : Placed) × Among copy (records_of k old) × (copy.set ≡ id → ⊥) × (copy.item ≡ item)

  -- What goes is of the dropped set. If it is needed, it has a copy elsewhere, and is no cut.
  abbrev pub IsCopied : List Placed → Placed → List Placed → Type 0
  IsCopied before it after = (it.set ≡ id) × (IsWanted uploads (items_of (records_of k old)) it.item → NoCopy before it.item → IsElsewhere it.item) × (IsLastCut old after it.item → ⊥)

  pub copies_stand_in : StandsIn k uploads old (Cut id 0 ∷ []) IsCopied IsElsewhere
  copies_stand_in = record {
    wanted = λ before it after gone wanted none. gone.1 wanted none;
    cut = λ before it after gone last. absurd (gone.2 last);
  }

  -- The records of other sets stay.
  others_stay : {before list new : List Placed} (it : Placed) → (it.set ≡ id → ⊥) → Thinned IsCopied before list new → Among it list → Among it new
  others_stay it other nothing found = found
  others_stay it other (stays here rest) (inl is) = inl is
  others_stay it other (stays here rest) (inr later) = inr (others_stay it other rest later)
  others_stay it other (goes here gone rest) (inl is) = absurd (other (ap (λ (r : Placed). r.set) (sym is) ∙ gone.0))
  others_stay it other (goes here gone rest) (inr later) = others_stay it other rest later

  -- A needed record of the set has a copy elsewhere, and is no cut: a copy of a cut in a higher set would stand in for it.
  may_go : HasHigherCopies k uploads old id → (set : ReadSet) (above : List ReadSet) (low : ℕ) → id ≡ set.id → low < set.id → ((it : Placed) → low < it.set → Among it (records_of k old) → Among it (records_of k (set ∷ above))) → (ahead : List Placed) (it : Placed) (after : List Placed) → records_of k old ≡ ahead ++ it ∷ (after ++ records_of k above) → it.set ≡ set.id → IsCopied ahead it (after ++ records_of k above)
  may_go copies set above low same higher there ahead it after at own =
      let mine : it.set ≡ id = own ∙ sym same in (
        mine,
        (λ wanted none.
            let copy = copies it (record { before = ahead; after = after ++ records_of k above; valid = at; why = inl (wanted, none) }) mine in
            let apart = copy.2 in
            (copy.0, among_from_contains (records_of k old) copy.0 copy.1, (λ e. omega arith), copy.3)),
        (λ last.
            let copy = copies it (record { before = ahead; after = after ++ records_of k above; valid = at; why = inr last }) mine in
            let over = copy.2 in
            let found = there copy.0 (omega arith) (among_from_contains (records_of k old) copy.0 copy.1) in
            let later = among_above k set above copy.0 (omega arith) found in
            last.4 copy.0 (contains_from_among (after ++ records_of k above) copy.0 (among_rest after (records_of k above) copy.0 later)) (last.1, le_refl _, copy.3 ∙ last.2)),
      )

  -- A set is dropped where it has the number, and else nothing of it is cut off.
  cuts_or_drops : HasHigherCopies k uploads old id → (some : 0 < k) (tail tail' : List ReadSet) (extra : List Placed) (behind : records_of k tail' ≡ records_of k tail ++ extra) (are : items_of extra ≡ Cut id 0 ∷ []) (below : List ReadSet) (low : ℕ) → RiseAbove low (below ++ tail) → ((it : Placed) → low < it.set → Among it (records_of k old) → Among it (records_of k (below ++ tail))) → CutsOrDrops k uploads old (Cut id 0 ∷ []) IsCopied IsElsewhere copies_stand_in some tail tail' extra behind are below
  cuts_or_drops copies some tail tail' extra behind are [] low rise there = tt
  cuts_or_drops copies some tail tail' extra behind are (set ∷ below) low rise there = (
    (λ is. elim (cases_eq id set.id) [
      | inl same ↦ inr (ap (λ b. lesser (cond b (Some 0) None) None) (eq-eqb id set.id same), may_go copies set (below ++ tail) low same rise.0 there)
      | inr differs ↦ inl (ap (λ o. cut_to o set.records) (ap (λ b. lesser (kept_by set.id (valid k (below ++ tail))) (lesser (cond b (Some 0) None) None)) (ne_eqb id set.id differs) ∙ lesser_none (kept_by set.id (valid k (below ++ tail)))))
    ]),
    cuts_or_drops copies some tail tail' extra behind are below set.id rise.1 (λ it higher found. let low' = rise.0 in among_above k set (below ++ tail) it higher (there it (omega arith) found)),
  )

-- Where two parts with one upload and number are equal, any that stays has the first payload.
pub parts_are_same : (old kept : List Record) (upload part : ℕ) → ((item : Record) → Among item kept → Among item old) → ((payload : List ℕ) → Among (Part upload part payload) old → Among (Part upload part payload) kept) → ((one other : List ℕ) → Among (Part upload part one) old → Among (Part upload part other) old → one ≡ other) → part_of upload part kept ≡ part_of upload part old
parts_are_same old kept upload part no_more stay one = firsts (part_of upload part old) refl (part_of upload part kept) refl
  where
    firsts : (a : Option (List ℕ)) → part_of upload part old ≡ a → (b : Option (List ℕ)) → part_of upload part kept ≡ b → part_of upload part kept ≡ part_of upload part old
    firsts None none None none' = none' ∙ sym none
    firsts None none (Some y) is' =
        let first = part_has_first upload part y old (no_more _ (first_is_there upload part y kept is')) in
        let e = first.1 in
        absurd (cc)
    firsts (Some x) is b is' =
        let there = first_is_there upload part x old is in
        let first = part_has_first upload part x kept (stay x there) in
        first.1 ∙ ap Some (one first.0 x (no_more _ (first_is_there upload part first.0 kept first.1)) there) ∙ sym is

module _ (k : ℕ) (uploads : List ℕ) (id : ℕ) (old mid : List ReadSet) (some : 0 < k) (drops : DropsSet k uploads id old mid) where
  abbrev pub cut_record : List Record
  cut_record = Cut id 0 ∷ []

  abbrev pub tail : List ReadSet
  tail = drops.appends.top ∷ drops.appends.above

  abbrev pub top_then : ReadSet
  top_then = record drops.appends.top { records = drops.appends.top.records ++ cut_record }

  abbrev pub tail_then : List ReadSet
  tail_then = top_then ∷ drops.appends.above

  abbrev pub extra : List Placed
  extra = extra_of drops.appends.top cut_record

  pub behind : records_of k tail_then ≡ records_of k tail ++ extra
  behind = read_top k drops.appends.top cut_record drops.appends.above drops.appends.stood drops.appends.highest

  abbrev pub was : old ≡ drops.appends.below ++ tail
  was = drops.appends.was

  pub then : ReadThen k uploads old cut_record (IsCopied k uploads id old) (IsElsewhere k uploads id old) (copies_stand_in k uploads id old) some tail tail_then extra behind (items_extra drops.appends.top cut_record) [] (drops.appends.below ++ tail) (drops.appends.below ++ tail_then)
  then = read_then k uploads old cut_record (IsCopied k uploads id old) (IsElsewhere k uploads id old) (copies_stand_in k uploads id old) some tail tail_then extra behind (items_extra drops.appends.top cut_record) drops.appends.below []
      (ap (records_of k) was) (λ other has. subst (λ sets. HasCarrier sets other) (sym was) has)
      (cuts_or_drops k uploads id old drops.copies some tail tail_then extra behind (items_extra drops.appends.top cut_record) drops.appends.below 0 (subst (λ sets. RiseAbove 0 sets) was drops.rising) (λ it higher found. subst (λ sets. Among it (records_of k sets)) was found))

  pub thinned : Thinned (IsCopied k uploads id old) [] (records_of k old) then.kept
  thinned = subst (λ sets. Thinned (IsCopied k uploads id old) [] (records_of k sets) then.kept) (sym was) then.thinned

  wanted_kept : (item : Record) → IsWanted uploads (items_of (records_of k old)) item → Among item (items_of (records_of k old)) → Among item (items_of then.kept)
  wanted_kept item wanted found =
      ⊎_elim (λ still. still)
      (λ other. among_items then.kept other.0 item (others_stay k uploads id old other.0 other.2 thinned other.1) other.3)
      (wanted_stays k uploads old cut_record (IsCopied k uploads id old) (IsElsewhere k uploads id old) (copies_stand_in k uploads id old) item wanted (λ copy none is. absurd (omega arith)) thinned found)

  keeps : KeepsWanted uploads (items_of (records_of k old)) (items_of then.kept)
  keeps = record {
    no_more = λ item found. no_more item thinned found;
    fewer = λ test. fewer_thin test thinned;
    wanted = wanted_kept;
    parts = λ upload part wanted. parts_are_same (items_of (records_of k old)) (items_of then.kept) upload part (λ item found. no_more item thinned found) (λ payload found. wanted_kept (Part upload part payload) (wanted payload) found)
        (λ one other found also. drops.parts upload part one other (contains_from_among _ _ found) (contains_from_among _ _ also));
    one = λ name stamp one other found also is as_well. drops.notes name stamp one other (contains_from_among _ _ found) (contains_from_among _ _ also) is as_well;
  }

  value_then : (name : List ℕ) → value_in k mid name ≡ value_in k old name
  value_then name =
      let read : items_of (records_of k mid) ≡ items_of then.kept ++ cut_record = ap (λ sets. items_of (records_of k sets)) drops.appends.is ∙ ap items_of then.read ∙ items_joined then.kept extra ∙ ap (λ r. items_of then.kept ++ r) (items_extra drops.appends.top cut_record) in
      ap (λ r. value_of r name) read
      ∙ value_behind (items_of then.kept) cut_record name (newest_before name (items_of then.kept) cut_record refl) (λ own stamp upload parts bytes is. same_parts_before (items_of then.kept) cut_record upload (λ part. refl))
      ∙ value_stays uploads (items_of (records_of k old)) (items_of then.kept) keeps name

  reads_then : ReadsTheSame k old mid
  reads_then = record { map = same_values_same_map k old mid value_then; value = value_then }

  -- the cut at its place
  cut_there : (it : Placed) × Among it (records_of k tail_then) × (it.item ≡ Cut id 0)
  cut_there =
      let it = item_among extra (Cut id 0) (subst (λ items. Among (Cut id 0) items) (sym (items_extra drops.appends.top cut_record)) (inl refl)) in
      (it.0, subst (λ r. Among it.0 r) (sym behind) (among_rest (records_of k tail) extra it.0 it.1), it.2)

-- What stands above a set rises from its number.
rise_tail : (below : List ReadSet) (low : ℕ) (top : ReadSet) (above : List ReadSet) → RiseAbove low (below ++ top ∷ above) → RiseAbove top.id above
rise_tail [] low top above rise = rise.1
rise_tail (set ∷ below) low top above rise = rise_tail below set.id top above rise.1

-- Sets of higher numbers are the same.
same_above : (k id low : ℕ) (sets new : List ReadSet) → id ≤ low → RiseAbove low sets → AreSameBut id sets new → AreSameWhereKept k sets new
same_above k id low [] [] higher rise same = tt
same_above k id low [] (set' ∷ new) higher rise same = absurd same
same_above k id low (set ∷ sets) [] higher rise same = absurd same
same_above k id low (set ∷ sets) (set' ∷ new) higher rise same =
    let more = rise.0 in
    (inl (same.0.1 (λ e. omega arith)), same_above k id set.id sets new (omega arith) rise.1 same.1)

-- Of the dropped set none is kept, since its cut is above it.
same_below : (k id : ℕ) (tail : List ReadSet) (it : Placed) → it.item ≡ Cut id 0 → Among it (records_of k tail) → ((new : List ReadSet) → AreSameBut id tail new → AreSameWhereKept k tail new) → (below new : List ReadSet) → AreSameBut id (below ++ tail) new → AreSameWhereKept k (below ++ tail) new
same_below k id tail it is found high [] new same = high new same
same_below k id tail it is found high (set ∷ below) [] same = absurd same
same_below k id tail it is found high (set ∷ below) (set' ∷ new) same = (
  elim (cases_eq set.id id) [
    | inl mine ↦
        let kept = kept_below k id 0 below tail it is found in
        let low = kept.2 in
        inr (record {
          id = same.0.0;
          kept = 0;
          is = ap (λ n. kept_by n (valid k (below ++ tail))) mine ∙ kept.1 ∙ ap Some (omega arith);
          first = refl;
          stand = inr refl;
        })
    | inr other ↦ inl (same.0.1 other)
  ],
  same_below k id tail it is found high below new same.1,
)

-- Among records of sets of higher numbers there is none of a lower set,
none_of_lower : (k id low : ℕ) (sets : List ReadSet) → id ≤ low → RiseAbove low sets → (it : Placed) → it.set ≡ id → Among it (records_of k sets) → ⊥
none_of_lower k id low [] higher rise it is found = found
none_of_lower k id low (set ∷ sets) higher rise it is found =
    let more = rise.0 in
    none_of_lower k id set.id sets (omega arith) rise.1 it is (among_other k set sets it (λ e. omega arith) found)

-- and with a cut to 0 above there is none of the set.
none_of_dropped : (k id : ℕ) (tail : List ReadSet) (cut : Placed) → cut.item ≡ Cut id 0 → Among cut (records_of k tail) → (it : Placed) → it.set ≡ id → (Among it (records_of k tail) → ⊥) → (below : List ReadSet) → Among it (records_of k (below ++ tail)) → ⊥
none_of_dropped k id tail cut cuts there it is none [] found = none found
none_of_dropped k id tail cut cuts there it is none (set ∷ below) found =
    none_of_dropped k id tail cut cuts there it is none below (elim (cases_eq set.id id) [
      | inl mine ↦
          let kept = kept_below k id 0 below tail cut cuts there in
          let low = kept.2 in
          among_past_dropped k set (below ++ tail) it (ap (λ n. kept_by n (valid k (below ++ tail))) mine ∙ kept.1 ∙ ap Some (omega arith)) found
      | inr other ↦ among_other k set (below ++ tail) it (λ e. other (sym e ∙ is)) found
    ])

pub dropped_set_is_gone : DroppedSetIsGone
dropped_set_is_gone k uploads id old new some drops = reads_then k uploads id old new some drops

pub dropped_set_may_go : DroppedSetMayGo
dropped_set_may_go k uploads id old mid new some drops same =
    let first = reads_then k uploads id old mid some drops in
    let top = drops.appends.top in
    let last = tail_then k uploads id old mid some drops in
    let it = cut_there k uploads id old mid some drops in
    let kept = same_below k id last it.0 it.2 it.1 (λ sets alike. same_above k id id last sets (le_refl _) (drops.lower, (rise_tail drops.appends.below 0 top drops.appends.above (subst (λ sets. RiseAbove 0 sets) drops.appends.was drops.rising))) alike)
    drops.appends.below new (subst (λ sets. AreSameBut id sets new) drops.appends.is same) in
    let read : records_of k new ≡ records_of k mid = same_where_kept k (drops.appends.below ++ last) new kept ∙ ap (records_of k) (sym drops.appends.is) in
    let value : (name : List ℕ) → value_in k new name ≡ value_in k old name = (λ name. ap (λ r. value_of (items_of r) name) read ∙ first.value name) in
    record { map = same_values_same_map k old new value; value = value }

pub dropped_set_is_empty : DroppedSetIsEmpty
dropped_set_is_empty k uploads id old new it some drops found is =
    let last = tail_then k uploads id old new some drops in
    let cut = cut_there k uploads id old new some drops in
    let rise = rise_tail drops.appends.below 0 drops.appends.top drops.appends.above (subst (λ sets. RiseAbove 0 sets) drops.appends.was drops.rising) in
    none_of_dropped k id last cut.0 cut.2 cut.1 it is (λ among. none_of_lower k id id last (le_refl _) (drops.lower, rise) it is among) drops.appends.below
    (subst (λ sets. Among it (records_of k sets)) drops.appends.is (among_from_contains (records_of k new) it found))
