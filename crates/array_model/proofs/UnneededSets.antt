-- Why unneeded sets may go.
--
-- Go through the sets from the highest down, before and after the loss. A set that stands afterwards stood before, and of its
-- records as many are valid as the valid cuts of higher sets keep at the least. What goes are records of sets that stand no
-- more, and none of them was needed. If one was a cut of a set that has a carrier, a later valid cut keeps as few, or it had
-- been needed. So the least stays, each set that still stands is cut where it was cut, whatever is read behind, and what is
-- valid afterwards is what was valid, without some records that weren't needed.
-- Of each record that was wanted the first copy was needed, so it is still there. So the newest note of a name stays the
-- newest: another could only have the same stamp, and then it is an equal note. The first copies of its parts stay the first.
-- And a snapshot that is complete now was complete, while the newest that was complete still is. So nothing comes to be needed.
use Rattle.std.proofs.Common.{◌≡◌, ℕ, ◌<◌, ◌≤◌, Bool, true, false, List, [], ◌∷◌, ◌++◌, Option, inl, inr, ⊎_elim, refl, sym, ap, ◌∙◌, subst, subst₂, true≢false, append_assoc, arith}
use Rattle.std.specs.List.{AllZip, AllByRecursion}
use Rattle.array_model.specs.Sets.{ReadSet, Placed, stands, cut_to, kept_by, placed_from, valid, records_of, least_kept, HasCarrier}
use Rattle.array_model.specs.Map.{items_of, value_in}
use Rattle.array_model.specs.Need.{IsNeeded, IsNeededSet}
use Rattle.array_model.specs.SetLaws.{LosesCarriers, LosesUnneeded, NotesAreOne, SaysTheSame, AreEnough, UnneededSetsMayGo, LossesFollow, FirstNeedIsEnough, UnneededKeepCuts}
use Rattle.array_model.proofs.Sets.{lesser_none, kept_least, cut_records, read_standing, read_fallen, placed_in, standing_carriers, stands_with}
use Rattle.array_model.proofs.Thinned.{Thinned, Counts, StandsIn, nothing, all_stay, all_go, least_stays, no_more, wanted_stays, part_stays, fewer_thin, among_was, StoodAt, stood, among_items, item_among}
use Rattle.array_model.proofs.Records.{Among, contains_from_among, among_from_contains, least_at_most, least_is_there}
use Rattle.array_model.proofs.Notes.{KeepsWanted, value_stays}
use Rattle.array_model.proofs.Snapshots.{wanted_was}
use Rattle.array_model.proofs.MapLaws.{same_values_same_map}

-- what goes isn't needed
abbrev pub IsUnneeded : ℕ → List ℕ → List ReadSet → List Placed → Placed → List Placed → Type 0
IsUnneeded k uploads sets before it after = Counts k uploads sets before it after → ⊥

abbrev pub Thin : ℕ → List ℕ → List ReadSet → List Placed → List Placed → List Placed → Type 0
Thin k uploads sets = Thinned (IsUnneeded k uploads sets)

-- So nothing has to stand in for it.
nothing_stands_in : (k : ℕ) (uploads : List ℕ) (sets : List ReadSet) → StandsIn k uploads sets [] (IsUnneeded k uploads sets) (λ item. ⊥)
nothing_stands_in k uploads sets = record {
  wanted = λ before it after unneeded wanted none. unneeded (inl (wanted, none));
  cut = λ before it after unneeded last. absurd (unneeded (inr last));
}

-- A set loses carriers. While it has k of them it stands as it stood, and has as many records as the sets above it keep:
-- what is read behind them doesn't matter.
pub record Loses (k : ℕ) (above : List ReadSet) (old new : ReadSet) : Type 0 where
  pub id : new.id ≡ old.id
  pub carriers : new.carriers ≤ old.carriers
  pub stays : k ≤ new.carriers → stands k old ≡ true → stands k new ≡ true
  pub stood : stands k new ≡ true → stands k old ≡ true
  pub kept : stands k new ≡ true → cut_to (kept_by old.id (valid k above)) new.records ≡ cut_to (kept_by old.id (valid k above)) old.records

abbrev pub AllLose : ℕ → List ReadSet → List ReadSet → Type 0
AllLose k [] [] = Unit {0}
AllLose k [] (set' ∷ new) = ⊥
AllLose k (set ∷ old) [] = ⊥
AllLose k (set ∷ old) (set' ∷ new) = Loses k old set set' × AllLose k old new

-- So does one of which all records stay.
loses_carriers : (k : ℕ) (above : List ReadSet) (old new : ReadSet) → LosesCarriers k old new → Loses k above old new
loses_carriers k above old new fewer = record {
  id = fewer.id;
  carriers = fewer.carriers;
  stays = λ enough was. stands_with k old new (fewer.records enough) was enough;
  stood = λ still. let many = standing_carriers k new still in let few = fewer.carriers in stands_with k new old (sym (fewer.records many)) still (omega arith);
  kept = λ still. ap (cut_to (kept_by old.id (valid k above))) (fewer.records (standing_carriers k new still));
}

all_lose_carriers : (k : ℕ) (old new : List ReadSet) → AllZip (LosesCarriers k) old new → AllLose k old new
all_lose_carriers k [] [] fewer = tt
all_lose_carriers k [] (set' ∷ new) fewer = fewer
all_lose_carriers k (set ∷ old) [] fewer = fewer
all_lose_carriers k (set ∷ old) (set' ∷ new) fewer = (loses_carriers k old set set' fewer.0, all_lose_carriers k old new fewer.1)

module _ (k : ℕ) (uploads : List ℕ) (all : List ReadSet) where
  -- The least that is kept of a set with a carrier stays.
  least_the_same : (target : ℕ) → HasCarrier all target → {before old new : List Placed} → Thin k uploads all before old new → least_kept target (items_of new) ≡ least_kept target (items_of old)
  least_the_same target there {old = old} {new = new} thin =
      sym (lesser_none (least_kept target (items_of new)))
      ∙ least_stays k uploads all [] (IsUnneeded k uploads all) (λ item. ⊥) (nothing_stands_in k uploads all) target there thin
      ∙ lesser_none (least_kept target (items_of old))

  kept_the_same : (target : ℕ) (old new : List ReadSet) (before : List Placed) → HasCarrier all target → Thin k uploads all before (records_of k old) (records_of k new) → kept_by target (valid k new) ≡ kept_by target (valid k old)
  kept_the_same target old new before there thin = kept_least target (valid k new) ∙ least_the_same target there thin ∙ sym (kept_least target (valid k old))

  -- A set that stands before and after is cut to the same number, since the sets above keep the least of it.
  same_cut : (set set' : ReadSet) (old new : List ReadSet) (before : List Placed) → Loses k old set set' → stands k set' ≡ true → HasCarrier all set.id → Thin k uploads all before (records_of k old) (records_of k new) → cut_records k set' new ≡ cut_records k set old
  same_cut set set' old new before loses still there rest =
      ap (λ (id : ℕ). placed_from id 0 (cut_to (kept_by id (valid k new)) set'.records)) loses.id
      ∙ ap (λ (n : Option ℕ). placed_from set.id 0 (cut_to n set'.records)) (kept_the_same set.id old new before there rest)
      ∙ ap (placed_from set.id 0) (loses.kept still)

  -- One set more, below those for which it holds.
  one_more : 0 < k → (set set' : ReadSet) (old new : List ReadSet) (before : List Placed) → Loses k old set set' → (IsNeededSet k uploads all set'.id → k ≤ set'.carriers) → (0 < set.carriers → HasCarrier all set.id) → records_of k all ≡ before ++ records_of k (set ∷ old) → ((ahead : List Placed) → records_of k all ≡ ahead ++ records_of k old → Thin k uploads all ahead (records_of k old) (records_of k new)) → (b b' : Bool) → stands k set ≡ b → stands k set' ≡ b' → Thin k uploads all before (records_of k (set ∷ old)) (records_of k (set' ∷ new))
  one_more some set set' old new before loses enough there is again true true was still =
      let mine = cut_records k set old in
      let was_read = read_standing k set old was in
      let rest = again (before ++ mine) (is ∙ ap (λ r. before ++ r) was_read ∙ sym (append_assoc before mine (records_of k old))) in
      let k_carriers = standing_carriers k set was in
      let same = same_cut set set' old new (before ++ mine) loses still (there (omega arith)) rest in
      subst₂ (λ o n. Thin k uploads all before o n) (sym was_read) (sym (read_standing k set' new still ∙ ap (λ m. m ++ records_of k new) same))
      (all_stay mine before (records_of k old) (records_of k new) rest)
  one_more some set set' old new before loses enough there is again true false was falls =
      let mine = cut_records k set old in
      let was_read = read_standing k set old was in
      let is' : records_of k all ≡ before ++ (mine ++ records_of k old) = is ∙ ap (λ r. before ++ r) was_read in
      let unneeded : IsNeededSet k uploads all set.id → ⊥ = (λ needed.
      let still = loses.stays (enough (subst (λ id. IsNeededSet k uploads all id) (sym loses.id) needed)) was in
      true≢false (sym still ∙ falls)) in
      subst₂ (λ o n. Thin k uploads all before o n) (sym was_read) (sym (read_fallen k set' new falls))
      (all_go (records_of k all) mine before (records_of k old) (records_of k new) set.id (placed_in set.id 0 (cut_to (kept_by set.id (valid k old)) set.records))
      (λ ahead it behind at own counts. unneeded (it, record { before = ahead; after = behind ++ records_of k old; valid = at; why = counts }, own)) is' (again (before ++ mine) (is' ∙ sym (append_assoc before mine (records_of k old)))))
  one_more some set set' old new before loses enough there is again false true fell still = absurd (true≢false (sym (loses.stood still) ∙ fell))
  one_more some set set' old new before loses enough there is again false false fell falls =
      subst₂ (λ o n. Thin k uploads all before o n) (sym (read_fallen k set old fell)) (sym (read_fallen k set' new falls))
      (again before (is ∙ ap (λ r. before ++ r) (read_fallen k set old fell)))

  thin : 0 < k → (old new : List ReadSet) (before : List Placed) → records_of k all ≡ before ++ records_of k old → ((id : ℕ) → HasCarrier old id → HasCarrier all id) → AllLose k old new → AllByRecursion (λ set. IsNeededSet k uploads all set.id → k ≤ set.carriers) new → Thin k uploads all before (records_of k old) (records_of k new)
  thin some [] [] before is there lose enough = nothing
  thin some [] (set' ∷ new) before is there lose enough = absurd lose
  thin some (set ∷ old) [] before is there lose enough = absurd lose
  thin some (set ∷ old) (set' ∷ new) before is there lose enough =
      one_more some set set' old new before lose.0 enough.0 (λ has. there set.id (inl (refl, has))) is
      (λ ahead is'. thin some old new ahead is' (λ id has. there id (inr has)) lose.1 enough.1)
      (stands k set) (stands k set') refl refl

-- A set with a carrier had one.
has_carrier_was : (k : ℕ) (old new : List ReadSet) → AllLose k old new → (id : ℕ) → HasCarrier new id → HasCarrier old id
has_carrier_was k [] [] lose id has = has
has_carrier_was k [] (set' ∷ new) lose id has = absurd lose
has_carrier_was k (set ∷ old) [] lose id has = absurd has
has_carrier_was k (set ∷ old) (set' ∷ new) lose id (inl here) = let less = lose.0.carriers in let some = here.1 in inl (sym lose.0.id ∙ here.0, omega arith)
has_carrier_was k (set ∷ old) (set' ∷ new) lose id (inr later) = inr (has_carrier_was k old new lose.1 id later)

-- Of a set with a carrier no more and no fewer records are kept.
pub kept_stays : (k : ℕ) (uploads : List ℕ) (old new : List ReadSet) → 0 < k → AllLose k old new → AreEnough k uploads old new → (target : ℕ) → HasCarrier old target → kept_by target (valid k new) ≡ kept_by target (valid k old)
kept_stays k uploads old new some lose enough target there = kept_the_same k uploads old target old new [] there (thin k uploads old some old new [] refl (λ id has. has) lose enough)

pub unneeded_keep_cuts : UnneededKeepCuts
unneeded_keep_cuts k uploads old new some loses target there =
    kept_stays k uploads old new some (all_lose_carriers k old new loses.fewer) loses.enough target there
    ∙ sym (lesser_none (kept_by target (valid k old)))

module _ (k : ℕ) (uploads : List ℕ) (old new : List ReadSet) (some : 0 < k) (notes : NotesAreOne k old) (lose : AllLose k old new) (enough : AreEnough k uploads old new) where
  whole : Thin k uploads old [] (records_of k old) (records_of k new)
  whole = thin k uploads old some old new [] refl (λ id has. has) lose enough

  stand_in : StandsIn k uploads old [] (IsUnneeded k uploads old) (λ item. ⊥)
  stand_in = nothing_stands_in k uploads old

  keeps : KeepsWanted uploads (items_of (records_of k old)) (items_of (records_of k new))
  keeps = record {
    no_more = λ item found. no_more item whole found;
    fewer = λ test. fewer_thin test whole;
    wanted = λ item wanted found. ⊎_elim (λ still. still) (λ other. absurd other) (wanted_stays k uploads old [] (IsUnneeded k uploads old) (λ item. ⊥) stand_in item wanted (λ copy among is. omega arith) whole found);
    parts = λ upload part wanted. part_stays k uploads old [] (IsUnneeded k uploads old) (λ item. ⊥) stand_in upload part wanted (λ payload other. other) (λ other among. absurd (omega arith)) whole;
    one = λ name stamp one other found also is as_well. notes name stamp one other (contains_from_among _ _ found) (contains_from_among _ _ also) is as_well;
  }

  -- What is needed was needed, at its place: a copy that stood before it would still stand there, and so would a later cut
  -- that keeps as few.
  needed_was : (it : Placed) → IsNeeded k uploads new it → IsNeeded k uploads old it
  needed_was it needed = record { before = at.earlier; after = at.later; valid = at.place; why = why needed.why }
    where
      at : StoodAt k uploads old [] (IsUnneeded k uploads old) (λ item. ⊥) stand_in [] (records_of k old) it needed.before needed.after
      at = stood k uploads old [] (IsUnneeded k uploads old) (λ item. ⊥) stand_in it needed.before needed.after whole needed.valid

      why : Counts k uploads new needed.before it needed.after → Counts k uploads old at.earlier it at.later
      why (inl wanted) =
          let was = wanted_was uploads (items_of (records_of k old)) (items_of (records_of k new)) keeps it.item wanted.0 in
          inl (
            was,
            λ copy found is.
                let ahead : Among it.item (items_of needed.before) = ⊎_elim (λ still. still) (λ other. absurd other) (at.copies it.item was (λ other none same. omega arith) (among_items at.earlier copy it.item (among_from_contains at.earlier copy found) is)) in
                let still = item_among needed.before it.item ahead in
                wanted.1 still.0 (contains_from_among needed.before still.0 still.1) still.2,
          )
      why (inr last) =
          let has = has_carrier_was k old new lose last.0 last.3 in
          inr (
            last.0,
            last.1,
            last.2,
            has,
            λ later found cuts.
                let least = least_at_most last.0 cuts.0 (items_of at.later) (among_items at.later later _ (among_from_contains at.later later found) cuts.2) in
                let there = item_among needed.after _ (least_is_there last.0 least.0 (items_of needed.after) (sym (lesser_none (least_kept last.0 (items_of needed.after))) ∙ at.least last.0 has ∙ lesser_none (least_kept last.0 (items_of at.later)) ∙ least.1)) in
                let low = least.2 in let high = cuts.1 in
                last.4 there.0 (contains_from_among needed.after there.0 there.1) (least.0, omega arith, there.2),
          )

  pub says_the_same : SaysTheSame k uploads old new
  says_the_same =
      let same : (name : List ℕ) → value_in k new name ≡ value_in k old name = (λ name. value_stays uploads (items_of (records_of k old)) (items_of (records_of k new)) keeps name) in
      record {
        reads = record { map = same_values_same_map k old new same; value = same };
        valid = λ it found. contains_from_among (records_of k old) it (among_was it whole (among_from_contains (records_of k new) it found));
        needed = needed_was;
        notes = λ name stamp one other found also is as_well. keeps.one name stamp one other (keeps.no_more one (among_from_contains _ one found)) (keeps.no_more other (among_from_contains _ other also)) is as_well;
      }

pub unneeded_sets_may_go : UnneededSetsMayGo
unneeded_sets_may_go k uploads old new some notes loses = says_the_same k uploads old new some notes (all_lose_carriers k old new loses.fewer) loses.enough

-- Losses add up.
fewer_still : (k : ℕ) (old mid new : List ReadSet) → AllZip (LosesCarriers k) old mid → AllZip (LosesCarriers k) mid new → AllZip (LosesCarriers k) old new
fewer_still k [] [] [] one other = tt
fewer_still k [] [] (set'' ∷ new) one other = absurd other
fewer_still k [] (set' ∷ mid) new one other = absurd one
fewer_still k (set ∷ old) [] new one other = absurd one
fewer_still k (set ∷ old) (set' ∷ mid) [] one other = absurd other
fewer_still k (set ∷ old) (set' ∷ mid) (set'' ∷ new) one other =
    let some = one.0.carriers in
    let more = other.0.carriers in
    (record { id = other.0.id ∙ one.0.id; records = λ enough. other.0.records enough ∙ one.0.records (omega arith); carriers = omega arith }, fewer_still k old mid new one.1 other.1)

pub losses_follow : LossesFollow
losses_follow k uploads old mid new some notes one other =
    let first = unneeded_sets_may_go k uploads old mid some notes one in
    let then = unneeded_sets_may_go k uploads mid new some first.notes other in
    record {
      reads = record { map = then.reads.map ∙ first.reads.map; value = λ name. then.reads.value name ∙ first.reads.value name };
      valid = λ it found. first.valid it (then.valid it found);
      needed = λ it needed. first.needed it (then.needed it needed);
      notes = then.notes;
    }

-- What has enough carriers in the end had enough before.
enough_before : (k : ℕ) (uploads : List ℕ) (all old new : List ReadSet) → AllZip (LosesCarriers k) old new → AreEnough k uploads all new → AreEnough k uploads all old
enough_before k uploads all [] [] fewer enough = tt
enough_before k uploads all [] (set' ∷ new) fewer enough = absurd fewer
enough_before k uploads all (set ∷ old) [] fewer enough = absurd fewer
enough_before k uploads all (set ∷ old) (set' ∷ new) fewer enough = (
  (λ needed.
      let many = enough.0 (subst (λ id. IsNeededSet k uploads all id) (sym fewer.0.id) needed) in
      let less = fewer.0.carriers in
      omega arith),
  enough_before k uploads all old new fewer.1 enough.1,
)

enough_after : (k : ℕ) (uploads : List ℕ) (old mid new : List ReadSet) → ((id : ℕ) → IsNeededSet k uploads mid id → IsNeededSet k uploads old id) → AreEnough k uploads old new → AreEnough k uploads mid new
enough_after k uploads old mid [] was enough = tt
enough_after k uploads old mid (set ∷ new) was enough = ((λ needed. enough.0 (was set.id needed)), enough_after k uploads old mid new was enough.1)

pub first_need_is_enough : FirstNeedIsEnough
first_need_is_enough k uploads old mid new some notes one other enough =
    let first : LosesUnneeded k uploads old mid = record { fewer = one; enough = enough_before k uploads old mid new other enough } in
    let same = unneeded_sets_may_go k uploads old mid some notes first in
    (first, record { fewer = other; enough = enough_after k uploads old mid new (λ id needed. (needed.0, same.needed needed.0 needed.1, needed.2)) enough })
