-- Where drives leave with enough nothing comes to be possible.
--
-- Each possible reading of what is left is one of before, without some sets: those that keep k carriers are chosen as they are
-- chosen then, with the drives that leave aside, and the others are read as they are. What goes holds nothing that is needed in
-- that reading, since enough says so, and unneeded sets may go.
use Rattle.std.proofs.Common.{◌≡◌, ℕ, ◌<◌, ◌≤◌, Bool, true, false, cond, eqb, leb, ◌⊎◌, inl, inr, List, [], ◌∷◌, ◌++◌, length, map, Contains, refl, sym, ap, ◌∙◌, subst, le-leb, arith}
use Rattle.std.specs.Prelude.{◌&&◌, ◌||◌, not, filter}
use Rattle.std.specs.List.{AllByRecursion, filter_map, range_with_len}
use Rattle.std.proofs.lemmas.Bool.{cond-true, cond-false, cases_Bool, leb-true, leb-false, lt-leb}
use Rattle.std.proofs.lemmas.List.Elements.{filter_agree}
use Rattle.zone_bay.specs.Contents.{Shape, Contents}
use Rattle.zone_bay.specs.Images.{without_each}
use Rattle.marker_format.specs.Zone.{Array, whole_records}
use Rattle.array_model.specs.Drives.{Place, outside, is_among, is_of, head_at, first_of, present, places_on}
use Rattle.array_model.specs.Reading.{carrier_of, carriers_of, fragments_of, read_set, with_head, ids_at, read_of}
use Rattle.array_model.specs.Sets.{ReadSet, Placed, stands, valid, placed, kept_by, records_of, HasCarrier}
use Rattle.array_model.specs.Map.{items_of, map_of}
use Rattle.array_model.specs.Need.{IsNeededSet}
use Rattle.array_model.specs.Record.{Record}
use Rattle.array_model.specs.SetLaws.{AreEnough, SaysTheSame}
use Rattle.array_model.specs.Possible.{Choice, chosen, set_by, reading_by, read_by, IsPossibleMap, IsEverNeeded}
use Rattle.array_model.specs.Enough.{IsEnough}
use Rattle.array_model.specs.Kept.{AreCopies}
use Rattle.array_model.specs.RemovalLaws.{AreAlwaysCopies, ReadIsPossible, NothingNewIsPossible, NothingNewIsNeeded, CopiesStay, LeftMapWasPossible}
use Rattle.array_model.proofs.Records.{Among, all_among, among_from_contains, contains_from_among}
use Rattle.array_model.proofs.Sets.{standing_carriers}
use Rattle.array_model.proofs.Thinned.{among_items, item_among}
use Rattle.array_model.proofs.UnneededSets.{Loses, AllLose, kept_stays, says_the_same}
use Rattle.array_model.proofs.Carriers.{filter-twice, no_more_carriers, present_stay}
use Rattle.array_model.proofs.SameZones.{StillHolds, IsSame, TellsSame, all-map, staying_same, carriers-same, carriers_among, read_set-same, ids_rise}
use Rattle.array_model.proofs.Settled.{first_among}
use Rattle.array_model.proofs.SettledRecords.{all_from_among}
use Rattle.array_model.proofs.SetsRead.{read_by_head, valid_of_some, says_the_same_of}
use Rattle.array_model.proofs.Staying.{place_was, place_of, code_within}
use Rattle.array_model.proofs.Removal.{left_was_read, among_filter_map, head_by, notes_are_one, among_map}

-- ---- drives

among_both : (first more : List ℕ) (drive : ℕ) → not (is_among (first ++ more) drive) ≡ (not (is_among first drive) && not (is_among more drive))
among_both [] more drive = refl
among_both (d ∷ first) more drive = at_one (eqb d drive) (among_both first more drive)
  where
    at_one : (b : Bool) → not (is_among (first ++ more) drive) ≡ (not (is_among first drive) && not (is_among more drive)) → not (b || is_among (first ++ more) drive) ≡ (not (b || is_among first drive) && not (is_among more drive))
    at_one true rest = refl
    at_one false rest = rest

pub outside_twice : (first more drives : List ℕ) → outside more (outside first drives) ≡ outside (first ++ more) drives
outside_twice first more drives =
    filter-twice (λ drive. not (is_among more drive)) (λ drive. not (is_among first drive)) drives
    ∙ sym (filter_agree (λ drive. not (is_among (first ++ more) drive)) (λ drive. not (is_among first drive) && not (is_among more drive)) (λ drive. among_both first more drive) drives)

pub outside_none : (drives : List ℕ) → outside [] drives ≡ drives
outside_none [] = refl
outside_none (drive ∷ drives) = ap (λ rest. drive ∷ rest) (outside_none drives)

-- ---- sets by their numbers

pub none_or_one : (xs : List ℕ) → (xs ≡ []) ⊎ ((x : ℕ) × Among x xs)
none_or_one [] = inl refl
none_or_one (x ∷ xs) = inr (x, inl refl)

-- a set of a list by its number
pub by_number : (read : ℕ → ReadSet) (those : List ℕ) (set : ReadSet) → Among set (map read those) → (id : ℕ) × Among id those × (read id ≡ set)
by_number read [] set found = absurd found
by_number read (id ∷ those) set (inl is) = (id, inl refl, is)
by_number read (id ∷ those) set (inr later) = let there = by_number read those set later in (there.0, inr there.1, there.2)

module _ (read : ℕ → ReadSet) (own : (id : ℕ) → (read id).id ≡ id) where
  -- A set with a carrier is one of those that are read,
  carrier_is_read : (ids : List ℕ) (id : ℕ) → HasCarrier (map read ids) id → Among id ids × (0 < (read id).carriers)
  carrier_is_read [] id has = absurd has
  carrier_is_read (other ∷ ids) id (inl here) =
      let same : other ≡ id = sym (own other) ∙ here.0 in
      (inl same, subst (λ n. 0 < (read n).carriers) same here.1)
  carrier_is_read (other ∷ ids) id (inr later) = let there = carrier_is_read ids id later in (inr there.0, there.1)

  -- and the other way round.
  pub read_has_carrier : (ids : List ℕ) (id : ℕ) → Among id ids → 0 < (read id).carriers → HasCarrier (map read ids) id
  read_has_carrier [] id found some = absurd found
  read_has_carrier (other ∷ ids) id (inl here) some = inl (own other ∙ here, subst (λ n. 0 < (read n).carriers) (sym here) some)
  read_has_carrier (other ∷ ids) id (inr later) some = inr (read_has_carrier ids id later some)

-- A set that stays as it is loses nothing.
pub same_loses : (k : ℕ) (above : List ReadSet) (set : ReadSet) → Loses k above set set
same_loses k above set = record {
  id = refl;
  carriers = omega arith;
  stays = λ enough was. was;
  stood = λ still. still;
  kept = λ still. refl;
}

-- Where nothing is read, the same is said.
nothing_says : (k : ℕ) (uploads : List ℕ) → SaysTheSame k uploads [] []
nothing_says k uploads = record {
  reads = record { map = refl; value = λ name. refl };
  valid = λ it found. found;
  needed = λ it needed. needed;
  notes = λ name stamp one other found. absurd (omega (arith, found.1));
}

-- Where all that is valid was valid, copies are copies.
pub copies_among : (k : ℕ) (old new : List ReadSet) → ((it : Placed) → Contains (records_of k new) it → Contains (records_of k old) it) → AreCopies (items_of (records_of k old)) → AreCopies (items_of (records_of k new))
copies_among k old new was copies = record {
  notes = λ stamp one other found also is as_well. copies.notes stamp one other (item_was one found) (item_was other also) is as_well;
  parts = λ upload part one other found also. copies.parts upload part one other (item_was _ found) (item_was _ also);
}
  where
    item_was : (item : Record) → Contains (items_of (records_of k new)) item → Contains (items_of (records_of k old)) item
    item_was item found =
        let there = item_among (records_of k new) item (among_from_contains (items_of (records_of k new)) item found) in
        contains_from_among (items_of (records_of k old)) item
        (among_items (records_of k old) there.0 item (among_from_contains (records_of k old) there.0 (was there.0 (contains_from_among (records_of k new) there.0 there.1))) there.2)

-- ---- a choice once the drives have left, and the same one before

module _ (array : Array) (shape : Shape) (held : Contents) (leaving : List ℕ) (choice : Choice) where
  abbrev k : ℕ
  k = array.geometry.k

  abbrev drives : List ℕ
  drives = present shape held []

  -- the drives that stay
  abbrev pub others : List ℕ
  others = outside leaving drives

  -- the numbers of the sets that are read, and of those that are read once the drives have left
  abbrev pub numbers : List ℕ
  numbers = ids_at array held (places_on shape drives)

  abbrev pub numbers_after : List ℕ
  numbers_after = ids_at array held (places_on shape others)

  -- how many carriers of a set the drives hold
  abbrev count : List ℕ → ℕ → ℕ
  count those id = length (carriers_of array held (places_on shape those) id)

  -- the drives from which a set is read by the choice, and the set
  abbrev pub chosen_after : ℕ → List ℕ
  chosen_after id = chosen array shape held others (choice id) id

  abbrev pub after : ℕ → ReadSet
  after id = set_by array shape held others choice id

  -- the choice before: the drives that leave are left aside too
  abbrev pub choice_before : Choice
  choice_before id = cond (leb k (count (outside (choice id) others) id)) (leaving ++ choice id) leaving

  abbrev pub before : ℕ → ReadSet
  before id = set_by array shape held drives choice_before id

  same_drives : (id : ℕ) → outside (choice_before id) drives ≡ chosen_after id
  same_drives id = at_one (leb k (count (outside (choice id) others) id))
    where
      at_one : (b : Bool) → outside (cond b (leaving ++ choice id) leaving) drives ≡ cond b (outside (choice id) others) others
      at_one true = sym (outside_twice leaving (choice id) drives)
      at_one false = refl

  -- Where k carriers are left to choose from, the set is read from the same drives before.
  pub same_chosen : (id : ℕ) → k ≤ (after id).carriers → chosen array shape held drives (choice_before id) id ≡ chosen_after id
  same_chosen id enough =
      ap (λ those. cond (leb k (count those id)) those drives) (same_drives id)
      ∙ cond-true (leb k (count (chosen_after id) id)) (chosen_after id) drives (le-leb k (count (chosen_after id) id) enough)

  pub same_read : (id : ℕ) → k ≤ (after id).carriers → before id ≡ after id
  same_read id enough = ap (λ those. read_set array held (places_on shape those) id) (same_chosen id enough)

  -- Where fewer are left, it is read as it is before.
  whole_before : (id : ℕ) → (after id).carriers < k → chosen array shape held drives (choice_before id) id ≡ drives
  whole_before id fewer =
      ap (λ those. cond (leb k (count those id)) those drives) (same_drives id)
      ∙ cond-false (leb k (count (chosen_after id) id)) (chosen_after id) drives (lt-leb k (count (chosen_after id) id) fewer)

  fewer_after : (id : ℕ) → (after id).carriers < k → (after id).carriers ≤ (before id).carriers
  fewer_after id fewer =
      let less : count (outside (choice_before id) drives) id ≤ count drives id = no_more_carriers array shape held drives (choice_before id) id in
      let now : (after id).carriers ≤ count drives id = subst (λ those. count those id ≤ count drives id) (same_drives id) less in
      subst (λ those. (after id).carriers ≤ count those id) (sym (whole_before id fewer)) now

  one_loses : (above : List ReadSet) (id : ℕ) → Loses k above (before id) (after id)
  one_loses above id = elim (cases_Bool (leb k (after id).carriers)) [
    | inl enough ↦ subst (λ set. Loses k above set (after id)) (sym (same_read id (leb-true k (after id).carriers enough))) (same_loses k above (after id))
    | inr fewer ↦
        let less : (after id).carriers < k = leb-false k (after id).carriers fewer in
        record {
          id = refl;
          carriers = fewer_after id less;
          stays = λ enough was. absurd (omega (arith, enough, less));
          stood = λ still. let many = standing_carriers k (after id) still in absurd (omega (arith, many, less));
          kept = λ still. let many = standing_carriers k (after id) still in absurd (omega (arith, many, less));
        }
  ]

  pub lose : (ids : List ℕ) → AllLose k (map before ids) (map after ids)
  lose [] = tt
  lose (id ∷ ids) = (one_loses (map before ids) id, lose ids)

  -- ---- what is left

  pub chosen_stay : (id : ℕ) (place : Place) → Among place (places_on shape (chosen_after id)) → Among place (places_on shape others)
  chosen_stay id place = at_one (leb k (count (outside (choice id) others) id))
    where
      at_one : (b : Bool) → Among place (places_on shape (cond b (outside (choice id) others) others)) → Among place (places_on shape others)
      at_one true found = place_was shape (choice id) others place found
      at_one false found = found

  -- A set with a carrier is read.
  carried_after : (id : ℕ) → 0 < (after id).carriers → Among id numbers_after
  carried_after id some =
      let places = places_on shape (chosen_after id) in
      let c = first_among (carriers_of array held places id) some in
      let found = among_filter_map (carrier_of array held places id) (range_with_len 0 (fragments_of array)) c.0 c.1 in
      let place = place_of array shape held leaving places id found.0 c.0 found.1 in
      read_by_head array held (places_on shape others) id c.0.place (chosen_stay id c.0.place place.1) (head_by id found.0 (head_at array held c.0.place) place.0)

  -- So the others say nothing.
  pub valid_after : 0 < k → valid k (map after numbers_after) ≡ valid k (map after numbers)
  valid_after some = valid_of_some k after 0 numbers_after numbers (ids_rise array held (places_on shape others)) (ids_rise array held (places_on shape drives)) (left_was_read array shape held leaving)
      (λ id found stood. let many = standing_carriers k (after id) stood in carried_after id (omega (arith, some, many)))

  carriers_after : (id : ℕ) → HasCarrier (map after numbers_after) id → HasCarrier (map after numbers) id
  carriers_after id has = let there = carrier_is_read after (λ id. refl) numbers_after id has in read_has_carrier after (λ id. refl) numbers id (left_was_read array shape held leaving id there.0) there.1

  -- Where k carriers are left, k are chosen.
  many_chosen : (id : ℕ) → k ≤ count others id → k ≤ (after id).carriers
  many_chosen id many = at_one (leb k (count (outside (choice id) others) id)) refl
    where
      at_one : (b : Bool) → leb k (count (outside (choice id) others) id) ≡ b → k ≤ count (cond b (outside (choice id) others) others) id
      at_one true is = leb-true k (count (outside (choice id) others) id) is
      at_one false is = many

  module _ (uploads : List ℕ) (copies : AreAlwaysCopies array shape held) (enough : IsEnough array shape uploads held leaving) where
    pub enough_after : (ids : List ℕ) → AreEnough k uploads (read_by array shape held choice_before) (map after ids)
    enough_after [] = tt
    enough_after (id ∷ ids) = ((λ needed. many_chosen id (enough id (choice_before, needed))), enough_after ids)

    says_where_some : 0 < k → SaysTheSame k uploads (read_by array shape held choice_before) (map after numbers_after)
    says_where_some some =
        says_the_same_of k uploads (map after numbers_after) (map after numbers) (ap placed (valid_after some)) carriers_after (read_by array shape held choice_before)
        (says_the_same k uploads (read_by array shape held choice_before) (map after numbers) some (notes_are_one k (read_by array shape held choice_before) (copies choice_before)) (lose numbers) (enough_after numbers))

    pub says_after : SaysTheSame k uploads (read_by array shape held choice_before) (map after numbers_after)
    says_after = elim (none_or_one numbers) [
      | inl none ↦ at_none none
      | inr one ↦ says_where_some (code_within array held (places_on shape drives) one.0 one.1).0
    ]
      where
        none_left : numbers ≡ [] → (ids : List ℕ) → ((id : ℕ) → Among id ids → Among id numbers) → map after ids ≡ []
        none_left none [] were = refl
        none_left none (id ∷ ids) were = absurd (subst (λ those. Among id those) none (were id (inl refl)))

        at_none : numbers ≡ [] → SaysTheSame k uploads (read_by array shape held choice_before) (map after numbers_after)
        at_none none =
            subst (λ sets. SaysTheSame k uploads sets (map after numbers_after)) (sym (ap (map before) none))
            (subst (SaysTheSame k uploads []) (sym (none_left none numbers_after (left_was_read array shape held leaving))) (nothing_says k uploads))

  -- ---- what is read where the devices left

  abbrev pub held_after : Contents
  held_after = without_each leaving held

  pub still_on : (those : List ℕ) → ((place : Place) → Among place (places_on shape those) → Among place (places_on shape others)) → AllByRecursion (StillHolds held leaving) (places_on shape those)
  still_on those are = all_from_among (StillHolds held leaving) (places_on shape those)
      (λ place found. all_among (StillHolds held leaving) (places_on shape others) place (staying_same shape held leaving drives) (are place found))

  tells_on : (places : List Place) (id : ℕ) → AllByRecursion (StillHolds held leaving) places → AllByRecursion (TellsSame array held held_after id) places
  tells_on places id still = all-map (StillHolds held leaving) (TellsSame array held held_after id) places (λ place same index. ap (λ bytes. is_of id index (first_of (whole_records array bytes))) same) still

  pub carriers_still : (those : List ℕ) (id : ℕ) → ((place : Place) → Among place (places_on shape those) → Among place (places_on shape others)) → carriers_of array held_after (places_on shape those) id ≡ carriers_of array held (places_on shape those) id
  carriers_still those id are = carriers-same array held held_after (places_on shape those) id (tells_on (places_on shape those) id (still_on those are))

  set_still : (those : List ℕ) (id : ℕ) → ((place : Place) → Among place (places_on shape those) → Among place (places_on shape others)) → read_set array held_after (places_on shape those) id ≡ read_set array held (places_on shape those) id
  set_still those id are =
      read_set-same array held held_after (places_on shape those) id (tells_on (places_on shape those) id (still_on those are))
      (carriers_among array held held_after (StillHolds held leaving) (places_on shape those) id (still_on those are) (λ place index is same. same))

  pub chosen_still : (id : ℕ) → chosen array shape held_after others (choice id) id ≡ chosen_after id
  chosen_still id = ap (λ carriers. cond (leb k (length carriers)) (outside (choice id) others) others) (carriers_still (outside (choice id) others) id (λ place found. place_was shape (choice id) others place found))

  one_still : (id : ℕ) → set_by array shape held_after others choice id ≡ after id
  one_still id = ap (λ those. read_set array held_after (places_on shape those) id) (chosen_still id) ∙ set_still (chosen_after id) id (chosen_stay id)

  numbers_still : (places : List Place) → AllByRecursion (StillHolds held leaving) places → ids_at array held_after places ≡ ids_at array held places
  numbers_still [] still = refl
  numbers_still (place ∷ places) still =
      ap (λ bytes. with_head (first_of (whole_records array bytes)) (ids_at array held_after places)) still.0
      ∙ ap (with_head (head_at array held place)) (numbers_still places still.1)

  each_still : (ids : List ℕ) → map (λ id. set_by array shape held_after others choice id) ids ≡ map after ids
  each_still [] = refl
  each_still (id ∷ ids) = ap (λ set. set ∷ map (λ id. set_by array shape held_after others choice id) ids) (one_still id) ∙ ap (λ sets. after id ∷ sets) (each_still ids)

  pub reading_after : read_by array shape held_after choice ≡ map after numbers_after
  reading_after =
      ap (λ those. reading_by array shape held_after those choice) (present_stay shape held leaving)
      ∙ ap (map (λ id. set_by array shape held_after others choice id)) (numbers_still (places_on shape others) (staying_same shape held leaving drives))
      ∙ each_still numbers_after

-- ---- the laws

-- As it is read, none is left aside.
pub all_chosen : (array : Array) (shape : Shape) (held : Contents) (id : ℕ) → chosen array shape held (present shape held []) [] id ≡ present shape held []
all_chosen array shape held id =
    ap (λ those. cond (leb array.geometry.k (length (carriers_of array held (places_on shape those) id))) those drives) (outside_none drives)
    ∙ either (leb array.geometry.k (length (carriers_of array held (places_on shape drives) id)))
  where
    drives : List ℕ
    drives = present shape held []

    either : (b : Bool) → cond b drives drives ≡ drives
    either true = refl
    either false = refl

pub as_read : (array : Array) (shape : Shape) (held : Contents) → read_by array shape held (λ set. []) ≡ read_of array shape held
as_read array shape held = each (ids_at array held (places_on shape (present shape held [])))
  where
    each : (ids : List ℕ) → map (set_by array shape held (present shape held []) (λ set. [])) ids ≡ map (read_set array held (places_on shape (present shape held []))) ids
    each [] = refl
    each (id ∷ ids) =
        ap (λ those. read_set array held (places_on shape those) id ∷ map (set_by array shape held (present shape held []) (λ set. [])) ids) (all_chosen array shape held id)
        ∙ ap (λ sets. read_set array held (places_on shape (present shape held [])) id ∷ sets) (each ids)

pub read_is_possible : ReadIsPossible
read_is_possible array shape held = ((λ set. []), ap (map_of array.geometry.k) (sym (as_read array shape held)))

pub nothing_new_is_possible : NothingNewIsPossible
nothing_new_is_possible array shape uploads held leaving objects copies enough (choice, is) = (
  choice_before array shape held leaving choice,
  is ∙ ap (map_of array.geometry.k) (reading_after array shape held leaving choice) ∙ (says_after array shape held leaving choice uploads copies enough).reads.map,
)

pub nothing_new_is_needed : NothingNewIsNeeded
nothing_new_is_needed array shape uploads held leaving set copies enough (choice, needed) =
    let there = subst (λ sets. IsNeededSet array.geometry.k uploads sets set) (reading_after array shape held leaving choice) needed in
    (choice_before array shape held leaving choice, (there.0, (says_after array shape held leaving choice uploads copies enough).needed there.0 there.1, there.2))

pub copies_stay : CopiesStay
copies_stay array shape uploads held leaving copies enough choice =
    let k = array.geometry.k in
    let mine = choice_before array shape held leaving choice in
    subst (λ sets. AreCopies (items_of (records_of k sets))) (sym (reading_after array shape held leaving choice))
    (copies_among k (read_by array shape held mine) (map (after array shape held leaving choice) (numbers_after array shape held leaving choice))
    (says_after array shape held leaving choice uploads copies enough).valid
    (copies mine))

pub left_map_was_possible : LeftMapWasPossible
left_map_was_possible array shape uploads held leaving copies enough =
    nothing_new_is_possible array shape uploads held leaving (map_of array.geometry.k (read_of array shape (without_each leaving held))) copies enough (read_is_possible array shape (without_each leaving held))
