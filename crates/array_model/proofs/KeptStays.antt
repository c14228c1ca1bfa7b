-- Where drives leave with enough, what shows a kept array shows one still.
use Rattle.std.proofs.Common.{◌≡◌, ℕ, ◌+◌, ◌<◌, ◌≤◌, Bool, true, false, cond, ◌⊎◌, inl, inr, List, [], ◌∷◌, ◌++◌, length, map, Option, Some, None, Contains, refl, sym, ap, ap₂, ◌∙◌, subst, arith}
use Rattle.std.specs.Prelude.{◌&&◌, ◌||◌, not, filter, is_some}
use Rattle.std.specs.List.{AllByRecursion, filter_map, cons_option}
use Rattle.std.proofs.lemmas.Bool.{and_parts}
use Rattle.zone_bay.specs.Contents.{Shape, Contents}
use Rattle.zone_bay.specs.Images.{without_each}
use Rattle.marker_format.specs.declared.label.Label.{Label}
use Rattle.marker_format.specs.declared.marker.Marker.{Marker}
use Rattle.marker_format.specs.Fragment.{fragment_at}
use Rattle.marker_format.specs.Zone.{Array, whole_records}
use Rattle.array_model.specs.Drives.{Place, outside, is_among, is_of, bytes_at, records_at, first_of, head_at, label_on, present, labels, places_on}
use Rattle.array_model.specs.Payload.{fragment_of}
use Rattle.array_model.specs.Reading.{Carrier, carriers_of, agreed, fragment_on, IsPrefixAlike}
use Rattle.array_model.specs.Sets.{ReadSet, Placed, stands, cut_to, valid, kept_by, records_of, HasCarrier}
use Rattle.array_model.specs.Map.{items_of}
use Rattle.array_model.specs.Possible.{Choice, chosen, read_by}
use Rattle.array_model.specs.Enough.{is_settled, IsEnough}
use Rattle.array_model.specs.Kept.{HaveOneList, HaveOnePayload, HavePayloads, carriers_in, HaveValidPayloads, AreCopies, ClosedStand, is_unsettled, OneIsUnsettled, CutsKeepReady, CutsFit, IsKeptReading, EndsAreFound, TakesFewer, EachZone, IndexesAreAlone, ShowsKept}
use Rattle.array_model.proofs.Records.{Among, all_among, among_from_contains, contains_from_among}
use Rattle.array_model.proofs.Sets.{standing_carriers}
use Rattle.array_model.proofs.UnneededSets.{kept_stays}
use Rattle.array_model.proofs.Carriers.{label_without, present_stay}
use Rattle.array_model.proofs.SameZones.{StillHolds, IsSame, agreed-same, all-map, carriers_among, staying_same}
use Rattle.array_model.proofs.SettledRecords.{all_from_among}
use Rattle.array_model.proofs.Staying.{place_was, carriers_were, code_within}
use Rattle.array_model.proofs.Removal.{among_map, left_was_read}
use Rattle.array_model.proofs.Possible.{by_number, read_has_carrier, copies_among, choice_before, before, after, others, numbers, numbers_after, chosen_after, same_chosen, same_read, lose, valid_after, chosen_stay, enough_after, says_after, held_after, still_on, carriers_still, chosen_still, reading_after, copies_stay}

-- ---- lists

among_filter : {X : Type 0} (p : X → Bool) (xs : List X) (x : X) → Among x (filter p xs) → Among x xs
among_filter p [] x found = found
among_filter {X} p (y ∷ xs) x found = at_one (p y) (among_filter p xs x) found
  where
    at_one : (b : Bool) → (Among x (filter p xs) → Among x xs) → Among x (cond b (y ∷ filter p xs) (filter p xs)) → Among x (y ∷ xs)
    at_one true again (inl is) = inl is
    at_one true again (inr later) = inr (again later)
    at_one false again found = inr (again found)

had_from : {X Y : Type 0} (f : X → Option Y) (xs : List X) (y : Y) → Among y (filter_map f xs) → (x : X) × Among x xs × (f x ≡ Some y)
had_from f [] y found = absurd found
had_from {X} {Y} f (x ∷ xs) y found = at_one (f x) refl (had_from f xs y) found
  where
    at_one : (o : Option Y) → f x ≡ o → (Among y (filter_map f xs) → (z : X) × Among z xs × (f z ≡ Some y)) → Among y (cons_option o (filter_map f xs)) → (z : X) × Among z (x ∷ xs) × (f z ≡ Some y)
    at_one None is again found = let there = again found in (there.0, inr there.1, there.2)
    at_one (Some z) is again (inl here) = (x, inl refl, is ∙ ap Some here)
    at_one (Some z) is again (inr later) = let there = again later in (there.0, inr there.1, there.2)

among_one_more : {Y : Type 0} (o : Option Y) (ys : List Y) (y : Y) → Among y ys → Among y (cons_option o ys)
among_one_more None ys y found = found
among_one_more (Some z) ys y found = inr found

has_from : {X Y : Type 0} (f : X → Option Y) (xs : List X) (x : X) (y : Y) → Among x xs → f x ≡ Some y → Among y (filter_map f xs)
has_from f [] x y found is = absurd found
has_from f (z ∷ xs) x y (inl here) is = subst (λ o. Among y (cons_option o (filter_map f xs))) (sym (ap f here ∙ is)) (inl refl)
has_from f (z ∷ xs) x y (inr later) is = among_one_more (f z) (filter_map f xs) y (has_from f xs x y later is)

-- ---- what carriers hold, where it is held still

module _ (array : Array) (held other : Contents) where
  all_same : (carriers : List Carrier) → AllByRecursion (λ (c : Carrier). IsSame array held other c.place) carriers → (block : ℕ) (m : Marker) (fragments : List (List ℕ))
      → AllByRecursion (λ (c : Carrier). (fragment_on held block m c).bytes ≡ fragment_of fragments c.index) carriers
      → AllByRecursion (λ (c : Carrier). (fragment_on other block m c).bytes ≡ fragment_of fragments c.index) carriers
  all_same [] same block m fragments each = tt
  all_same (c ∷ carriers) same block m fragments each = (ap (λ bytes. fragment_at bytes (block + 1) m.fragment) same.0 ∙ each.0, all_same carriers same.1 block m fragments each.1)

  payloads_same : (carriers : List Carrier) (count : ℕ) → AllByRecursion (λ (c : Carrier). IsSame array held other c.place) carriers → HavePayloads array held carriers count → HavePayloads array other carriers count
  payloads_same carriers count same have first rest m is within =
      let one = have first rest m (sym (agreed-same array held other carriers same) ∙ is) within in
      record {
        payload = one.payload;
        bytes = one.bytes;
        fragments = one.fragments;
        are = one.are;
        each = all_same carriers same _ m one.fragments one.each;
      }

  list_same : (carriers : List Carrier) (all : List Marker) → AllByRecursion (λ (c : Carrier). IsSame array held other c.place) carriers → AllByRecursion (λ (c : Carrier). IsPrefixAlike (records_at array held c.place) all) carriers → AllByRecursion (λ (c : Carrier). IsPrefixAlike (records_at array other c.place) all) carriers
  list_same [] all same each = tt
  list_same (c ∷ carriers) all same each = (subst (λ bytes. IsPrefixAlike (whole_records array bytes) all) (sym same.0) each.0, list_same carriers all same.1 each.1)

-- ---- a possible reading

module _ (array : Array) (shape : Shape) (held : Contents) (leaving : List ℕ) (shows : ShowsKept array shape held) (enough : IsEnough array shape [] held leaving) where
  abbrev k : ℕ
  k = array.geometry.k

  abbrev drives : List ℕ
  drives = present shape held []

  abbrev stay : List ℕ
  stay = outside leaving drives

  abbrev left : Contents
  left = without_each leaving held

  module _ (choice : Choice) where
    abbrev mine : Choice
    mine = choice_before array shape held leaving choice

    -- the sets that were read by the choice, and those that are
    abbrev was : List ReadSet
    was = read_by array shape held mine

    abbrev is : List ReadSet
    is = map (after array shape held leaving choice) (numbers_after array shape held leaving choice)

    reading : IsKeptReading k was
    reading = shows.readings mine

    -- A set of k carriers was read so,
    record WasRead (set : ReadSet) : Type 0 where
      number : ℕ
      read : Among number (numbers array shape held leaving choice)
      same : after array shape held leaving choice number ≡ set
      many : k ≤ (after array shape held leaving choice number).carriers
      found : Contains was set

    was_read : (set : ReadSet) → Contains is set → k ≤ set.carriers → WasRead set
    was_read set found many =
        let one = by_number (after array shape held leaving choice) (numbers_after array shape held leaving choice) set (among_from_contains is set found) in
        let enough_left : k ≤ (after array shape held leaving choice one.0).carriers = subst (λ (s : ReadSet). k ≤ s.carriers) (sym one.2) many in
        let there = left_was_read array shape held leaving one.0 one.1 in
        record {
          number = one.0;
          read = there;
          same = one.2;
          many = enough_left;
          found = subst (Contains was) (same_read array shape held leaving choice one.0 enough_left ∙ one.2)
              (contains_from_among was (before array shape held leaving choice one.0) (among_map (before array shape held leaving choice) (numbers array shape held leaving choice) one.0 there));
        }

    -- and as many of its records are kept.
    kept_same : (set : ReadSet) → Contains is set → k ≤ set.carriers → kept_by set.id (valid k is) ≡ kept_by set.id (valid k was)
    kept_same set found many =
        let one = was_read set found many in
        let some = (code_within array held (places_on shape drives) one.number one.read).0 in
        let many_before : 0 < (before array shape held leaving choice one.number).carriers = subst (λ (s : ReadSet). 0 < s.carriers) (sym (same_read array shape held leaving choice one.number one.many)) (let m = one.many in omega (arith, some, m)) in
        let carried : HasCarrier was one.number = read_has_carrier (before array shape held leaving choice) (λ id. refl) (numbers array shape held leaving choice) one.number one.read many_before in
        let own : one.number ≡ set.id = ap (λ (s : ReadSet). s.id) one.same in
        subst (λ id. kept_by id (valid k is) ≡ kept_by id (valid k was)) own
        (ap (kept_by one.number) (valid_after array shape held leaving choice some)
        ∙ kept_stays k [] was (map (after array shape held leaving choice) (numbers array shape held leaving choice)) some (lose array shape held leaving choice (numbers array shape held leaving choice)) (enough_after array shape held leaving choice [] (λ c. (shows.readings c).copies) enough (numbers array shape held leaving choice)) one.number carried)

    settled_same : (set : ReadSet) → Contains is set → k ≤ set.carriers → is_settled k is set ≡ is_settled k was set
    settled_same set found many = ap (λ o. stands k set && (is_some o || set.closed)) (kept_same set found many)

    unsettled_was : (set : ReadSet) → Contains is set → is_unsettled k is set ≡ true → Contains was set × (is_unsettled k was set ≡ true)
    unsettled_was set found unsettled =
        let many = standing_carriers k set (and_parts (stands k set) (not (is_settled k is set)) unsettled).0 in
        ((was_read set found many).found, ap (λ b. stands k set && not b) (sym (settled_same set found many)) ∙ unsettled)

    valid_was : (it : Placed) → Contains (records_of k is) it → Contains (records_of k was) it
    valid_was = (says_after array shape held leaving choice [] (λ c. (shows.readings c).copies) enough).valid

    reading_left : IsKeptReading k is
    reading_left = record {
      closed = λ set found many closed. reading.closed set (was_read set found many).found many closed;
      copies = copies_among k was is valid_was reading.copies;
      unsettled = λ one other found also unsettled as_well.
          let first = unsettled_was one found unsettled in
          let second = unsettled_was other also as_well in
          reading.unsettled one other first.0 second.0 first.1 second.1;
      ready = λ set cut kept found stood valid_cut item some.
          reading.ready set cut kept (was_read set found (standing_carriers k set stood)).found stood (valid_was cut valid_cut) item some;
      cuts = λ set kept found stood keeps.
          let many = standing_carriers k set stood in
          reading.cuts set kept (was_read set found many).found stood (sym (kept_same set found many) ∙ keeps);
    }

    payloads_left : HaveValidPayloads array shape left choice
    payloads_left set found stood =
        let many = standing_carriers k set stood in
        let here : Contains is set = subst (λ sets. Contains sets set) (reading_after array shape held leaving choice) found in
        let one = was_read set here many in
        let own : one.number ≡ set.id = ap (λ (s : ReadSet). s.id) one.same in
        let have : HavePayloads array held (carriers_of array held (places_on shape (chosen array shape held drives (mine set.id) set.id)) set.id) (length (cut_to (kept_by set.id (valid k was)) set.records)) = shows.payloads mine set one.found stood in
        let chosen_same : chosen array shape held drives (mine set.id) set.id ≡ chosen_after array shape held leaving choice set.id =
        subst (λ id. chosen array shape held drives (mine id) id ≡ chosen_after array shape held leaving choice id) own (same_chosen array shape held leaving choice one.number one.many) in
        let those = chosen_after array shape held leaving choice set.id in
        let now : HavePayloads array held (carriers_of array held (places_on shape those) set.id) (length (cut_to (kept_by set.id (valid k is)) set.records)) =
        subst (λ o. HavePayloads array held (carriers_of array held (places_on shape those) set.id) (length (cut_to o set.records))) (sym (kept_same set here many))
        (subst (λ drives. HavePayloads array held (carriers_of array held (places_on shape drives) set.id) (length (cut_to (kept_by set.id (valid k was)) set.records))) chosen_same have) in
        let still : HavePayloads array left (carriers_of array held (places_on shape those) set.id) (length (cut_to (kept_by set.id (valid k is)) set.records)) =
        payloads_same array held left (carriers_of array held (places_on shape those) set.id) _
        (carriers_among array held left (StillHolds held leaving) (places_on shape those) set.id (still_on array shape held leaving choice those (chosen_stay array shape held leaving choice set.id)) (λ place index is same. same))
        now in
        let same_carriers : carriers_of array left (places_on shape (chosen array shape left (present shape left []) (choice set.id) set.id)) set.id ≡ carriers_of array held (places_on shape those) set.id =
        ap (λ drives. carriers_of array left (places_on shape (chosen array shape left drives (choice set.id) set.id)) set.id) (present_stay shape held leaving)
        ∙ ap (λ drives. carriers_of array left (places_on shape drives) set.id) (chosen_still array shape held leaving choice set.id)
        ∙ carriers_still array shape held leaving choice those set.id (chosen_stay array shape held leaving choice set.id) in
        subst (λ carriers. HavePayloads array left carriers (length (cut_to (kept_by set.id (valid k (read_by array shape left choice))) set.records))) (sym same_carriers)
        (subst (λ sets. HavePayloads array left (carriers_of array held (places_on shape those) set.id) (length (cut_to (kept_by set.id (valid k sets)) set.records))) (sym (reading_after array shape held leaving choice)) still)

  -- ---- zones and labels

  still_there : AllByRecursion (StillHolds held leaving) (places_on shape stay)
  still_there = staying_same shape held leaving drives

  there_before : (place : Place) → Contains (places_on shape (present shape left [])) place → Among place (places_on shape stay)
  there_before place found = subst (λ those. Among place (places_on shape those)) (present_stay shape held leaving) (among_from_contains (places_on shape (present shape left [])) place found)

  held_before : (place : Place) → Among place (places_on shape stay) → bytes_at left place ≡ bytes_at held place
  held_before place found = all_among (StillHolds held leaving) (places_on shape stay) place still_there found

  alone_left : IndexesAreAlone array shape left
  alone_left set index one other found also mine its =
      let first = there_before one found in
      let second = there_before other also in
      let same : (place : Place) → Among place (places_on shape stay) → is_of set index (head_at array left place) ≡ true → is_of set index (head_at array held place) ≡ true = (λ place there is. ap (λ bytes. is_of set index (first_of (whole_records array bytes))) (sym (held_before place there)) ∙ is) in
      shows.alone set index one other
      (contains_from_among (places_on shape drives) one (place_was shape leaving drives one first))
      (contains_from_among (places_on shape drives) other (place_was shape leaving drives other second))
      (same one first mine)
      (same other second its)

  zones_left : (P : List ℕ → Type 0) → EachZone shape held P → EachZone shape left P
  zones_left P each =
      subst (λ those. AllByRecursion (λ place. P (bytes_at left place)) (places_on shape those)) (sym (present_stay shape held leaving))
      (all_from_among (λ place. P (bytes_at left place)) (places_on shape stay)
      (λ place found. subst P (sym (held_before place found)) (all_among (λ place. P (bytes_at held place)) (places_on shape drives) place each (place_was shape leaving drives place found))))

  label_was : (l : Label) → Contains (labels shape left []) l → Contains (labels shape held []) l
  label_was l found =
      let one = had_from (label_on shape left) (present shape left []) l (among_from_contains (labels shape left []) l found) in
      let there = among_filter (λ drive. not (is_among leaving drive)) drives one.0 (subst (Among one.0) (present_stay shape held leaving) one.1) in
      contains_from_among (labels shape held []) l
      (has_from (label_on shape held) drives one.0 l there (at_one (is_among leaving one.0) (label_on shape held one.0) (sym (label_without shape held leaving one.0) ∙ one.2)))
    where
      at_one : (b : Bool) (o : Option Label) → cond b None o ≡ Some l → o ≡ Some l
      at_one true o is = absurd cc
      at_one false o is = is

  lists_left : (set : ℕ) → HaveOneList array left (carriers_in array shape left set)
  lists_left set =
      let all = shows.lists set in
      let few = carriers_of array held (places_on shape stay) set in
      let each = all_from_among (λ (c : Carrier). IsPrefixAlike (records_at array held c.place) all.0) few
      (λ c found. all_among (λ (c : Carrier). IsPrefixAlike (records_at array held c.place) all.0) (carriers_in array shape held set) c all.1 (carriers_were array shape held leaving shows.alone set c found)) in
      let same_carriers : carriers_in array shape left set ≡ few =
      ap (λ those. carriers_of array left (places_on shape those) set) (present_stay shape held leaving)
      ∙ carriers_still array shape held leaving (λ id. []) stay set (λ place found. found) in
      subst (HaveOneList array left) (sym same_carriers)
      (all.0, list_same array held left few all.0 (carriers_among array held left (StillHolds held leaving) (places_on shape stay) set still_there (λ place index is same. same)) each)

  pub shows_left : ShowsKept array shape left
  shows_left = record {
    lists = lists_left;
    payloads = payloads_left;
    readings = λ choice. subst (IsKeptReading k) (sym (reading_after array shape held leaving choice)) (reading_left choice);
    labels = λ l found. shows.labels l (label_was l found);
    ends = zones_left (EndsAreFound array) shows.ends;
    blocks = zones_left (TakesFewer array shape.blocks) shows.blocks;
    alone = alone_left;
  }
