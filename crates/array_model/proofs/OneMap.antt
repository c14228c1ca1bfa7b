-- An array of which the unsettled sets are even has one possible map: each set says the same from any k of its carriers.
use Rattle.std.proofs.Common.{◌≡◌, ℕ, ◌<◌, ◌≤◌, Bool, true, false, cond, leb, inl, inr, List, [], ◌∷◌, ◌++◌, length, map, Option, Some, None, Contains, refl, sym, ap, ◌∙◌, subst, append-nil, le-leb, arith}
use Rattle.std.specs.Prelude.{is_some, ◌&&◌, ◌||◌}
use Rattle.std.specs.List.{list_any}
use Rattle.std.proofs.lemmas.Bool.{cases_Bool, and_from, or_parts, leb-true}
use Rattle.zone_bay.specs.Contents.{Shape, Contents}
use Rattle.marker_format.specs.Zone.{Array}
use Rattle.array_model.specs.Drives.{outside, records_at, present, places_on}
use Rattle.array_model.specs.Reading.{Carrier, carriers_of, alike, agreed, ids_at, read_set, read_of}
use Rattle.array_model.specs.Record.{is_ready}
use Rattle.array_model.specs.Sets.{ReadSet, AreRising, stands, cut_to, kept_by, valid}
use Rattle.array_model.specs.Map.{map_of}
use Rattle.array_model.specs.SetLaws.{AreEnough, CutsAreOfLower}
use Rattle.array_model.specs.Possible.{Choice, set_by, read_by}
use Rattle.array_model.specs.Enough.{is_settled}
use Rattle.array_model.specs.Kept.{HavePayloads, carriers_in, carriers_by, IsKeptReading, ShowsKept}
use Rattle.array_model.specs.RemovalLaws.{HaveEqualLists, UnsettledAreEven, OnePossibleMap}
use Rattle.array_model.proofs.Records.{Among, contains_from_among}
use Rattle.array_model.proofs.Sets.{standing_carriers, standing_ready}
use Rattle.array_model.proofs.UnneededSets.{Loses, says_the_same}
use Rattle.array_model.proofs.Carriers.{no_more_carriers}
use Rattle.array_model.proofs.SameZones.{reading_rises}
use Rattle.array_model.proofs.Settled.{first_among, agreed_alike}
use Rattle.array_model.proofs.SettledRecords.{alike_same}
use Rattle.array_model.proofs.Above.{kept_by_above}
use Rattle.array_model.proofs.CutsRead.{cuts_read_are_of_lower}
use Rattle.array_model.proofs.Staying.{carriers_were, keeps_enough, code_within, ready_stays, ready_from_first, count_records}
use Rattle.array_model.proofs.Removal.{all_lose, among_map, notes_are_one, places_now, places_left, set_now, set_left, numbers_now, settled_loses}
use Rattle.array_model.proofs.NeededSets.{needed_has_carriers}
use Rattle.array_model.proofs.Possible.{none_or_one, same_loses, all_chosen, as_read}

-- What isn't named and isn't closed isn't settled.
none_named : (o : Option ℕ) → is_some o ≡ false → o ≡ None
none_named None is = refl
none_named (Some n) is = absurd cc

-- ---- what is read now is a possible reading

module _ (array : Array) (shape : Shape) (held : Contents) (shows : ShowsKept array shape held) where
  now : IsKeptReading array.geometry.k (read_of array shape held)
  now = subst (IsKeptReading array.geometry.k) (as_read array shape held) (shows.readings (λ set. []))

  payloads_now : (set : ReadSet) → Contains (read_of array shape held) set → stands array.geometry.k set ≡ true → HavePayloads array held (carriers_in array shape held set.id) (length (cut_to (kept_by set.id (valid array.geometry.k (read_of array shape held))) set.records))
  payloads_now set found stood =
      subst (λ drives. HavePayloads array held (carriers_of array held (places_on shape drives) set.id) (length (cut_to (kept_by set.id (valid array.geometry.k (read_of array shape held))) set.records))) (all_chosen array shape held set.id)
      (subst (λ sets. HavePayloads array held (carriers_by array shape held (λ set. []) set.id) (length (cut_to (kept_by set.id (valid array.geometry.k sets)) set.records))) (as_read array shape held)
      (shows.payloads (λ set. []) set (subst (λ sets. Contains sets set) (sym (as_read array shape held)) found) stood))

-- ---- some of the drives

module _ (array : Array) (shape : Shape) (held : Contents) (leaving : List ℕ) (shows : ShowsKept array shape held) (even : UnsettledAreEven array shape held) where
  abbrev k : ℕ
  k = array.geometry.k

  -- the sets as they are read
  abbrev sets : List ReadSet
  sets = read_of array shape held

  -- a set as it is read, and as the drives that stay have it; and the numbers of all sets
  abbrev whole : ℕ → ReadSet
  whole = set_now array shape held leaving

  abbrev rest : ℕ → ReadSet
  rest = set_left array shape held leaving

  abbrev numbers : List ℕ
  numbers = numbers_now array shape held leaving

  -- the carriers of a set, and those on the drives that stay
  abbrev all : ℕ → List Carrier
  all id = carriers_of array held (places_now array shape held leaving) id

  abbrev few : ℕ → List Carrier
  few id = carriers_of array held (places_left array shape held leaving) id

  there_among : (id : ℕ) → Among id numbers → Contains sets (whole id)
  there_among id found = contains_from_among sets (whole id) (among_map whole numbers id found)

  few_were : (id : ℕ) (c : Carrier) → Among c (few id) → Among c (all id)
  few_were id c found = carriers_were array shape held leaving shows.alone id c found

  rising : AreRising sets
  rising = reading_rises array shape held (present shape held [])

  lower : CutsAreOfLower k sets
  lower = cuts_read_are_of_lower k array shape held (present shape held [])

  -- ---- a set that isn't settled

  module _ (id : ℕ) (found : Among id numbers) (unsettled : is_settled k sets (whole id) ≡ false) (enough : k ≤ length (few id)) where
    were : k ≤ length (all id)
    were = omega (arith, enough, no_more_carriers array shape held (present shape held []) leaving id)

    equal : HaveEqualLists array held (all id)
    equal = even (whole id) (there_among id found) were unsettled

    -- Its carriers that stay agree on what all do.
    same_markers : map alike (agreed array held (few id)) ≡ map alike (agreed array held (all id))
    same_markers =
        let some = (code_within array held (places_now array shape held leaving) id found).0 in
        let one = first_among (few id) (omega (arith, some, enough)) in
        let mine = few_were id one.0 one.1 in
        let alike_one : (other : Carrier) → Among other (all id) → map alike (records_at array held other.place) ≡ map alike (records_at array held one.0.place) = (λ other among. equal other one.0 (contains_from_among (all id) other among) (contains_from_among (all id) one.0 mine)) in
        agreed_alike array held (few id) one.0 one.1 (λ other among. alike_one other (few_were id other among))
        ∙ sym (agreed_alike array held (all id) one.0 mine alike_one)

    ready_left : list_any is_ready (whole id).records ≡ true → list_any is_ready (rest id).records ≡ true
    ready_left ready = ready_from_first array held (few id) (all id) [] (same_markers ∙ sym (append-nil (map alike (agreed array held (all id))))) ready

    ready_was : list_any is_ready (rest id).records ≡ true → list_any is_ready (whole id).records ≡ true
    ready_was ready = ready_from_first array held (all id) (few id) [] (sym same_markers ∙ sym (append-nil (map alike (agreed array held (few id))))) ready

    stood_was : stands k (rest id) ≡ true → stands k (whole id) ≡ true
    stood_was still = and_from _ _ (le-leb k (length (all id)) were) (ready_was (standing_ready k (rest id) still))

    -- Where it stands all its records are valid, and they are the same.
    unnamed : stands k (whole id) ≡ true → kept_by id (valid k sets) ≡ None
    unnamed stood = none_named (kept_by id (valid k sets)) (or_parts (is_some (kept_by id (valid k sets))) (whole id).closed (at_one (stands k (whole id)) stood unsettled)).0
      where
        at_one : (b : Bool) → b ≡ true → (b && (is_some (kept_by id (valid k sets)) || (whole id).closed)) ≡ false → (is_some (kept_by id (valid k sets)) || (whole id).closed) ≡ false
        at_one true is rest = rest
        at_one false is rest = absurd cc

    same_left : (front above : List ReadSet) → sets ≡ front ++ whole id ∷ above → stands k (rest id) ≡ true → cut_to (kept_by id (valid k above)) (rest id).records ≡ cut_to (kept_by id (valid k above)) (whole id).records
    same_left front above at still =
        let stood = stood_was still in
        let none : kept_by id (valid k above) ≡ None = sym (kept_by_above k sets front (whole id) above at rising lower) ∙ unnamed stood in
        let have : HavePayloads array held (all id) (length (whole id).records) = subst (λ o. HavePayloads array held (all id) (length (cut_to o (whole id).records))) (unnamed stood) (payloads_now array shape held shows (whole id) (there_among id found) stood) in
        let code = code_within array held (places_now array shape held leaving) id found in
        subst (λ o. cut_to o (rest id).records ≡ cut_to o (whole id).records) (sym none)
        (alike_same array held (places_left array shape held leaving) (places_now array shape held leaving) id (keeps_enough array shape held leaving shows.alone id code.0 code.1 enough) same_markers
        (subst (HavePayloads array held (all id)) (count_records array held (all id) 0 (agreed array held (all id))) have))

  unsettled_loses : (front above : List ReadSet) (id : ℕ) → Among id numbers → sets ≡ front ++ whole id ∷ above → is_settled k sets (whole id) ≡ false → Loses k above (whole id) (rest id)
  unsettled_loses front above id found at unsettled = record {
    id = refl;
    carriers = no_more_carriers array shape held (present shape held []) leaving id;
    stays = λ enough was. and_from _ _ (le-leb k (length (few id)) enough) (ready_left id found unsettled enough (standing_ready k (whole id) was));
    stood = λ still. stood_was id found unsettled (standing_carriers k (rest id) still) still;
    kept = λ still. same_left id found unsettled (standing_carriers k (rest id) still) front above at still;
  }

  pub each_loses : (front above : List ReadSet) (id : ℕ) → Among id numbers → sets ≡ front ++ whole id ∷ above → Loses k above (whole id) (rest id)
  each_loses front above id found at = elim (cases_Bool (is_settled k sets (whole id))) [
    | inl settled ↦ settled_loses array shape held leaving shows.alone shows.lists sets rising lower (now array shape held shows).cuts (payloads_now array shape held shows) front above id found at settled
    | inr unsettled ↦ unsettled_loses front above id found at unsettled
  ]

-- ---- any choice

module _ (array : Array) (shape : Shape) (held : Contents) (shows : ShowsKept array shape held) (even : UnsettledAreEven array shape held) (choice : Choice) where
  abbrev all_drives : List ℕ
  all_drives = present shape held []

  abbrev ids : List ℕ
  ids = ids_at array held (places_on shape all_drives)

  abbrev read_now : ℕ → ReadSet
  read_now id = read_set array held (places_on shape all_drives) id

  abbrev mine : ℕ → ReadSet
  mine id = set_by array shape held all_drives choice id

  one_loses : (front above : List ReadSet) (id : ℕ) → Among id ids → read_of array shape held ≡ front ++ read_now id ∷ above → Loses array.geometry.k above (read_now id) (mine id)
  one_loses front above id found at = at_one (leb array.geometry.k (length (carriers_of array held (places_on shape (outside (choice id) all_drives)) id)))
    where
      at_one : (b : Bool) → Loses array.geometry.k above (read_now id) (read_set array held (places_on shape (cond b (outside (choice id) all_drives) all_drives)) id)
      at_one true = each_loses array shape held (choice id) shows even front above id found at
      at_one false = same_loses array.geometry.k above (read_now id)

  many_chosen : (id : ℕ) → array.geometry.k ≤ (read_now id).carriers → array.geometry.k ≤ (mine id).carriers
  many_chosen id many = at_one (leb array.geometry.k (length (carriers_of array held (places_on shape (outside (choice id) all_drives)) id))) refl
    where
      at_one : (b : Bool) → leb array.geometry.k (length (carriers_of array held (places_on shape (outside (choice id) all_drives)) id)) ≡ b → array.geometry.k ≤ length (carriers_of array held (places_on shape (cond b (outside (choice id) all_drives) all_drives)) id)
      at_one true is = leb-true array.geometry.k (length (carriers_of array held (places_on shape (outside (choice id) all_drives)) id)) is
      at_one false is = many

  keep : (those : List ℕ) → AreEnough array.geometry.k [] (read_of array shape held) (map mine those)
  keep [] = tt
  keep (id ∷ those) = ((λ needed. many_chosen id (needed_has_carriers read_now (λ id. refl) array.geometry.k [] ids id needed).1), keep those)

  same_map : map_of array.geometry.k (read_by array shape held choice) ≡ map_of array.geometry.k (read_of array shape held)
  same_map = elim (none_or_one ids) [
    | inl none ↦ ap (λ those. map_of array.geometry.k (map mine those)) none ∙ sym (ap (λ those. map_of array.geometry.k (map read_now those)) none)
    | inr one ↦
        (says_the_same array.geometry.k [] (read_of array shape held) (map mine ids)
        (code_within array held (places_on shape all_drives) one.0 one.1).0
        (notes_are_one array.geometry.k (read_of array shape held) (now array shape held shows).copies)
        (all_lose array.geometry.k read_now mine (read_of array shape held) [] ids ids (λ id found. found) refl one_loses)
        (keep ids)).reads.map
  ]

pub one_possible_map : OnePossibleMap
one_possible_map array shape held objects shows even (choice, is) = is ∙ same_map array shape held shows even choice
