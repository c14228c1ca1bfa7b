-- A set as it is read, and as the drives that stay have it. A settled set's valid records don't depend on which of its
-- carriers are read, so from k of them all is read that was kept.
use Rattle.std.proofs.Common.{◌≡◌, ℕ, ◌<◌, ◌≤◌, Bool, true, false, cond, inl, inr, List, [], ◌∷◌, ◌++◌, length, map, Option, Some, None, Contains, refl, sym, ap, ◌∙◌, subst, append_assoc, le-leb, arith}
use Rattle.std.specs.Prelude.{is_some}
use Rattle.std.specs.List.{filter_map, cons_option, range_with_len}
use Rattle.std.proofs.lemmas.Bool.{and_parts, and_from, or_cases, eqb-true}
use Rattle.zone_bay.specs.Contents.{Shape, Contents}
use Rattle.marker_format.specs.declared.marker.Marker.{Marker}
use Rattle.marker_format.specs.Zone.{Array}
use Rattle.array_model.specs.Drives.{Place, is_of, outside, head_at, present, places_on}
use Rattle.array_model.specs.Reading.{carrier_of, fragments_of, carriers_of, read_set, ids_at}
use Rattle.array_model.specs.Record.{Record, Put, Delete, note_stamp}
use Rattle.array_model.specs.Sets.{ReadSet, ValidSet, RiseAbove, AreRising, stands, cut_to, kept_by, valid, records_of, HasCarrier}
use Rattle.array_model.specs.Map.{items_of}
use Rattle.array_model.specs.Need.{IsWanted, IsNeededSet}
use Rattle.array_model.specs.SetLaws.{NotesAreOne, AreEnough, CutsAreOfLower}
use Rattle.array_model.specs.Enough.{is_settled, IsEnough}
use Rattle.array_model.specs.Kept.{HaveOneList, HavePayloads, carriers_in, stamp_of, AreCopies, CutsFit, IndexesAreAlone}
use Rattle.array_model.proofs.Records.{Among, contains_from_among, among_rest}
use Rattle.array_model.proofs.Sets.{standing_carriers, standing_ready}
use Rattle.array_model.proofs.UnneededSets.{Loses, AllLose}
use Rattle.array_model.proofs.Carriers.{no_more_carriers}
use Rattle.array_model.proofs.SameZones.{Rise, ids_rise}
use Rattle.array_model.proofs.Above.{kept_by_above, valid_there}
use Rattle.array_model.proofs.Settled.{first_among}
use Rattle.array_model.proofs.SetsRead.{head_of_read, read_by_head, carrier_read, read_carrier, valid_of_some}
use Rattle.array_model.proofs.Staying.{place_was, place_of, keeps_enough, code_within, ready_stays, settled_same}

-- ---- lists of sets by their numbers

-- Each set of a list loses carriers, where each does at its place.
pub all_lose : (k : ℕ) (was is : ℕ → ReadSet) (whole front : List ReadSet) (all ids : List ℕ) → ((id : ℕ) → Among id ids → Among id all) → whole ≡ front ++ map was ids → ((front above : List ReadSet) (id : ℕ) → Among id all → whole ≡ front ++ was id ∷ above → Loses k above (was id) (is id)) → AllLose k (map was ids) (map is ids)
all_lose k was is whole front all [] some at each = tt
all_lose k was is whole front all (id ∷ ids) some at each = (
  each front (map was ids) id (some id (inl refl)) at,
  all_lose k was is whole (front ++ was id ∷ []) all ids (λ other found. some other (inr found)) (at ∙ sym (append_assoc front (was id ∷ []) (map was ids))) each,
)

pub among_map : (read : ℕ → ReadSet) (ids : List ℕ) (id : ℕ) → Among id ids → Among (read id) (map read ids)
among_map read [] id found = absurd found
among_map read (other ∷ ids) id (inl is) = inl (ap read is)
among_map read (other ∷ ids) id (inr later) = inr (among_map read ids id later)

-- ---- need and notes

wanted_by_more : (uploads : List ℕ) (items : List Record) (item : Record) → IsWanted [] items item → IsWanted uploads items item
wanted_by_more uploads items (Record.Part upload part payload) (inl open_upload) = absurd (omega (arith, open_upload.1))
wanted_by_more uploads items (Record.Part upload part payload) (inr of_newest) = inr of_newest
wanted_by_more uploads items item wanted = wanted

pub needed_by_more : (k : ℕ) (uploads : List ℕ) (sets : List ReadSet) (id : ℕ) → IsNeededSet k [] sets id → IsNeededSet k uploads sets id
needed_by_more k uploads sets id (it, needed, own) = (
  it,
  record {
    before = needed.before;
    after = needed.after;
    valid = needed.valid;
    why = elim needed.why [
      | inl wanted ↦ inl (wanted_by_more uploads (items_of (records_of k sets)) it.item wanted.0, wanted.1)
      | inr last ↦ inr last
    ];
  },
  own,
)

-- Enough for some uploads is enough for none.
pub enough_for_none : (array : Array) (shape : Shape) (uploads : List ℕ) (held : Contents) (leaving : List ℕ) → IsEnough array shape uploads held leaving → IsEnough array shape [] held leaving
enough_for_none array shape uploads held leaving enough set (choice, needed) = enough set (choice, needed_by_more array.geometry.k uploads _ set needed)

stamp_by : (b : Bool) (own stamp : ℕ) → cond b (Some own) None ≡ Some stamp → Some own ≡ Some stamp
stamp_by true own stamp is = is
stamp_by false own stamp is = absurd cc

stamp_is : (name : List ℕ) (item : Record) (stamp : ℕ) → note_stamp name item ≡ Some stamp → stamp_of item ≡ Some stamp
stamp_is name (Put other own upload parts bytes) stamp is = stamp_by _ own stamp is
stamp_is name (Delete other own) stamp is = stamp_by _ own stamp is
stamp_is name item stamp is = absurd cc

pub notes_are_one : (k : ℕ) (sets : List ReadSet) → AreCopies (items_of (records_of k sets)) → NotesAreOne k sets
notes_are_one k sets copies name stamp one other found also is as_well = copies.notes stamp one other found also (stamp_is name one stamp is) (stamp_is name other stamp as_well)

-- ---- what is read without the drives

pub among_filter_map : {X Y : Type 0} (f : X → Option Y) (xs : List X) (y : Y) → Among y (filter_map f xs) → (x : X) × (f x ≡ Some y)
among_filter_map f [] y found = absurd found
among_filter_map {X} {Y} f (x ∷ xs) y found = at_one (f x) refl (among_filter_map f xs y) found
  where
    at_one : (o : Option Y) → f x ≡ o → (Among y (filter_map f xs) → (x : X) × (f x ≡ Some y)) → Among y (cons_option o (filter_map f xs)) → (x : X) × (f x ≡ Some y)
    at_one None is again found = again found
    at_one (Some z) is again (inl here) = (x, is ∙ ap Some here)
    at_one (Some z) is again (inr later) = again later

pub head_by : (set index : ℕ) (o : Option Marker) → is_of set index o ≡ true → (head : Marker) × (o ≡ Some head) × (head.set ≡ set)
head_by set index None is = absurd cc
head_by set index (Some head) is = (head, refl, eqb-true head.set set (and_parts _ _ is).0)

module _ (array : Array) (shape : Shape) (held : Contents) (leaving : List ℕ) where
  abbrev pub places_now : List Place
  places_now = places_on shape (present shape held [])

  abbrev pub places_left : List Place
  places_left = places_on shape (outside leaving (present shape held []))

  -- a set as it is read set_now, and as the drives that stay have it
  abbrev pub set_now : ℕ → ReadSet
  set_now id = read_set array held places_now id

  abbrev pub set_left : ℕ → ReadSet
  set_left id = read_set array held places_left id

  abbrev pub numbers_now : List ℕ
  numbers_now = ids_at array held places_now

  abbrev pub numbers_left : List ℕ
  numbers_left = ids_at array held places_left

  -- A set that is read from the drives that stay was read,
  pub left_was_read : (id : ℕ) → Among id numbers_left → Among id numbers_now
  left_was_read id found =
      let head = head_of_read array held places_left id found in
      read_by_head array held places_now id head.0 (place_was shape leaving (present shape held []) head.0 head.1) head.2

  -- Of sets in which what is settled is read from all its carriers, a settled one loses carriers: as many of its records as
  -- are kept are the same from those that stay.
  module _ (alone : IndexesAreAlone array shape held) (lists : (set : ℕ) → HaveOneList array held (carriers_in array shape held set)) (whole : List ReadSet) (rising : AreRising whole) (lower : CutsAreOfLower array.geometry.k whole) (fits : CutsFit array.geometry.k whole) (payloads : (set : ReadSet) → Contains whole set → stands array.geometry.k set ≡ true → HavePayloads array held (carriers_in array shape held set.id) (length (cut_to (kept_by set.id (valid array.geometry.k whole)) set.records))) where
    pub settled_loses : (front above : List ReadSet) (id : ℕ) → Among id numbers_now → whole ≡ front ++ set_now id ∷ above → is_settled array.geometry.k whole (set_now id) ≡ true → Loses array.geometry.k above (set_now id) (set_left id)
    settled_loses front above id found at settled =
        let k = array.geometry.k in
        let code = code_within array held places_now id found in
        let tests = and_parts (stands k (set_now id)) _ settled in
        let kept = kept_by_above k whole front (set_now id) above at rising lower in
        let there : Contains whole (set_now id) = subst (λ sets. Contains sets (set_now id)) (sym at) (contains_from_among (front ++ set_now id ∷ above) (set_now id) (among_rest front (set_now id ∷ above) (set_now id) (inl refl))) in
        record {
          id = refl;
          carriers = no_more_carriers array shape held (present shape held []) leaving id;
          stays = λ enough was. and_from _ _ (le-leb k (set_left id).carriers enough) (ready_stays array held places_left places_now id (keeps_enough array shape held leaving alone id code.0 code.1 enough) (standing_ready k (set_now id) was));
          stood = λ still. tests.0;
          kept = λ still.
              settled_same array held places_left places_now id (keeps_enough array shape held leaving alone id code.0 code.1 (standing_carriers k (set_left id) still)) (kept_by id (valid k above))
              (λ n is. fits (set_now id) n there tests.0 (kept ∙ is))
              (λ none. elim (or_cases _ _ tests.1) [
                | inl named ↦ let e : is_some (kept_by id (valid k above)) ≡ true = ap is_some (sym kept) ∙ named in let e' = sym (ap is_some none) ∙ e in absurd cc
                | inr closed ↦ closed
              ])
              (lists id)
              (subst (λ o. HavePayloads array held (carriers_in array shape held id) (length (cut_to o (set_now id).records))) kept (payloads (set_now id) there tests.0));
        }
