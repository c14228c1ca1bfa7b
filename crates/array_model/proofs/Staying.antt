-- What drives that stay say of a set: its carriers there are some of its carriers, so it has its ready record still, and its
-- records are the same as far as they were kept.
use Rattle.std.proofs.Common.{◌≡◌, ℕ, suc, ◌+◌, ◌-◌, ◌<◌, ◌≤◌, Bool, true, false, cond, inl, inr, List, [], ◌∷◌, ◌++◌, length, map, take, Option, Some, None, refl, sym, ap, ap₂, ◌∙◌, subst, arith}
use Rattle.std.specs.Prelude.{not, ◌||◌}
use Rattle.std.specs.List.{AllByRecursion, list_any, filter_map, cons_option, range_with_len}
use Rattle.std.proofs.lemmas.Bool.{true≢false, and_parts, or_left, or_right, eqb-true}
use Rattle.std.proofs.lemmas.List.{length-take}
use Rattle.zone_bay.specs.Contents.{Shape, Contents}
use Rattle.marker_format.specs.declared.kind.Kind.{Kind}
use Rattle.marker_format.specs.declared.kind.Kind.TheVariants as kinds
use Rattle.marker_format.specs.declared.marker.Marker.{Marker}
use Rattle.marker_format.specs.Kind.{kind_of}
use Rattle.marker_format.specs.Marker.{IsMarker}
use Rattle.marker_format.specs.Zone.{Array, IsWhole, blocks_of}
use Rattle.array_model.specs.Drives.{outside, Place, bytes_at, is_among, is_of, present, places_on, head_at}
use Rattle.array_model.specs.Reading.{Carrier, carrier_of, fragments_of, carriers_of, alike, agreed, payload_of, record_by, records_from, read_set, ids_at}
use Rattle.array_model.specs.Record.{is_ready}
use Rattle.array_model.specs.Sets.{cut_to}
use Rattle.array_model.specs.Kept.{HaveOneList, HavePayloads, IndexesAreAlone}
use Rattle.array_model.specs.ReadingLaws.{KeepsEnough}
use Rattle.array_model.proofs.Records.{Among, among_from_contains, contains_from_among, among_first, among_rest, among_joined, all_among}
use Rattle.array_model.proofs.Alike.{nothing_else_is_aside}
use Rattle.array_model.proofs.Agreed.{agree_where_alike, held_by_each, agreed_is_longest}
use Rattle.array_model.proofs.Carriers.{no_carrier_comes, carrier_stays, no_more_carriers, places_of, places_on_device}
use Rattle.array_model.proofs.SameZones.{all-map, all-append, carrier_among, head_is_whole}
use Rattle.array_model.proofs.SettledRecords.{same_record_by, agreed_markers, all_from_among, kept_same, closed_same}
use Rattle.array_model.proofs.SetsRead.{head_of_read}

-- ---- places on drives that stay

pub place_was : (shape : Shape) (leaving drives : List ℕ) (place : Place) → Among place (places_on shape (outside leaving drives)) → Among place (places_on shape drives)
place_was shape leaving [] place found = found
place_was shape leaving (drive ∷ drives) place found = at_one (is_among leaving drive) (place_was shape leaving drives place) found
  where
    at_one : (b : Bool) → (Among place (places_on shape (outside leaving drives)) → Among place (places_on shape drives)) → Among place (places_on shape (cond (not b) (drive ∷ outside leaving drives) (outside leaving drives))) → Among place (places_of shape drive ++ places_on shape drives)
    at_one true again found = among_rest (places_of shape drive) (places_on shape drives) place (again found)
    at_one false again found = elim (among_joined (places_of shape drive) (places_on shape (outside leaving drives)) place found) [
      | inl here ↦ among_first (places_of shape drive) (places_on shape drives) place here
      | inr later ↦ among_rest (places_of shape drive) (places_on shape drives) place (again later)
    ]

places_stay : (shape : Shape) (leaving drives : List ℕ) → AllByRecursion (λ (place : Place). is_among leaving place.device ≡ false) (places_on shape (outside leaving drives))
places_stay shape leaving [] = tt
places_stay shape leaving (drive ∷ drives) = at_one (is_among leaving drive) refl (places_stay shape leaving drives)
  where
    at_one : (b : Bool) → is_among leaving drive ≡ b → AllByRecursion (λ (place : Place). is_among leaving place.device ≡ false) (places_on shape (outside leaving drives)) → AllByRecursion (λ (place : Place). is_among leaving place.device ≡ false) (places_on shape (cond (not b) (drive ∷ outside leaving drives) (outside leaving drives)))
    at_one true leaves rest = rest
    at_one false stays rest =
        all-append (λ (place : Place). is_among leaving place.device ≡ false) (places_of shape drive) (places_on shape (outside leaving drives))
        (all-map (λ (place : Place). place.device ≡ drive) (λ (place : Place). is_among leaving place.device ≡ false) (places_of shape drive) (λ place there. ap (is_among leaving) there ∙ stays) (places_on_device drive 2 (shape.zones - 2)))
        rest

-- ---- carriers

among_more : {Y : Type 0} (y : Y) (o : Option Y) (ys : List Y) → Among y ys → Among y (cons_option o ys)
among_more y None ys found = found
among_more y (Some z) ys found = inr found

filter_map_among : {X Y : Type 0} (f g : X → Option Y) (xs : List X) (y : Y) → ((x : X) → f x ≡ Some y → g x ≡ Some y) → Among y (filter_map f xs) → Among y (filter_map g xs)
filter_map_among f g [] y also found = found
filter_map_among {X} {Y} f g (x ∷ xs) y also found = at_one (f x) refl (filter_map_among f g xs y also) found
  where
    at_one : (o : Option Y) → f x ≡ o → (Among y (filter_map f xs) → Among y (filter_map g xs)) → Among y (cons_option o (filter_map f xs)) → Among y (cons_option (g x) (filter_map g xs))
    at_one None is again found = among_more y (g x) (filter_map g xs) (again found)
    at_one (Some z) is again (inl here) = subst (λ o. Among y (cons_option o (filter_map g xs))) (sym (also x (is ∙ ap Some here))) (inl refl)
    at_one (Some z) is again (inr later) = among_more y (g x) (filter_map g xs) (again later)

module _ (array : Array) (shape : Shape) (held : Contents) (leaving : List ℕ) where
  abbrev drives : List ℕ
  drives = present shape held []

  abbrev places : List Place
  places = places_on shape drives

  abbrev others : List Place
  others = places_on shape (outside leaving drives)

  pub place_of : (those : List Place) (set index : ℕ) (c : Carrier) → carrier_of array held those set index ≡ Some c → (is_of set index (head_at array held c.place) ≡ true) × Among c.place those
  place_of those set index c e = carrier_among array held held (λ place. Among place those) those set index c (all_from_among (λ place. Among place those) those (λ place found. found)) e

  module _ (alone : IndexesAreAlone array shape held) (set : ℕ) where
    -- The carrier on the drives that stay is the carrier: no other zone takes a place.
    carrier_was : (index : ℕ) (c : Carrier) → carrier_of array held others set index ≡ Some c → carrier_of array held places set index ≡ Some c
    carrier_was index c e = at_one (carrier_of array held places set index) refl
      where
        at_one : (o : Option Carrier) → carrier_of array held places set index ≡ o → o ≡ Some c
        at_one None is = let none = no_carrier_comes array shape held drives leaving set index is in absurd cc
        at_one (Some d) is =
            let mine = place_of others set index c e in
            let its = place_of places set index d is in
            let one_drive : c.place.device ≡ d.place.device = alone set index c.place d.place (contains_from_among places c.place (place_was shape leaving drives c.place mine.1)) (contains_from_among places d.place its.1) mine.0 its.0 in
            let stays = all_among (λ (place : Place). is_among leaving place.device ≡ false) others c.place (places_stay shape leaving drives) mine.1 in
            sym (carrier_stays array shape held drives leaving set index d is (ap (is_among leaving) (sym one_drive) ∙ stays)) ∙ e

    pub carriers_were : (c : Carrier) → Among c (carriers_of array held others set) → Among c (carriers_of array held places set)
    carriers_were c found = filter_map_among (carrier_of array held others set) (carrier_of array held places set) (range_with_len 0 (fragments_of array)) c (λ index e. carrier_was index c e) found

    pub keeps_enough : 0 < array.geometry.k → fragments_of array ≤ 256 → array.geometry.k ≤ length (carriers_of array held others set) → KeepsEnough array held others places set
    keeps_enough some fits enough = record {
      some = (omega (arith, some, enough), λ c found. contains_from_among (carriers_of array held places set) c (carriers_were c (among_from_contains (carriers_of array held others set) c found)));
      enough = enough;
      were = omega (arith, enough, no_more_carriers array shape held drives leaving set);
      fits = fits;
    }

-- Where a set is read, its heads say that the array's code is one.
pub code_within : (array : Array) (held : Contents) (places : List Place) (id : ℕ) → Among id (ids_at array held places) → (0 < array.geometry.k) × (fragments_of array ≤ 256)
code_within array held places id found =
    let there = head_of_read array held places id found in
    let whole : IsWhole array (bytes_at held there.0) 0 there.2.0 = (head_is_whole array (bytes_at held there.0) there.2.0 there.2.1).0 in
    let tests = and_parts _ _ (and_parts _ _ (and_parts _ _ whole.ours).0).0 in
    let k = eqb-true there.2.0.k array.geometry.k tests.0 in
    let n = eqb-true there.2.0.n (array.geometry.k + array.geometry.p) tests.1 in
    (omega (arith, whole.marker.k_from, k), omega (arith, whole.marker.n_to, n))

-- ---- ready records

ready_marker : Marker → Bool
ready_marker m = is_ready (record_by (kind_of m.kind) m [])

-- A ready record is one whatever its payload.
ready_by : (o : Option Kind) (m : Marker) (payload : List ℕ) → is_ready (record_by o m payload) ≡ is_ready (record_by o m [])
ready_by None m payload = refl
ready_by (Some kinds.Head) m payload = refl
ready_by (Some kinds.Part) m payload = refl
ready_by (Some kinds.Put) m payload = refl
ready_by (Some kinds.Delete) m payload = refl
ready_by (Some kinds.Cut) m payload = refl
ready_by (Some kinds.Ready) m payload = refl
ready_by (Some kinds.Digest) m payload = refl
ready_by (Some kinds.Snapshot) m payload = refl
ready_by (Some kinds.Trailer) m payload = refl

ready_records : (array : Array) (held : Contents) (carriers : List Carrier) (block : ℕ) (ms : List Marker) → list_any is_ready (records_from array held carriers block ms) ≡ list_any ready_marker ms
unfolding ready_marker
ready_records array held carriers block [] = refl
ready_records array held carriers block (m ∷ ms) = ap₂ ◌||◌ (ready_by (kind_of m.kind) m (payload_of array held carriers block m)) (ready_records array held carriers (block + blocks_of m) ms)

ready_alike : (x y : Marker) → IsMarker x → IsMarker y → alike x ≡ alike y → ready_marker x ≡ ready_marker y
unfolding ready_marker
ready_alike x y x_is y_is same = ap is_ready (same_record_by x y [] (nothing_else_is_aside x y x_is y_is (agree_where_alike x y same)))

-- A list that begins like another has its ready record.
ready_first : (xs ys : List Marker) (rest : List (List ℕ)) → AllByRecursion IsMarker xs → AllByRecursion IsMarker ys → map alike ys ≡ map alike xs ++ rest → list_any ready_marker xs ≡ true → list_any ready_marker ys ≡ true
ready_first [] ys rest xs_are ys_are same ready = absurd (true≢false (sym ready))
ready_first (x ∷ xs) [] rest xs_are ys_are same ready = absurd cc
ready_first (x ∷ xs) (y ∷ ys) rest xs_are ys_are same ready = at_one (ready_marker x) refl ready (ready_first xs ys rest xs_are.1 ys_are.1 cc)
  where
    first : ready_marker y ≡ ready_marker x
    first = ready_alike y x ys_are.0 xs_are.0 cc

    at_one : (b : Bool) → ready_marker x ≡ b → (b || list_any ready_marker xs) ≡ true → (list_any ready_marker xs ≡ true → list_any ready_marker ys ≡ true) → (ready_marker y || list_any ready_marker ys) ≡ true
    at_one true is ready again = or_left (ready_marker y) (list_any ready_marker ys) (first ∙ is)
    at_one false is ready again = or_right (ready_marker y) (list_any ready_marker ys) (again ready)

pub ready_from_first : (array : Array) (held : Contents) (some carriers : List Carrier) (rest : List (List ℕ)) → map alike (agreed array held some) ≡ map alike (agreed array held carriers) ++ rest → list_any is_ready (records_from array held carriers 0 (agreed array held carriers)) ≡ true → list_any is_ready (records_from array held some 0 (agreed array held some)) ≡ true
ready_from_first array held some carriers rest same ready =
    ready_records array held some 0 (agreed array held some)
    ∙ ready_first (agreed array held carriers) (agreed array held some) rest (agreed_markers array held carriers) (agreed_markers array held some) same
    (sym (ready_records array held carriers 0 (agreed array held carriers)) ∙ ready)

-- ---- a settled set

pub count_records : (array : Array) (held : Contents) (carriers : List Carrier) (block : ℕ) (ms : List Marker) → length (records_from array held carriers block ms) ≡ length ms
count_records array held carriers block [] = refl
count_records array held carriers block (m ∷ ms) = ap suc (count_records array held carriers (block + blocks_of m) ms)

module _ (array : Array) (held : Contents) (places those : List Place) (set : ℕ) (keeps : KeepsEnough array held places those set) where
  -- It has its ready record still.
  pub ready_stays : list_any is_ready (read_set array held those set).records ≡ true → list_any is_ready (read_set array held places set).records ≡ true
  ready_stays ready =
      let few = carriers_of array held places set in
      let all = carriers_of array held those set in
      let more = agreed_is_longest array held few (agreed array held all) keeps.some.0 (λ c found. held_by_each array held all c (among_from_contains all c (keeps.some.1 c found))) in
      ready_from_first array held few all more.0 more.1 ready

  -- As many records as are kept are the same, where no more are kept than there are, and where all are kept the set is closed.
  pub settled_same : (o : Option ℕ) → ((n : ℕ) → o ≡ Some n → n ≤ length (read_set array held those set).records) → (o ≡ None → (read_set array held those set).closed ≡ true) → HaveOneList array held (carriers_of array held those set) → HavePayloads array held (carriers_of array held those set) (length (cut_to o (read_set array held those set).records)) → cut_to o (read_set array held places set).records ≡ cut_to o (read_set array held those set).records
  settled_same None fits closed lists have =
      let all = carriers_of array held those set in
      closed_same array held places those set keeps lists (closed refl) (subst (HavePayloads array held all) (count_records array held all 0 (agreed array held all)) have)
  settled_same (Some n) fits closed lists have =
      let all = carriers_of array held those set in
      let there = fits n refl in
      let short : n ≤ length (agreed array held all) = omega (arith, there, count_records array held all 0 (agreed array held all)) in
      let many : length (take n (read_set array held those set).records) ≡ n = length-take n (read_set array held those set).records ∙ omega (arith, there) in
      kept_same array held places those set keeps n short (subst (HavePayloads array held all) many have)
