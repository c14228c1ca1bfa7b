-- What is read of a set in an image of what its zones hold.
use Rattle.std.proofs.Common.{◌≡◌, ◌⊎◌, inl, inr, ℕ, zero, suc, ◌+◌, ◌-◌, ◌*◌, ◌<◌, ◌≤◌, min, Bool, true, false, cond, List, [], ◌∷◌, ◌++◌, length, map, take, Option, Some, None, refl, sym, ap, ap₂, subst, ◌∙◌, arith}
use Rattle.std.specs.Prelude.{◌&&◌, ◌||◌, not, ◌==◌, is_some}
use Rattle.std.specs.List.{AllByRecursion, find, range_with_len}
use Rattle.std.specs.Option.{option_or}
use Rattle.std.proofs.lemmas.Bool.{cases_eq, and_parts, and_from, or_left, or_right, eq-eqb, ne_eqb, eqb-true}
use Rattle.std.proofs.lemmas.List.Folds.{find-append}
use Rattle.zone_bay.specs.Contents.{Shape, Contents, Lengths}
use Rattle.marker_format.specs.declared.marker.Marker.{Marker}
use Rattle.marker_format.specs.Zone.{Array, begun, is_rebuilt, trailer_follows, whole_records}
use Rattle.marker_format.proofs.ZoneLaws.{begun-cut}
use Rattle.array_model.specs.Drives.{Place, is_among, is_of, first_of, head_at, bytes_at, places_on}
use Rattle.array_model.specs.Reading.{Carrier, common, carries, carrier_of}
use Rattle.array_model.specs.ReadingLaws.{is_of_set}
use Rattle.array_model.proofs.Carriers.{carries_some}
use Rattle.array_model.proofs.SameZones.{all-map, all-append, all-filter_map, carrier_among}
use Rattle.set_table.specs.declared.zone_use.ZoneUse.TheVariants as uses
use Rattle.set_table.specs.Table.{Table, use_at}
use Rattle.set_table.specs.Table as table
use Rattle.set_writer.specs.Entry.{Entry, at_index}
use Rattle.set_table.specs.Table.{array_of}
use Rattle.set_writer.specs.Writer.{blocks_in}
use Rattle.set_writer.specs.Laws.{markers_at}
use Rattle.set_writer.specs.ImageLaws.{HasFirst, SetBytes, FirstIsOf, AreSetBytes, HoldBytes, View, places_of, carriers_in, IsCrashView, AgreeOn, IsCut, AreFirm, IsSeen, HaveFirst}
use Rattle.set_writer.proofs.AgreedRecords.{agree_on}

-- ---- the places that are seen

-- a set zone of one of the drives
abbrev pub IsPlace : Shape → List ℕ → Place → Type 0
IsPlace shape drives place = (is_among drives place.device ≡ true) × (2 ≤ place.zone) × (place.zone < shape.zones)

zones_between : (device first count : ℕ) → AllByRecursion (λ (place : Place). (place.device ≡ device) × (first ≤ place.zone) × (place.zone < first + count)) (map (λ zone. record { device = device; zone = zone }) (range_with_len first count))
zones_between device first zero = tt
zones_between device first (suc count) = (
  (refl, omega arith, omega arith),
  all-map (λ (place : Place). (place.device ≡ device) × (first + 1 ≤ place.zone) × (place.zone < first + 1 + count)) (λ place. (place.device ≡ device) × (first ≤ place.zone) × (place.zone < first + suc count)) _
      (λ place is. let from = is.1 in let to = is.2 in (is.0, omega (arith, from), omega (arith, to)))
      (zones_between device (first + 1) count),
)

places_among : (shape : Shape) (all drives : List ℕ) → ((d : ℕ) → is_among drives d ≡ true → is_among all d ≡ true) → AllByRecursion (IsPlace shape all) (places_on shape drives)
places_among shape all [] within = tt
places_among shape all (drive ∷ drives) within =
    all-append (IsPlace shape all) (map (λ zone. record { device = drive; zone = zone }) (range_with_len 2 (shape.zones - 2))) (places_on shape drives)
    (all-map (λ (place : Place). (place.device ≡ drive) × (2 ≤ place.zone) × (place.zone < 2 + (shape.zones - 2))) (IsPlace shape all) (map (λ zone. record { device = drive; zone = zone }) (range_with_len 2 (shape.zones - 2)))
    (λ place is. let from = is.1 in let to = is.2 in (
      within place.device (or_left (drive == place.device) _ (eq-eqb drive place.device (sym is.0))),
      from,
      omega (arith, from, to),
    ))
    (zones_between drive 2 (shape.zones - 2)))
    (places_among shape all drives (λ d is. within d (or_right (drive == d) _ is)))

pub places_are : (shape : Shape) (drives : List ℕ) → AllByRecursion (IsPlace shape drives) (places_on shape drives)
places_are shape drives = places_among shape drives drives (λ d is. is)

-- one of two that is there
one_of : {X : Type 0} (a b : Option X) → (is_some a ≡ true) ⊎ (is_some b ≡ true) → is_some (option_or a b) ≡ true
one_of None b (inl is) = absurd cc
one_of None b (inr is) = is
one_of (Some x) b is = refl

found_on : (test : Place → Bool) (d z first count : ℕ) → first ≤ z → z < first + count → test (record { device = d; zone = z }) ≡ true → is_some (find test (map (λ zone. record { device = d; zone = zone }) (range_with_len first count))) ≡ true
found_on test d z first zero from to passes = absurd (omega (arith, from, to))
found_on test d z first (suc count) from to passes = elim (cases_eq first z) [
  | inl same ↦ ap (λ b. is_some (cond b (Some (record { device = d; zone = first })) (find test (map (λ zone. record { device = d; zone = zone }) (range_with_len (first + 1) count))))) (ap (λ n. test (record { device = d; zone = n })) same ∙ passes)
  | inr other ↦ either (test (record { device = d; zone = first })) (found_on test d z (first + 1) count (omega (arith, from, other)) (omega (arith, to)) passes)
]
  where
    either : (b : Bool) → is_some (find test (map (λ zone. record { device = d; zone = zone }) (range_with_len (first + 1) count))) ≡ true → is_some (cond b (Some (record { device = d; zone = first })) (find test (map (λ zone. record { device = d; zone = zone }) (range_with_len (first + 1) count)))) ≡ true
    either true rest = refl
    either false rest = rest

-- a set zone of the drives that passes a test is found, or one before it
pub place_found : (test : Place → Bool) (shape : Shape) (drives : List ℕ) (d z : ℕ) → is_among drives d ≡ true → 2 ≤ z → z < shape.zones → test (record { device = d; zone = z }) ≡ true → is_some (find test (places_on shape drives)) ≡ true
place_found test shape [] d z is from to passes = absurd cc
place_found test shape (drive ∷ drives) d z is from to passes =
    ap is_some (find-append test (map (λ zone. record { device = drive; zone = zone }) (range_with_len 2 (shape.zones - 2))) (places_on shape drives))
    ∙ one_of _ (find test (places_on shape drives)) (elim (cases_eq drive d) [
      | inl same ↦ inl (found_on test drive z 2 (shape.zones - 2) from (omega (arith, from, to)) (ap (λ n. test (record { device = n; zone = z })) same ∙ passes))
      | inr other ↦ inr (place_found test shape drives d z (sym (ap (λ b. b || is_among drives d) (ne drive d other)) ∙ is) from to passes)
    ])
  where
    ne : (a b : ℕ) → (a ≡ b → ⊥) → (a == b) ≡ false
    ne a b other = ne_eqb a b other

-- ---- heads

-- the first whole record is the first that the bytes begin with
pub whole_begun : (array : Array) (bytes : List ℕ) (head : Marker) → first_of (whole_records array bytes) ≡ Some head → first_of (begun array bytes) ≡ Some head
unfolding whole_records
whole_begun array bytes head = at (is_rebuilt (begun array bytes) && not (trailer_follows array bytes (begun array bytes)))
  where
    at : (b : Bool) → first_of (cond b [] (begun array bytes)) ≡ Some head → first_of (begun array bytes) ≡ Some head
    at true is = absurd cc
    at false is = is

pub first_of_first : (ms rest all : List Marker) (head : Marker) → all ≡ ms ++ rest → first_of ms ≡ Some head → first_of all ≡ Some head
first_of_first [] rest all head is first = absurd cc
first_of_first (m ∷ ms) rest all head is first = ap first_of is ∙ first

-- a head in a cut zone is the whole zone's
pub head_before : (n : ℕ) (array : Array) (bytes : List ℕ) (head : Marker) → first_of (whole_records array (take n bytes)) ≡ Some head → first_of (begun array bytes) ≡ Some head
head_before n array bytes head is =
    let part = begun-cut n array bytes in
    first_of_first (begun array (take n bytes)) part.0 (begun array bytes) head part.1 (whole_begun array (take n bytes) head is)

-- what a head of a set and an index is
pub head_is : (set' index : ℕ) (o : Option Marker) → is_of set' index o ≡ true → (head : Marker) × (o ≡ Some head) × (head.set ≡ set') × (head.index ≡ index)
head_is set' index None is = absurd cc
head_is set' index (Some head) is = let both = and_parts (head.set == set') (head.index == index) is in (head, refl, eqb-true head.set set' both.0, eqb-true head.index index both.1)

-- the first of a set's records in the zone of an index
first_index : (index count : ℕ) (es : List Entry) (head : Marker) → first_of (markers_at index (take count es)) ≡ Some head → head.index ≡ index
first_index index zero es head is = absurd cc
first_index index (suc count) [] head is = absurd cc
first_index index (suc count) (e ∷ es) head is = let same : at_index index e.marker ≡ head = cc in sym (ap (λ (m : Marker). m.index) same)

-- so of a zone that holds these, the head has that index
pub index_there : (array : Array) (bytes cut : List ℕ) (index count : ℕ) (es : List Entry) (head : Marker) → bytes ≡ cut → whole_records array cut ≡ markers_at index (take count es) → first_of (whole_records array bytes) ≡ Some head → head.index ≡ index
index_there array bytes cut index count es head same records is = first_index index count es head (ap first_of (sym (ap (whole_records array) same ∙ records)) ∙ is)

first_is_of : (set' index count : ℕ) (es : List Entry) → FirstIsOf set' es → 0 < count → 0 < length es → is_of set' index (first_of (markers_at index (take count es))) ≡ true
first_is_of set' index zero es head some has = absurd (omega (arith, some))
first_is_of set' index (suc count) [] head some has = absurd (omega (arith, has))
first_is_of set' index (suc count) (e ∷ es) head some has = and_from (e.marker.set == set') (index == index) (eq-eqb e.marker.set set' head) (eq-eqb index index refl)

-- ---- several carriers

-- what two zones with the first of one list's records have in common
common_first : (i j a b : ℕ) (es : List Entry) → common (markers_at i (take a es)) (markers_at j (take b es)) ≡ markers_at i (take (min a b) es)
common_first i j zero b es = ap (λ n. markers_at i (take n es)) (let e : 0 ≡ min 0 b = omega arith in e)
common_first i j (suc a) zero [] = ap (λ n. markers_at i (take n [])) (let e : 0 ≡ min (suc a) 0 = omega arith in e)
common_first i j (suc a) zero (e ∷ es) = ap (λ n. markers_at i (take n (e ∷ es))) (let e : 0 ≡ min (suc a) 0 = omega arith in e)
common_first i j (suc a) (suc b) [] = ap (λ n. markers_at i (take n [])) (let e : suc (min a b) ≡ min (suc a) (suc b) = omega arith in e)
common_first i j (suc a) (suc b) (e ∷ es) =
    ap (λ c. cond c (at_index i e.marker ∷ common (markers_at i (take a es)) (markers_at j (take b es))) []) (agree_on i j e.marker)
    ∙ ap (λ (l : List Marker). at_index i e.marker ∷ l) (common_first i j a b es)
    ∙ ap (λ n. markers_at i (take n (e ∷ es))) (let e : suc (min a b) ≡ min (suc a) (suc b) = omega arith in e)

-- What carriers agree on that each have the first of one list's records.
pub record Agreed (array : Array) (held : Contents) (es : List Entry) (firm : Lengths) (carriers : List Carrier) : Type 0 where
  pub count : ℕ
  pub within : count ≤ length es
  pub agree : AgreeOn array held carriers (take count es)
  pub least : (c : ℕ) → c ≤ length es → AllByRecursion (λ (x : Carrier). 512 * blocks_in (take c es) ≤ firm x.place.device x.place.zone) carriers → c ≤ count

abbrev pub HasFirstAt : Array → Contents → List Entry → Lengths → Carrier → Type 0
HasFirstAt array held es firm c = HasFirst array c.index es (firm c.place.device c.place.zone) (bytes_at held c.place)

pub agreed_first : (array : Array) (held : Contents) (es : List Entry) (firm : Lengths) (carriers : List Carrier) → AllByRecursion (HasFirstAt array held es firm) carriers → Agreed array held es firm carriers
agreed_first array held es firm [] all = record { count = length es; within = omega arith; agree = tt; least = λ c few each. few }
agreed_first array held es firm (first ∷ []) all = record { count = all.0.count; within = all.0.within; agree = all.0.records; least = λ c few each. all.0.least c few each.0 }
agreed_first array held es firm (first ∷ next ∷ others) all =
    let rest = agreed_first array held es firm (next ∷ others) all.1 in
    record {
      count = min all.0.count rest.count;
      within = let a = all.0.within in omega (arith, a);
      agree = ap₂ common all.0.records rest.agree ∙ common_first first.index next.index all.0.count rest.count es;
      least = λ c few each. let a = all.0.least c few each.0 in let b = rest.least c few each.1 in omega (arith, a, b);
    }

-- ---- the set

module _ (s : SetBytes) (t : Table) (held : Contents) (firm : Lengths) (view : View) (array : s.array ≡ array_of t) (are : AreSetBytes s) (hold : HoldBytes s t held view.drives) (left : IsCrashView t s.set held firm view) where
  count : s.array.geometry.k + s.array.geometry.p ≡ table.fragments_of t
  count = ap (λ (a : Array). a.geometry.k + a.geometry.p) array

  -- what a member's zone has
  member_has : (n index : ℕ) → index < table.fragments_of t → HasFirst s.array index s.records n (take n (s.zone index))
  member_has n index below = let c = count in are.first n index (omega (arith, below, c))

  -- a place with a head of the set is the member of that index
  carrier_cut : (index : ℕ) (c : Carrier) → carrier_of s.array view.held (places_of view) s.set index ≡ Some c → IsCut s t firm view c
  carrier_cut index c e = cut (head_is s.set index (head_at s.array view.held c.place) there.0)
    where
      there : (is_of s.set index (head_at s.array view.held c.place) ≡ true) × IsPlace view.shape view.drives c.place
      there = carrier_among s.array view.held view.held (IsPlace view.shape view.drives) (places_of view) s.set index c (places_are view.shape view.drives) e

      is_index : c.index ≡ index
      is_index = (carries_some index _ c e).1

      part : (n : ℕ) × (firm c.place.device c.place.zone ≤ n) × (view.held c.place.device c.place.zone ≡ take n (held c.place.device c.place.zone))
      part = left.image c.place.device c.place.zone

      cut : (head : Marker) × (head_at s.array view.held c.place ≡ Some head) × (head.set ≡ s.set) × (head.index ≡ index) → IsCut s t firm view c
      cut head =
          let began = head_before part.0 s.array (held c.place.device c.place.zone) head.0 (ap (λ (l : List ℕ). first_of (whole_records s.array l)) (sym part.2) ∙ head.1) in
          let tells : is_of_set s.set (first_of (begun (array_of t) (held c.place.device c.place.zone))) ≡ true = ap (λ (a : Array). is_of_set s.set (first_of (begun a (held c.place.device c.place.zone)))) (sym array) ∙ ap (is_of_set s.set) began ∙ eq-eqb head.0.set s.set head.2 in
          let member = left.alone c.place.device c.place.zone there.1.0 there.1.1 tells in
          let holds = hold c.place.device c.place.zone member.0 there.1.0 member.1 member.2 in
          let bytes : view.held c.place.device c.place.zone ≡ take part.0 (s.zone member.0) = part.2 ∙ ap (take part.0) holds in
          let has = member_has part.0 member.0 member.1 in
          let same : index ≡ member.0 = sym head.3 ∙ index_there s.array (view.held c.place.device c.place.zone) (take part.0 (s.zone member.0)) member.0 has.count s.records head.0 bytes has.records head.1 in
          let own : member.0 ≡ c.index = sym same ∙ sym is_index in
          record {
            drive = there.1.0;
            below = subst (λ i. i < table.fragments_of t) own member.1;
            use_is = member.2 ∙ ap (λ i. uses.Carrier s.set i) own;
            bytes = (part.0, part.1, bytes ∙ ap (λ i. take part.0 (s.zone i)) own);
          }

  cuts : AllByRecursion (IsCut s t firm view) (carriers_in view s)
  cuts = all-filter_map (IsCut s t firm view) (carrier_of s.array view.held (places_of view) s.set) (range_with_len 0 (s.array.geometry.k + s.array.geometry.p)) carrier_cut

  cut_has : (c : Carrier) → IsCut s t firm view c → HasFirstAt s.array view.held s.records firm c
  cut_has c is =
      let n = is.bytes.0 in
      let has = member_has is.bytes.0 c.index is.below in
      record {
        count = has.count;
        within = has.within;
        records = ap (whole_records s.array) is.bytes.2 ∙ has.records;
        begins = ap (begun s.array) is.bytes.2 ∙ has.begins;
        least = λ k few ends. has.least k few (let more = is.bytes.1 in omega (arith, ends, more));
      }

  all_agreed : Agreed s.array view.held s.records firm (carriers_in view s)
  all_agreed = agreed_first s.array view.held s.records firm (carriers_in view s) (all-map (IsCut s t firm view) (HasFirstAt s.array view.held s.records firm) (carriers_in view s) cut_has cuts)

  all_firm : (count : ℕ) → AreFirm s t view.drives firm count → AllByRecursion (λ (c : Carrier). 512 * blocks_in (take count s.records) ≤ firm c.place.device c.place.zone) (carriers_in view s)
  all_firm count each = all-map (IsCut s t firm view) (λ c. 512 * blocks_in (take count s.records) ≤ firm c.place.device c.place.zone) (carriers_in view s) (λ c is. each c.place.device c.place.zone c.index is.drive is.below is.use_is) cuts

  member_found : (d z index : ℕ) → IsSeen t s.set view d z index → 512 * blocks_in (take 1 s.records) ≤ firm d z → is_some (carrier_of s.array view.held (places_of view) s.set index) ≡ true
  member_found d z index seen ends =
      let some = are.some in
      let part = left.image d z in
      let holds = hold d z index seen.drive seen.below seen.use_is in
      let bytes : view.held d z ≡ take part.0 (s.zone index) = part.2 ∙ ap (take part.0) holds in
      let has = member_has part.0 index seen.below in
      let one = has.least 1 some (let more = part.1 in omega (arith, ends, more)) in
      let head : is_of s.set index (head_at s.array view.held (record { device = d; zone = z })) ≡ true = ap (λ (l : List ℕ). is_of s.set index (first_of (whole_records s.array l))) bytes ∙ ap (λ (ms : List Marker). is_of s.set index (first_of ms)) has.records ∙ first_is_of s.set index has.count s.records are.head one some in
      carried (find (λ place. is_of s.set index (head_at s.array view.held place)) (places_of view)) (place_found (λ place. is_of s.set index (head_at s.array view.held place)) view.shape view.drives d z seen.drive seen.from seen.to head)
    where
      carried : (o : Option Place) → is_some o ≡ true → is_some (carries index o) ≡ true
      carried None is = is
      carried (Some place) is = refl

  pub image_has_first : HaveFirst s t firm view
  image_has_first = record {
    cut = cuts;
    count = all_agreed.count;
    within = all_agreed.within;
    agree = all_agreed.agree;
    least = λ c few each. all_agreed.least c few (all_firm c each);
    found = member_found;
  }
