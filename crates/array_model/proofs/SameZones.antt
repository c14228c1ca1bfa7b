-- What is read of zones that hold the same.
use Rattle.std.proofs.Common.{◌≡◌, ℕ, zero, suc, ◌+◌, ◌-◌, ◌<◌, ◌≤◌, Bool, true, false, cond, eqb, inl, inr, List, [], ◌∷◌, ◌++◌, length, map, take, Option, Some, None, refl, sym, ap, ap₂, ◌∙◌, subst, arith}
use Rattle.std.specs.Prelude.{◌&&◌, not}
use Rattle.std.specs.List.{AllByRecursion, find, filter_map, cons_option, list_all, range_with_len}
use Rattle.std.proofs.lemmas.Bool.{cases_order, lt-ltb, le-ltb, eq-eqb, ne_eqb}
use Rattle.zone_bay.specs.Contents.{Shape, Contents}
use Rattle.zone_bay.specs.Images.{without_each}
use Rattle.marker_format.specs.declared.marker.Marker.{Marker}
use Rattle.marker_format.specs.Kind.{kind_of}
use Rattle.marker_format.specs.Zone.{Array, IsWhole, Stand, begun, blocks_of, has_foot, is_rebuilt, may_stand, trailer_follows, whole_records}
use Rattle.marker_format.proofs.ZoneLaws.{Begin-begun}
use Rattle.array_model.specs.Payload.{payload_from}
use Rattle.marker_format.specs.Fragment.{fragment_at}
use Rattle.array_model.specs.Drives.{outside, Place, bytes_at, records_at, first_of, head_at, is_of, is_among, present, places_on}
use Rattle.array_model.specs.Reading.{Carrier, carries, carrier_of, fragments_of, carriers_of, common_of, agreed, fragment_on, payload_of, record_by, records_from, are_closed, set_from, read_set, with_id, with_head, ids_at, reading}
use Rattle.array_model.specs.Sets.{RiseAbove}
use Rattle.array_model.specs.ReadingLaws.{LeftIsHeldBefore, ReadingRises}
use Rattle.array_model.proofs.Carriers.{find-is, carries_some, held_without, present_stay, places_of, places_on_device}

-- ---- lists

-- the same for each of these
pub map-same : {X Y : Type 0} (f g : X → Y) (xs : List X) → AllByRecursion (λ x. f x ≡ g x) xs → map f xs ≡ map g xs
map-same f g [] same = refl
map-same f g (x ∷ xs) same = ap₂ ◌∷◌ same.0 (map-same f g xs same.1)

pub find-same : {X : Type 0} (p q : X → Bool) (xs : List X) → AllByRecursion (λ x. p x ≡ q x) xs → find p xs ≡ find q xs
find-same p q [] same = refl
find-same p q (x ∷ xs) same = ap₂ (λ b o. cond b (Some x) o) same.0 (find-same p q xs same.1)

list_all-same : {X : Type 0} (p q : X → Bool) (xs : List X) → AllByRecursion (λ x. p x ≡ q x) xs → list_all p xs ≡ list_all q xs
list_all-same p q [] same = refl
list_all-same p q (x ∷ xs) same = ap₂ ◌&&◌ same.0 (list_all-same p q xs same.1)

pub filter_map-same : {X Y : Type 0} (f g : X → Option Y) (xs : List X) → ((x : X) → f x ≡ g x) → filter_map f xs ≡ filter_map g xs
filter_map-same f g [] same = refl
filter_map-same f g (x ∷ xs) same = ap₂ cons_option (same x) (filter_map-same f g xs same)

pub all-map : {X : Type 0} (P Q : X → Type 0) (xs : List X) → ((x : X) → P x → Q x) → AllByRecursion P xs → AllByRecursion Q xs
all-map P Q [] more all = tt
all-map P Q (x ∷ xs) more all = (more x all.0, all-map P Q xs more all.1)

pub all-take : {X : Type 0} (P : X → Type 0) (n : ℕ) (xs : List X) → AllByRecursion P xs → AllByRecursion P (take n xs)
all-take P zero xs all = tt
all-take P (suc n) [] all = tt
all-take P (suc n) (x ∷ xs) all = (all.0, all-take P n xs all.1)

pub all-append : {X : Type 0} (P : X → Type 0) (xs ys : List X) → AllByRecursion P xs → AllByRecursion P ys → AllByRecursion P (xs ++ ys)
all-append P [] ys first second = second
all-append P (x ∷ xs) ys first second = (first.0, all-append P xs ys first.1 second)

pub all-filter_map : {X Y : Type 0} (P : Y → Type 0) (f : X → Option Y) (xs : List X) → ((x : X) (y : Y) → f x ≡ Some y → P y) → AllByRecursion P (filter_map f xs)
all-filter_map P f [] each = tt
all-filter_map {X} {Y} P f (x ∷ xs) each = at_one (f x) refl (all-filter_map P f xs each)
  where
    at_one : (o : Option Y) → f x ≡ o → AllByRecursion P (filter_map f xs) → AllByRecursion P (cons_option o (filter_map f xs))
    at_one None is rest = rest
    at_one (Some y) is rest = (each x y is, rest)

-- ---- what is read where zones hold the same

module _ (array : Array) (held other : Contents) where
  -- the place holds the same
  abbrev pub IsSame : Place → Type 0
  IsSame place = bytes_at other place ≡ bytes_at held place

  -- and so do the carriers
  abbrev pub AreSame : List Carrier → Type 0
  AreSame carriers = AllByRecursion (λ (c : Carrier). IsSame c.place) carriers

  pub agreed-same : (carriers : List Carrier) → AreSame carriers → agreed array other carriers ≡ agreed array held carriers
  agreed-same carriers same = ap common_of (map-same (λ (c : Carrier). records_at array other c.place) (λ c. records_at array held c.place) carriers (all-map (λ (c : Carrier). IsSame c.place) (λ c. records_at array other c.place ≡ records_at array held c.place) carriers (λ c same. ap (whole_records array) same) same))

  payload-same : (carriers : List Carrier) (block : ℕ) (m : Marker) → AreSame carriers → payload_of array other carriers block m ≡ payload_of array held carriers block m
  payload-same carriers block m same =
      let k = array.geometry.k in
      ap (λ given. payload_from k given m.payload) (map-same (fragment_on other block m) (fragment_on held block m) (take k carriers) (all-map (λ (c : Carrier). IsSame c.place) (λ c. fragment_on other block m c ≡ fragment_on held block m c) (take k carriers) (λ c same. ap (λ bytes. record { index = c.index; bytes = fragment_at bytes (block + 1) m.fragment }) same) (all-take (λ (c : Carrier). IsSame c.place) k carriers same)))

  records-same : (carriers : List Carrier) (block : ℕ) (ms : List Marker) → AreSame carriers → records_from array other carriers block ms ≡ records_from array held carriers block ms
  records-same carriers block [] same = refl
  records-same carriers block (m ∷ ms) same = ap₂ (λ payload rest. record_by (kind_of m.kind) m payload ∷ rest) (payload-same carriers block m same) (records-same carriers (block + blocks_of m) ms same)

  closed-same : (carriers : List Carrier) → AreSame carriers → are_closed array other carriers ≡ are_closed array held carriers
  closed-same carriers same = list_all-same (λ (c : Carrier). has_foot array (bytes_at other c.place)) (λ c. has_foot array (bytes_at held c.place)) carriers (all-map (λ (c : Carrier). IsSame c.place) (λ c. has_foot array (bytes_at other c.place) ≡ has_foot array (bytes_at held c.place)) carriers (λ c same. ap (has_foot array) same) same)

  -- What is read of a set from carriers that hold the same.
  pub set_from-same : (set : ℕ) (carriers : List Carrier) → AreSame carriers → set_from array other set carriers ≡ set_from array held set carriers
  set_from-same set carriers same =
      ap₂ (λ records closed. record { id = set; carriers = length carriers; records = records; closed = closed })
      (ap (records_from array other carriers 0) (agreed-same carriers same) ∙ records-same carriers 0 (agreed array held carriers) same)
      (closed-same carriers same)

  -- a carrier is one of the places, with a head of its set and index
  pub carrier_among : (P : Place → Type 0) (places : List Place) (set index : ℕ) (carrier : Carrier) → AllByRecursion P places → carrier_of array held places set index ≡ Some carrier → (is_of set index (head_at array held carrier.place) ≡ true) × P carrier.place
  carrier_among P places set index carrier all e = find-is (λ place. is_of set index (head_at array held place)) P places carrier.place all (carries_some index _ carrier e).0

  pub carriers_among : (P : Place → Type 0) (places : List Place) (set : ℕ) → AllByRecursion P places → ((place : Place) (index : ℕ) → is_of set index (head_at array held place) ≡ true → P place → IsSame place) → AreSame (carriers_of array held places set)
  carriers_among P places set all gives =
      all-filter_map (λ (c : Carrier). IsSame c.place) (carrier_of array held places set) (range_with_len 0 (fragments_of array))
      (λ index carrier e. let there = carrier_among P places set index carrier all e in gives carrier.place index there.0 there.1)

  -- the head tells of the set and an index the same
  abbrev pub TellsSame : ℕ → Place → Type 0
  TellsSame set place = (index : ℕ) → is_of set index (head_at array other place) ≡ is_of set index (head_at array held place)

  pub carriers-same : (places : List Place) (set : ℕ) → AllByRecursion (TellsSame set) places → carriers_of array other places set ≡ carriers_of array held places set
  carriers-same places set same =
      filter_map-same (carrier_of array other places set) (carrier_of array held places set) (range_with_len 0 (fragments_of array))
      (λ index. ap (carries index) (find-same (λ place. is_of set index (head_at array other place)) (λ place. is_of set index (head_at array held place)) places (all-map (TellsSame set) (λ place. is_of set index (head_at array other place) ≡ is_of set index (head_at array held place)) places (λ place tells. tells index) same)))

  -- What is read of a set where the heads tell the same, and each place with a head of it holds the same.
  pub read_set-same : (places : List Place) (set : ℕ) → AllByRecursion (TellsSame set) places → AreSame (carriers_of array held places set) → read_set array other places set ≡ read_set array held places set
  read_set-same places set tells same = ap (set_from array other set) (carriers-same places set tells) ∙ set_from-same set (carriers_of array held places set) same

  -- Where all places hold the same the same is read.
  pub reading-same : (places : List Place) → AllByRecursion IsSame places → map (read_set array other places) (ids_at array other places) ≡ map (read_set array held places) (ids_at array held places)
  reading-same places same =
      ap (map (read_set array other places)) (ids_same places same) ∙ each (ids_at array held places)
    where
      ids_same : (places : List Place) → AllByRecursion IsSame places → ids_at array other places ≡ ids_at array held places
      ids_same [] same = refl
      ids_same (place ∷ places) same = ap₂ with_head (ap (λ bytes. first_of (whole_records array bytes)) same.0) (ids_same places same.1)

      tells : (set : ℕ) → AllByRecursion (TellsSame set) places
      tells set = all-map IsSame (TellsSame set) places (λ place same index. ap (λ bytes. is_of set index (first_of (whole_records array bytes))) same) same

      each : (ids : List ℕ) → map (read_set array other places) ids ≡ map (read_set array held places) ids
      each [] = refl
      each (id ∷ ids) = ap₂ ◌∷◌ (read_set-same places id (tells id) (carriers_among IsSame places id same (λ place index is same. same))) (each ids)

-- ---- what is left

-- the place holds what it held before the devices left
abbrev pub StillHolds : Contents → List ℕ → Place → Type 0
StillHolds held leaving place = bytes_at (without_each leaving held) place ≡ bytes_at held place

pub staying_same : (shape : Shape) (held : Contents) (leaving drives : List ℕ) → AllByRecursion (StillHolds held leaving) (places_on shape (outside leaving drives))
staying_same shape held leaving [] = tt
staying_same shape held leaving (drive ∷ drives) = at_one (is_among leaving drive) refl (staying_same shape held leaving drives)
  where
    at_one : (b : Bool) → is_among leaving drive ≡ b → AllByRecursion (StillHolds held leaving) (places_on shape (outside leaving drives)) → AllByRecursion (StillHolds held leaving) (places_on shape (cond (not b) (drive ∷ outside leaving drives) (outside leaving drives)))
    at_one true leaves rest = rest
    at_one false stays rest =
        all-append (StillHolds held leaving) (places_of shape drive) (places_on shape (outside leaving drives))
        (all-map (λ (place : Place). place.device ≡ drive) (StillHolds held leaving) (places_of shape drive) (λ place there. held_without leaving held place.device place.zone ∙ ap (λ b. cond b [] (held place.device place.zone)) (ap (is_among leaving) there ∙ stays)) (places_on_device drive 2 (shape.zones - 2)))
        rest

pub left_is_held_before : LeftIsHeldBefore
left_is_held_before array shape held leaving =
    ap (reading array shape (without_each leaving held)) (present_stay shape held leaving)
    ∙ reading-same array held (without_each leaving held) (places_on shape (outside leaving (present shape held []))) (staying_same shape held leaving (present shape held []))

-- ---- the numbers of the sets

-- What stands first is a whole head.
pub head_is_whole : (array : Array) (bytes : List ℕ) (head : Marker) → first_of (whole_records array bytes) ≡ Some head → IsWhole array bytes 0 head × (may_stand None head ≡ true)
unfolding whole_records
head_is_whole array bytes head e = whether (is_rebuilt (begun array bytes) && not (trailer_follows array bytes (begun array bytes))) e
  where
    first : (ms : List Marker) → Stand array bytes None 0 ms → first_of ms ≡ Some head → IsWhole array bytes 0 head × (may_stand None head ≡ true)
    first [] stand e = absurd cc
    first (m ∷ ms) stand e = let same : m ≡ head = cc in subst (λ (x : Marker). IsWhole array bytes 0 x × (may_stand None x ≡ true)) same (stand.0, stand.1)

    whether : (b : Bool) → first_of (cond b [] (begun array bytes)) ≡ Some head → IsWhole array bytes 0 head × (may_stand None head ≡ true)
    whether true e = absurd cc
    whether false e = first (begun array bytes) (Begin-begun array bytes) e

-- the numbers are above this one, and rise
abbrev pub Rise : ℕ → List ℕ → Type 0
Rise low [] = Unit {0}
Rise low (id ∷ ids) = (low < id) × Rise id ids

pub rise_lower : (low high : ℕ) (ids : List ℕ) → low ≤ high → Rise high ids → Rise low ids
rise_lower low high [] less rise = tt
rise_lower low high (id ∷ ids) less rise = let above = rise.0 in (omega arith, rise.1)

pub with_id-before : (id other : ℕ) (ids : List ℕ) → id < other → with_id id (other ∷ ids) ≡ id ∷ other ∷ ids
with_id-before id other ids less = ap (λ b. cond b (id ∷ other ∷ ids) (cond (eqb id other) (other ∷ ids) (other ∷ with_id id ids))) (lt-ltb id other less)

pub with_id-there : (id other : ℕ) (ids : List ℕ) → id ≡ other → with_id id (other ∷ ids) ≡ other ∷ ids
with_id-there id other ids same =
    ap (λ b. cond b (id ∷ other ∷ ids) (cond (eqb id other) (other ∷ ids) (other ∷ with_id id ids))) (le-ltb id other (omega arith))
    ∙ ap (λ b. cond b (other ∷ ids) (other ∷ with_id id ids)) (eq-eqb id other same)

pub with_id-behind : (id other : ℕ) (ids : List ℕ) → other < id → with_id id (other ∷ ids) ≡ other ∷ with_id id ids
with_id-behind id other ids more =
    ap (λ b. cond b (id ∷ other ∷ ids) (cond (eqb id other) (other ∷ ids) (other ∷ with_id id ids))) (le-ltb id other (omega arith))
    ∙ ap (λ b. cond b (other ∷ ids) (other ∷ with_id id ids)) (ne_eqb id other (λ same. omega arith))

with_id-rises : (low id : ℕ) (ids : List ℕ) → low < id → Rise low ids → Rise low (with_id id ids)
with_id-rises low id [] above rise = (above, tt)
with_id-rises low id (other ∷ ids) above rise = elim (cases_order id other) [
  | inl same ↦ subst (Rise low) (sym (with_id-there id other ids same)) rise
  | inr (inl less) ↦ subst (Rise low) (sym (with_id-before id other ids less)) (above, (less, rise.1))
  | inr (inr more) ↦ subst (Rise low) (sym (with_id-behind id other ids more)) (rise.0, with_id-rises other id ids more rise.1)
]

pub ids_rise : (array : Array) (held : Contents) (places : List Place) → Rise 0 (ids_at array held places)
ids_rise array held [] = tt
ids_rise array held (place ∷ places) = at_one (head_at array held place) refl (ids_rise array held places)
  where
    at_one : (o : Option Marker) → head_at array held place ≡ o → Rise 0 (ids_at array held places) → Rise 0 (with_head o (ids_at array held places))
    at_one None is rest = rest
    at_one (Some head) is rest = let from = (head_is_whole array (bytes_at held place) head is).0.marker.set_from in with_id-rises 0 head.set (ids_at array held places) (omega arith) rest

pub reading_rises : ReadingRises
reading_rises array shape held drives = each 0 (ids_at array held (places_on shape drives)) (ids_rise array held (places_on shape drives))
  where
    each : (low : ℕ) (ids : List ℕ) → Rise low ids → RiseAbove low (map (read_set array held (places_on shape drives)) ids)
    each low [] rise = tt
    each low (id ∷ ids) rise = (rise.0, each id ids rise.1)
