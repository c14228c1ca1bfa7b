-- Reading heads, and finding sets and carriers among them.
use Rattle.std.proofs.Common.{◌≡◌, ℕ, suc, ◌+◌, ◌-◌, ◌<◌, ◌≤◌, max, Bool, true, false, cond, List, [], ◌∷◌, ◌++◌, length, map, drop, get_or, Option, Some, None, IfSome, refl, sym, ap, ap₂, ◌∙◌, arith, append_assoc, append-nil, nat_cmp, subst}
use Rattle.std.specs.Prelude.{option_map, nat_lt, ◌&&◌, ◌==◌}
use Rattle.std.specs.List.{find, filter_map, cons_option, range_with_len, AllByRecursion}
use Rattle.std.specs.Ordering.{match_ordering}
use Rattle.std.specs.declared.cmp.Ordering.TheVariants.{Less, Equal, Greater}
use Rattle.std.specs.BTreeSet.{insert_key}
use Rattle.std.proofs.Math.Seq.{drop-cons}
use Rattle.std.proofs.lemmas.List.{map-append}
use Rattle.std.proofs.lemmas.List.Elements.{filter_map-append}
use Rattle.zone_bay.specs.Contents.{Shape, Contents}
use Rattle.zone_bay.specs.Bay.{BayState}
use Rattle.marker_format.specs.declared.marker.Marker.{Marker}
use Rattle.marker_format.specs.Zone.{Array}
use Rattle.array_model.specs.Drives.{Place, head_at, is_of, places_on}
use Rattle.array_model.specs.Reading as model
use Rattle.array_model.proofs.SameZones.{all-append}
use Rattle.array_scan.specs.Calls.{OnlyRead}
use Rattle.array_scan.specs.declared.heads.HeadAt.{HeadAt}
use Rattle.array_scan.specs.declared.set_read.ZonePlace.{ZonePlace}
use Rattle.array_scan.specs.declared.set_read.Carrier.{Carrier}
use Rattle.array_scan.specs.SetRead.{place_of, carrier_of, IsPlaceIn, IsCarrierIn, RiseBelow}
use Rattle.array_scan.specs.Heads.{IsHeadIn, head_seen, heads_at, places_of, ids_of, is_head_of, place_found, carriers_in}
use Rattle.array_scan.proofs.Calls.{told_at, told_from, read_nothing, read_then}
use Rattle.array_scan.proofs.Ranges.{range_more, filter_map-range_more}

-- ---- reading

-- the first set zones of a drive
abbrev pub first_places : ℕ → ℕ → List Place
first_places device count = map (λ zone. record { device = device; zone = zone }) (range_with_len 2 count)

pub heads-append : (array : Array) (held : Contents) (some more : List Place) → heads_at array held (some ++ more) ≡ heads_at array held some ++ heads_at array held more
heads-append array held some more = filter_map-append (λ (p : Place). head_seen p (head_at array held p)) some more

-- what is known of the heads of a drive that were read so far
pub record DriveRead (array : Array) (device : ℕ) (before now : BayState) (first heads : List HeadAt) (zone : ℕ) : Type 0 where
  pub read : OnlyRead before now None
  pub from : 2 ≤ zone
  pub most : zone ≤ max 2 before.shape.zones
  pub within : AllByRecursion (IsHeadIn before.shape) heads
  pub told : IfSome before.contents (λ held. heads ≡ first ++ heads_at array held (first_places device (zone - 2)))

pub drive_none : (array : Array) (device : ℕ) (bay : BayState) (first : List HeadAt) → AllByRecursion (IsHeadIn bay.shape) first → DriveRead array device bay bay first first 2
drive_none array device bay first in_bay = record { read = read_nothing bay; from = omega arith; most = omega arith; within = in_bay; told = told_from bay.contents _ (λ held is. sym (append-nil first)) }

pub drive_more : (array : Array) (device : ℕ) (before mid after : BayState) (first heads : List HeadAt) (zone : ℕ) (head : Option Marker) → device < before.shape.devices → DriveRead array device before mid first heads zone → zone < before.shape.zones → OnlyRead mid after None
    → IfSome mid.contents (λ held. head ≡ head_at array held (record { device = device; zone = zone }))
    → DriveRead array device before after first (heads ++ cons_option (head_seen (record { device = device; zone = zone }) head) []) (zone + 1)
drive_more array device before mid after first heads zone head in_bay so_far within read found = record {
  read = read_then before mid after None so_far.read read;
  from = let from = so_far.from in omega arith;
  most = omega (arith, within);
  within = all-append (IsHeadIn before.shape) heads (cons_option (head_seen (record { device = device; zone = zone }) head) []) so_far.within (own head);
  told = told_from before.contents _ (λ held is.
      let count = zone - 2 in
      let here : Place = record { device = device; zone = zone } in
      let one_more : zone + 1 - 2 ≡ count + 1 = let from = so_far.from in omega arith in
      let places : first_places device (zone + 1 - 2) ≡ first_places device count ++ here ∷ [] =
      ap (first_places device) one_more ∙ ap (map (λ z. record { device = device; zone = z })) (range_more 2 count zone (let from = so_far.from in omega arith)) ∙ map-append (λ z. record { device = device; zone = z }) (range_with_len 2 count) (zone ∷ []) in
      ap₂ ◌++◌ (told_at before.contents _ held is so_far.told) (ap (λ o. cons_option (head_seen here o) []) (told_at mid.contents _ held (so_far.read.only.contents ∙ is) found))
      ∙ append_assoc first (heads_at array held (first_places device count)) (cons_option (head_seen here (head_at array held here)) [])
      ∙ ap (λ l. first ++ l) (sym (heads-append array held (first_places device count) (here ∷ [])))
      ∙ ap (λ l. first ++ heads_at array held l) (sym places));
}
  where
    own : (head : Option Marker) → AllByRecursion (IsHeadIn before.shape) (cons_option (head_seen (record { device = device; zone = zone }) head) [])
    own None = tt
    own (Some m) = (record { device = in_bay; zone = within }, tt)

pub drive_all : (array : Array) (device : ℕ) (before now : BayState) (first heads : List HeadAt) (zone : ℕ) → DriveRead array device before now first heads zone → before.shape.zones ≤ zone
    → IfSome before.contents (λ held. heads ≡ first ++ heads_at array held (places_of before.shape device))
drive_all array device before now first heads zone so_far end = told_from before.contents _ (λ held is.
    told_at before.contents _ held is so_far.told ∙ ap (λ n. first ++ heads_at array held (first_places device n)) (let from = so_far.from in let most = so_far.most in omega arith))

-- what is known of the heads of the drives that were read so far
pub record DrivesRead (array : Array) (before now : BayState) (drives : List ℕ) (heads : List HeadAt) : Type 0 where
  pub read : OnlyRead before now None
  pub within : AllByRecursion (IsHeadIn before.shape) heads
  pub told : IfSome before.contents (λ held. heads ≡ heads_at array held (places_on before.shape drives))

pub drives_none : (array : Array) (bay : BayState) → DrivesRead array bay bay [] []
drives_none array bay = record { read = read_nothing bay; within = tt; told = told_from bay.contents _ (λ held is. refl) }

places-push : (shape : Shape) (drives : List ℕ) (drive : ℕ) → places_on shape (drives ++ drive ∷ []) ≡ places_on shape drives ++ places_of shape drive
places-push shape [] drive = append-nil (places_of shape drive)
places-push shape (d ∷ drives) drive = ap (λ l. places_of shape d ++ l) (places-push shape drives drive) ∙ sym (append_assoc (places_of shape d) (places_on shape drives) (places_of shape drive))

pub drives_more : (array : Array) (before mid after : BayState) (drives : List ℕ) (drive : ℕ) (heads more : List HeadAt) → DrivesRead array before mid drives heads → OnlyRead mid after None → AllByRecursion (IsHeadIn mid.shape) more
    → IfSome mid.contents (λ held. more ≡ heads ++ heads_at array held (places_of mid.shape drive)) → DrivesRead array before after (drives ++ drive ∷ []) more
drives_more array before mid after drives drive heads more so_far read in_bay found = record {
  read = read_then before mid after None so_far.read read;
  within = subst (λ (s : Shape). AllByRecursion (IsHeadIn s) more) so_far.read.only.goes_on.same_shape in_bay;
  told = told_from before.contents _ (λ held is.
      told_at mid.contents _ held (so_far.read.only.contents ∙ is) found
      ∙ ap (λ (s : Shape). heads ++ heads_at array held (places_of s drive)) so_far.read.only.goes_on.same_shape
      ∙ ap (λ l. l ++ heads_at array held (places_of before.shape drive)) (told_at before.contents _ held is so_far.told)
      ∙ sym (heads-append array held (places_on before.shape drives) (places_of before.shape drive))
      ∙ ap (heads_at array held) (sym (places-push before.shape drives drive)));
}

-- ---- the numbers of sets

inserted : (id other : ℕ) (ids : List ℕ) → insert_key nat_cmp ids id ≡ model.with_id id ids → insert_key nat_cmp (other ∷ ids) id ≡ model.with_id id (other ∷ ids)
inserted id other ids rest = at_tests (nat_lt id other) (id == other)
  where
    at_tests : (a b : Bool) → match_ordering (cond a Less (cond b Equal Greater)) (id ∷ other ∷ ids) (other ∷ ids) (other ∷ insert_key nat_cmp ids id) ≡ cond a (id ∷ other ∷ ids) (cond b (other ∷ ids) (other ∷ model.with_id id ids))
    at_tests true b = refl
    at_tests false true = refl
    at_tests false false = ap (λ l. other ∷ l) rest

pub insert-with_id : (id : ℕ) (ids : List ℕ) → insert_key nat_cmp ids id ≡ model.with_id id ids
insert-with_id id [] = refl
insert-with_id id (other ∷ ids) = inserted id other ids (insert-with_id id ids)

-- the sets of the heads are those of the places
pub ids-heads : (array : Array) (held : Contents) (places : List Place) → ids_of (heads_at array held places) ≡ model.ids_at array held places
ids-heads array held [] = refl
ids-heads array held (place ∷ places) = at_head (head_at array held place) (ids-heads array held places)
  where
    at_head : (o : Option Marker) → ids_of (heads_at array held places) ≡ model.ids_at array held places → ids_of (cons_option (head_seen place o) (heads_at array held places)) ≡ model.with_head o (model.ids_at array held places)
    at_head None rest = rest
    at_head (Some m) rest = ap (model.with_id m.set) rest

-- ---- carriers

-- the place of a head
found_at : (array : Array) (held : Contents) (set index : ℕ) (places : List Place) → option_map place_of (place_found (heads_at array held places) set index) ≡ find (λ place. is_of set index (head_at array held place)) places
found_at array held set index [] = refl
found_at array held set index (place ∷ places) = at_head (head_at array held place) (heads_at array held places) (find (λ place. is_of set index (head_at array held place)) places) (found_at array held set index places)
  where
    at_test : (b : Bool) (m : Marker) (heads : List HeadAt) (found : Option Place) → option_map place_of (place_found heads set index) ≡ found
        → option_map place_of (option_map (λ (h : HeadAt). h.place) (cond b (Some (record { place = record { device = place.device; zone = place.zone }; set = m.set; index = m.index })) (find (is_head_of set index) heads))) ≡ cond b (Some place) found
    at_test true m heads found rest = refl
    at_test false m heads found rest = rest

    at_head : (o : Option Marker) (heads : List HeadAt) (found : Option Place) → option_map place_of (place_found heads set index) ≡ found → option_map place_of (place_found (cons_option (head_seen place o) heads) set index) ≡ cond (is_of set index o) (Some place) found
    at_head None heads found rest = rest
    at_head (Some m) heads found rest = at_test ((m.set == set) && (m.index == index)) m heads found rest

filter_map-same : {Y : Type 0} (f g : ℕ → Option Y) (xs : List ℕ) → ((x : ℕ) → f x ≡ g x) → filter_map f xs ≡ filter_map g xs
filter_map-same {Y} f g xs each = ap (λ (h : ℕ → Option Y). filter_map h xs) (λ i x. each x i)

-- the carriers of a set among the heads are those among the places
pub carriers-heads : (array : Array) (held : Contents) (places : List Place) (set : ℕ) → carriers_in (heads_at array held places) set (model.fragments_of array) ≡ model.carriers_of array held places set
carriers-heads array held places set = filter_map-same _ _ (range_with_len 0 (model.fragments_of array)) (λ index. ap (model.carries index) (found_at array held set index places))

-- one more of the heads, from the last one on
pub ids_more : (heads : List HeadAt) (keys : List ℕ) (i : ℕ) (d : HeadAt) → i < length heads → keys ≡ ids_of (drop (length heads - i) heads) → insert_key nat_cmp keys (get_or heads (length heads - 1 - i) d).set ≡ ids_of (drop (length heads - (i + 1)) heads)
ids_more heads keys i d below so_far =
    let j = length heads - (i + 1) in
    let here : length heads - 1 - i ≡ j = omega arith in
    let behind : suc j ≡ length heads - i = omega (arith, below) in
    insert-with_id (get_or heads (length heads - 1 - i) d).set keys
    ∙ ap (λ (n : ℕ). model.with_id (get_or heads n d).set keys) here
    ∙ ap (model.with_id (get_or heads j d).set) (so_far ∙ ap (λ n. ids_of (drop n heads)) (sym behind))
    ∙ ap ids_of (sym (drop-cons heads j d (omega (arith, below))))

-- one more index of the carriers
carriers_more : (heads : List HeadAt) (set index : ℕ) (carriers : List Carrier) (found : Option ZonePlace) → found ≡ place_found heads set index → map carrier_of carriers ≡ carriers_in heads set index
    → map carrier_of carriers ++ cons_option (model.carries index (option_map place_of found)) [] ≡ carriers_in heads set (index + 1)
carriers_more heads set index carriers found is so_far =
    ap₂ ◌++◌ so_far (ap (λ o. cons_option (model.carries index (option_map place_of o)) []) is)
    ∙ sym (filter_map-range_more (λ i. model.carries i (option_map place_of (place_found heads set i))) 0 index index (omega arith))

-- the place that is found is one of the bay
pub found_in : (shape : Shape) (heads : List HeadAt) (set index : ℕ) → AllByRecursion (IsHeadIn shape) heads → IfSome (place_found heads set index) (IsPlaceIn shape)
found_in shape [] set index all = tt
found_in shape (head ∷ heads) set index all = at_test (is_head_of set index head) (found_in shape heads set index all.1)
  where
    at_test : (b : Bool) → IfSome (place_found heads set index) (IsPlaceIn shape) → IfSome (option_map (λ (h : HeadAt). h.place) (cond b (Some head) (find (is_head_of set index) heads))) (IsPlaceIn shape)
    at_test true rest = all.0
    at_test false rest = rest

-- what is known of the carriers that were found so far
pub record Found (heads : List HeadAt) (set index : ℕ) (carriers : List Carrier) : Type 0 where
  pub found : map carrier_of carriers ≡ carriers_in heads set index
  pub rising : RiseBelow 0 index carriers
  pub within : (shape : Shape) → AllByRecursion (IsHeadIn shape) heads → AllByRecursion (IsCarrierIn shape) carriers

pub found_none : (heads : List HeadAt) (set : ℕ) → Found heads set 0 []
found_none heads set = record { found = refl; rising = tt; within = λ shape all. tt }

rise_wider : (low high more : ℕ) (carriers : List Carrier) → high ≤ more → RiseBelow low high carriers → RiseBelow low more carriers
rise_wider low high more [] less rise = tt
rise_wider low high more (c ∷ carriers) less rise = let below = rise.1 in (rise.0, omega arith, rise_wider (c.index + 1) high more carriers less rise.2)

rise_push : (low high : ℕ) (carriers : List Carrier) (place : ZonePlace) → low ≤ high → RiseBelow low high carriers → RiseBelow low (high + 1) (carriers ++ record { index = high; place = place } ∷ [])
rise_push low high [] place less rise = (less, omega arith, tt)
rise_push low high (c ∷ carriers) place less rise = let below = rise.1 in (rise.0, omega arith, rise_push (c.index + 1) high carriers place (omega arith) rise.2)

pub found_more : (heads : List HeadAt) (set index : ℕ) (carriers : List Carrier) (place : ZonePlace) → place_found heads set index ≡ Some place → Found heads set index carriers → Found heads set (index + 1) (carriers ++ record { index = index; place = place } ∷ [])
found_more heads set index carriers place is so_far = record {
  found = map-append carrier_of carriers (record { index = index; place = place } ∷ []) ∙ carriers_more heads set index carriers (Some place) (sym is) so_far.found;
  rising = rise_push 0 index carriers place (omega arith) so_far.rising;
  within = λ shape all. all-append (IsCarrierIn shape) carriers (record { index = index; place = place } ∷ []) (so_far.within shape all) (subst (λ (o : Option ZonePlace). IfSome o (IsPlaceIn shape)) is (found_in shape heads set index all), tt);
}

pub found_past : (heads : List HeadAt) (set index : ℕ) (carriers : List Carrier) → place_found heads set index ≡ None → Found heads set index carriers → Found heads set (index + 1) carriers
found_past heads set index carriers is so_far = record {
  found = sym (append-nil (map carrier_of carriers)) ∙ carriers_more heads set index carriers None (sym is) so_far.found;
  rising = rise_wider 0 index (index + 1) carriers (omega arith) so_far.rising;
  within = so_far.within;
}
