-- What is read of a bay where zone 2 of drive 0 is the only set zone that is written.
use Rattle.std.proofs.Common.{◌≡◌, ◌≢◌, ◌⊎◌, inl, inr, ℕ, zero, suc, ◌+◌, ◌-◌, ◌<◌, ◌≤◌, Bool, true, false, cond, List, [], ◌∷◌, ◌++◌, map, Some, None, is_some, refl, sym, ap, ◌∙◌, arith}
use Rattle.std.specs.Prelude.{◌&&◌, ◌==◌}
use Rattle.std.specs.List.{AllByRecursion, filter, find, filter_map, cons_option, flat_map, range_with_len}
use Rattle.std.proofs.lemmas.Bool.{cases_lt, eq-eqb}
use Rattle.zone_bay.specs.Contents.{Shape, Contents}
use Rattle.marker_format.specs.declared.marker.Marker.{Marker}
use Rattle.marker_format.specs.Zone.{Array, whole_records, begun, records_from}
use Rattle.array_model.specs.Drives.{Place, is_present, present, places_on, label_on, bytes_at, first_of, head_at, is_of}
use Rattle.array_model.specs.Reading.{Carrier, carries, carrier_of, carriers_of, fragments_of, set_from, read_set, with_id, with_head, ids_at, read_of}
use Rattle.array_model.proofs.SameZones.{all-append}
use Rattle.store_core.specs.Opening.{IsAlone}

-- ---- lists

all_range : (P : ℕ → Type 0) (first count : ℕ) → ((n : ℕ) → first ≤ n → n < first + count → P n) → AllByRecursion P (range_with_len first count)
all_range P first zero each = tt
all_range P first (suc count) each = (each first (omega arith) (omega arith), all_range P (first + 1) count (λ n from to. each n (omega (arith, from)) (omega (arith, to))))

all_filter : {X : Type 0} (P : X → Type 0) (test : X → Bool) (xs : List X) → AllByRecursion P xs → AllByRecursion P (filter test xs)
all_filter P test [] each = tt
all_filter P test (x ∷ xs) each = at_one (test x) (all_filter P test xs each.1)
  where
    at_one : (b : Bool) → AllByRecursion P (filter test xs) → AllByRecursion P (cond b (x ∷ filter test xs) (filter test xs))
    at_one true rest = (each.0, rest)
    at_one false rest = rest

all_map : {X Y : Type 0} (P : Y → Type 0) (f : X → Y) (xs : List X) → AllByRecursion (λ x. P (f x)) xs → AllByRecursion P (map f xs)
all_map P f [] each = tt
all_map P f (x ∷ xs) each = (each.0, all_map P f xs each.1)

all_flat_map : {X Y : Type 0} (Q : X → Type 0) (P : Y → Type 0) (f : X → List Y) (xs : List X) → ((x : X) → Q x → AllByRecursion P (f x)) → AllByRecursion Q xs → AllByRecursion P (flat_map f xs)
all_flat_map Q P f [] each all = tt
all_flat_map Q P f (x ∷ xs) each all = all-append P (f x) (flat_map f xs) (each x all.0) (all_flat_map Q P f xs each all.1)

-- ---- zones that hold nothing

whole_nothing : (array : Array) → whole_records array [] ≡ []
unfolding whole_records begun records_from
whole_nothing array = refl

-- a place that holds nothing
abbrev IsEmpty : Contents → Place → Type 0
IsEmpty held place = bytes_at held place ≡ []

no_head : (array : Array) (held : Contents) (place : Place) → IsEmpty held place → head_at array held place ≡ None
no_head array held place empty = ap (λ (bytes : List ℕ). first_of (whole_records array bytes)) empty ∙ ap first_of (whole_nothing array)

no_ids : (array : Array) (held : Contents) (places : List Place) → AllByRecursion (IsEmpty held) places → ids_at array held places ≡ []
no_ids array held [] empty = refl
no_ids array held (place ∷ places) empty = ap (λ o. with_head o (ids_at array held places)) (no_head array held place empty.0) ∙ no_ids array held places empty.1

none_found : (array : Array) (held : Contents) (set index : ℕ) (places : List Place) → AllByRecursion (IsEmpty held) places → find (λ place. is_of set index (head_at array held place)) places ≡ None
none_found array held set index [] empty = refl
none_found array held set index (place ∷ places) empty =
    ap (λ o. cond (is_of set index o) (Some place) (find (λ p. is_of set index (head_at array held p)) places)) (no_head array held place empty.0)
    ∙ none_found array held set index places empty.1

-- ---- places

abbrev pub the_place : Place
the_place = record { device = 0; zone = 2 }

abbrev zones_on : ℕ → ℕ → ℕ → List Place
zones_on device first count = map (λ zone. record { device = device; zone = zone }) (range_with_len first count)

module _ (shape : Shape) (held : Contents) (drives : 1 < shape.devices) (zones : 2 < shape.zones) (label : is_some (label_on shape held 0) ≡ true) where
  abbrev more_drives : List ℕ
  more_drives = filter (is_present shape held []) (range_with_len 1 (shape.devices - 2))

  drive_present : present shape held [] ≡ 0 ∷ more_drives
  drive_present =
      ap (λ n. filter (is_present shape held []) (range_with_len 0 n)) (let n : shape.devices - 1 ≡ suc (shape.devices - 2) = omega arith in n)
      ∙ ap (λ b. cond b (0 ∷ more_drives) more_drives) label

  abbrev pub other_places : List Place
  other_places = zones_on 0 3 (shape.zones - 3) ++ places_on shape more_drives

  pub places_are : places_on shape (present shape held []) ≡ the_place ∷ other_places
  places_are =
      ap (places_on shape) drive_present
      ∙ ap (λ n. zones_on 0 2 n ++ places_on shape more_drives) (let n : shape.zones - 2 ≡ suc (shape.zones - 3) = omega arith in n)

  module _ (alone : IsAlone shape held) where
    zone_empty : (d : ℕ) → d + 1 < shape.devices → (first count : ℕ) → 2 ≤ first → first + count ≤ shape.zones → ((z : ℕ) → first ≤ z → (d ≢ 0) ⊎ (z ≢ 2)) → AllByRecursion (IsEmpty held) (zones_on d first count)
    zone_empty d drive first count from to other = all_map (IsEmpty held) _ (range_with_len first count) (all_range _ first count (λ z above below. alone d z drive (omega (arith, from, above)) (omega (arith, to, below)) (other z above)))

    pub others_empty : AllByRecursion (IsEmpty held) other_places
    others_empty = all-append (IsEmpty held) (zones_on 0 3 (shape.zones - 3)) (places_on shape more_drives)
        (zone_empty 0 (omega (arith, drives)) 3 (shape.zones - 3) (omega arith) (omega (arith, zones)) (λ z above. inr (λ is. omega (arith, is, above))))
        (all_flat_map (λ d. (1 ≤ d) × (d + 1 < shape.devices)) (IsEmpty held) (λ d. zones_on d 2 (shape.zones - 2)) more_drives
        (λ d is. zone_empty d is.1 2 (shape.zones - 2) (omega arith) (omega (arith, zones)) (λ z above. inl (λ zero_is. omega (arith, zero_is, is.0))))
        (all_filter _ (is_present shape held []) (range_with_len 1 (shape.devices - 2)) (all_range _ 1 (shape.devices - 2) (λ d above below. (above, omega (arith, below, drives))))))

-- ---- what is read

module _ (array : Array) (shape : Shape) (held : Contents) (drives : 1 < shape.devices) (zones : 2 < shape.zones) (label : is_some (label_on shape held 0) ≡ true) (alone : IsAlone shape held) where
  others : List Place
  others = other_places shape held drives zones label

  empty : AllByRecursion (IsEmpty held) others
  unfolding others
  empty = others_empty shape held drives zones label alone

  read_at : read_of array shape held ≡ map (read_set array held (the_place ∷ others)) (ids_at array held (the_place ∷ others))
  unfolding others
  read_at = ap (λ (places : List Place). map (read_set array held places) (ids_at array held places)) (places_are shape held drives zones label)

  -- a zone without records
  pub read_none : whole_records array (held 0 2) ≡ [] → read_of array shape held ≡ []
  read_none none = read_at ∙ ap (map (read_set array held (the_place ∷ others))) (ap (λ o. with_head o (ids_at array held others)) (ap first_of none) ∙ no_ids array held others empty)

  -- a blank zone
  pub read_nothing : held 0 2 ≡ [] → read_of array shape held ≡ []
  read_nothing blank = read_none (ap (λ (l : List ℕ). whole_records array l) blank ∙ whole_nothing array)

  module _ (head : Marker) (ms : List Marker) (whole : whole_records array (held 0 2) ≡ head ∷ ms) where
    here : head_at array held the_place ≡ Some head
    here = ap first_of whole

    ids : ids_at array held (the_place ∷ others) ≡ head.set ∷ []
    ids = ap (λ o. with_head o (ids_at array held others)) here ∙ ap (with_id head.set) (no_ids array held others empty)

    carrier_at : (index : ℕ) → carrier_of array held (the_place ∷ others) head.set index ≡ cond (head.index == index) (Some (record { index = index; place = the_place })) None
    carrier_at index =
        ap (λ o. carries index (cond (is_of head.set index o) (Some the_place) (find (λ place. is_of head.set index (head_at array held place)) others))) here
        ∙ ap (λ b. carries index (cond (b && (head.index == index)) (Some the_place) (find (λ place. is_of head.set index (head_at array held place)) others))) (eq-eqb head.set head.set refl)
        ∙ ap (λ o. carries index (cond (head.index == index) (Some the_place) o)) (none_found array held head.set index others empty)
        ∙ at_one (head.index == index)
      where
        at_one : (b : Bool) → carries index (cond b (Some the_place) None) ≡ cond b (Some (record { index = index; place = the_place })) None
        at_one true = refl
        at_one false = refl

    abbrev pub the_carrier : Carrier
    the_carrier = record { index = head.index; place = the_place }

    -- the only carrier
    carriers : fragments_of array ≡ 2 → head.index < 2 → carriers_of array held (the_place ∷ others) head.set ≡ the_carrier ∷ []
    carriers two index =
        ap (λ n. filter_map (carrier_of array held (the_place ∷ others) head.set) (range_with_len 0 n)) two
        ∙ ap (λ o. cons_option o (cons_option (carrier_of array held (the_place ∷ others) head.set 1) [])) (carrier_at 0)
        ∙ ap (λ o. cons_option (cond (head.index == 0) (Some (record { index = 0; place = the_place })) None) (cons_option o [])) (carrier_at 1)
        ∙ at_one (cases_lt head.index 1)
      where
        at_one : (head.index < 1) ⊎ (1 ≤ head.index) → cons_option (cond (head.index == 0) (Some (record { index = 0; place = the_place })) None) (cons_option (cond (head.index == 1) (Some (record { index = 1; place = the_place })) None) []) ≡ the_carrier ∷ []
        at_one (inl l) =
            let is : head.index ≡ 0 = omega (arith, l) in
            ap (λ n. cons_option (cond (n == 0) (Some (record { index = 0; place = the_place })) None) (cons_option (cond (n == 1) (Some (record { index = 1; place = the_place })) None) [])) is
            ∙ ap (λ n. record { index = n; place = the_place } ∷ []) (sym is)
        at_one (inr l) =
            let is : head.index ≡ 1 = omega (arith, l, index) in
            ap (λ n. cons_option (cond (n == 0) (Some (record { index = 0; place = the_place })) None) (cons_option (cond (n == 1) (Some (record { index = 1; place = the_place })) None) [])) is
            ∙ ap (λ n. record { index = n; place = the_place } ∷ []) (sym is)

    -- the set of the head, from its carrier
    pub read_one : fragments_of array ≡ 2 → head.index < 2 → read_of array shape held ≡ set_from array held head.set (the_carrier ∷ []) ∷ []
    read_one two index = read_at ∙ refl ∙ ap (map (read_set array held (the_place ∷ others))) ids ∙ ap (λ (cs : List Carrier). set_from array held head.set cs ∷ []) (carriers two index)
