-- What a bay says to a core that stands behind its records.
use Rattle.std.proofs.Common.{◌≡◌, ◌≢◌, ◌⊎◌, inl, inr, ℕ, ◌+◌, ◌*◌, ◌<◌, ◌≤◌, Bool, true, false, cond, List, [], ◌∷◌, length, Option, Some, None, is_some, refl, sym, ap, subst, ◌∙◌, arith}
use Rattle.std.specs.Prelude.{◌||◌, ◌&&◌, ◌==◌, option_map, max}
use Rattle.std.specs.List.{AllByRecursion, list_any}
use Rattle.std.specs.FinMap as finmap
use Rattle.std.proofs.lemmas.Bool.{and_parts, eqb-true, ne_eqb}
use Rattle.std.proofs.lemmas.List.{length-take}
use Rattle.zone_bay.specs.Contents.{Shape, Contents, with_zone}
use Rattle.zone_bay.proofs.Extends.{at_zone}
use Rattle.marker_format.specs.declared.kind.Kind.{Kind}
use Rattle.marker_format.specs.declared.kind.Kind.TheVariants as kinds
use Rattle.marker_format.specs.declared.marker.Marker.{Marker}
use Rattle.marker_format.specs.Kind.{kind_of, code_of}
use Rattle.marker_format.specs.Zone as zone
use Rattle.marker_format.specs.Zone.{Array, has_kind, end_from, whole_records, Stand, belongs}
use Rattle.array_model.specs.Drives.{label_on}
use Rattle.marker_format.specs.Fragment.{fragment_at}
use Rattle.array_model.specs.Record.{Record, is_ready}
use Rattle.array_model.specs.Reading.{Carrier, record_by, records_from, are_closed, read_of}
use Rattle.array_model.specs.Map.{value_of, map_of}
use Rattle.array_model.proofs.Carriers.{label_on-is}
use Rattle.store_core.specs.declared.zone.OpenZone.{OpenZone}
use Rattle.store_core.specs.declared.index.Index.{Index}
use Rattle.store_core.specs.Extent.{extent_of, extents_of}
use Rattle.store_core.specs.Index.{notes_in, parts_in, extent_in, extents_in}
use Rattle.store_core.specs.Zone.{counter_of, next_stamp}
use Rattle.store_core.specs.Opening.{IsOpenZone, IsAlone}
use Rattle.store_core.specs.Held.{used, IsHeld}
use Rattle.store_core.proofs.SaidLaws.{kind_known}
use Rattle.store_core.proofs.Mapped.{get-mapped, same_by_name}
use Rattle.store_core.proofs.OneZone.{the_place, read_one, read_nothing}
use Rattle.store_core.proofs.ZoneItems.{items_from, read_alone}
use Rattle.store_core.proofs.ObjectMaps.{IsBelow, one_set, map_is, objects_of, get-objects}
use Rattle.store_core.proofs.HeldItems.{extents_found}
use Rattle.store_core.proofs.OpenZones.{IsFilled, open_filled}
use Rattle.store_core.proofs.SetRecords.{whole_begin}

-- ---- the records of a zone

ready_one : (m : Marker) (payload : List ℕ) → is_ready (record_by (kind_of m.kind) m payload) ≡ has_kind kinds.Ready m
ready_one m payload = at_one (kind_of m.kind) refl
  where
    at_one : (kind : Option Kind) → kind_of m.kind ≡ kind → is_ready (record_by kind m payload) ≡ has_kind kinds.Ready m
    at_one (Some kinds.Head) is = sym (kind_known m kinds.Head kinds.Ready is)
    at_one (Some kinds.Part) is = sym (kind_known m kinds.Part kinds.Ready is)
    at_one (Some kinds.Put) is = sym (kind_known m kinds.Put kinds.Ready is)
    at_one (Some kinds.Delete) is = sym (kind_known m kinds.Delete kinds.Ready is)
    at_one (Some kinds.Cut) is = sym (kind_known m kinds.Cut kinds.Ready is)
    at_one (Some kinds.Ready) is = sym (kind_known m kinds.Ready kinds.Ready is)
    at_one (Some kinds.Digest) is = sym (kind_known m kinds.Digest kinds.Ready is)
    at_one (Some kinds.Snapshot) is = sym (kind_known m kinds.Snapshot kinds.Ready is)
    at_one (Some kinds.Trailer) is = sym (kind_known m kinds.Trailer kinds.Ready is)
    at_one None is = by (has_kind kinds.Ready m) refl
      where
        by : (b : Bool) → has_kind kinds.Ready m ≡ b → false ≡ b
        by true e = let no : kind_of m.kind ≡ Some kinds.Ready = ap kind_of (eqb-true m.kind 6 e) in absurd cc
        by false e = refl

pub ready_items : (bytes : List ℕ) (block : ℕ) (ms : List Marker) → list_any is_ready (items_from bytes block ms) ≡ list_any (has_kind kinds.Ready) ms
ready_items bytes block [] = refl
ready_items bytes block (m ∷ ms) =
    ap (λ b. b || list_any is_ready (items_from bytes (block + zone.blocks_of m) ms)) (ready_one m (fragment_at bytes (block + 1) m.payload))
    ∙ ap (λ b. has_kind kinds.Ready m || b) (ready_items bytes (block + zone.blocks_of m) ms)

-- their counters are below the stamp that comes next
below_one : (m : Marker) (payload : List ℕ) (stamp : ℕ) → counter_of m < stamp → IsBelow stamp (record_by (kind_of m.kind) m payload)
below_one m payload stamp below = at_one (kind_of m.kind) refl
  where
    counter : (kind : Kind) → kind_of m.kind ≡ Some kind → (code_of kind == 5) ≡ false → max m.stamp m.upload < stamp
    counter kind is apart = subst (λ b. cond b m.stamp (max m.stamp m.upload) < stamp) (kind_known m kind kinds.Cut is ∙ apart) below

    at_one : (kind : Option Kind) → kind_of m.kind ≡ kind → IsBelow stamp (record_by kind m payload)
    at_one (Some kinds.Part) is = omega (arith, counter kinds.Part is refl)
    at_one (Some kinds.Put) is = let most = counter kinds.Put is refl in (omega (arith, most), omega (arith, most))
    at_one (Some kinds.Delete) is = omega (arith, counter kinds.Delete is refl)
    at_one (Some kinds.Head) is = tt
    at_one (Some kinds.Cut) is = tt
    at_one (Some kinds.Ready) is = tt
    at_one (Some kinds.Digest) is = tt
    at_one (Some kinds.Snapshot) is = tt
    at_one (Some kinds.Trailer) is = tt
    at_one None is = tt

pub below_all : (bytes : List ℕ) (block : ℕ) (ms : List Marker) (stamp : ℕ) → next_stamp ms ≤ stamp → AllByRecursion (IsBelow stamp) (items_from bytes block ms)
below_all bytes block [] stamp later = tt
below_all bytes block (m ∷ ms) stamp later = (below_one m (fragment_at bytes (block + 1) m.payload) stamp (omega (arith, later)), below_all bytes (block + zone.blocks_of m) ms stamp (omega (arith, later)))

pub some_there : (test : Marker → Bool) (ms : List Marker) → list_any test ms ≡ true → (head : Marker) × (rest : List Marker) × (ms ≡ head ∷ rest)
some_there test [] e = absurd cc
some_there test (head ∷ rest) e = (head, rest, refl)

-- ---- the map of what is held

-- the bay has a label on drive 0, and its zone 2 alone has records
module _ (array : Array) (shape : Shape) (one : array.geometry.k ≡ 1) (p : array.geometry.p ≡ 1) (drives : 1 < shape.devices) (zones : 2 < shape.zones) where
  map_at : (held : Contents) (label : is_some (label_on shape held 0) ≡ true) (alone : IsAlone shape held) (head : Marker) (rest : List Marker) (whole : whole_records array (held 0 2) ≡ head ∷ rest)
      → Stand array (held 0 2) None 0 (head ∷ rest) → list_any (has_kind kinds.Ready) (head ∷ rest) ≡ true
      → map_of array.geometry.k (read_of array shape held) ≡ objects_of (items_from (held 0 2) 0 (head ∷ rest))
  map_at held label alone head rest whole stand ready =
      let carrier : Carrier = record { index = head.index; place = the_place } in
      let closed = are_closed array held (carrier ∷ []) in
      let two = eqb-true head.n (array.geometry.k + array.geometry.p) (and_parts _ _ (and_parts _ _ (and_parts _ _ stand.0.ours).0).0).1 in
      let index : head.index < 2 = omega (arith, stand.0.marker.index_to, two, one, p) in
      let fragments : array.geometry.k + array.geometry.p ≡ 2 = omega (arith, one, p) in
      let items = items_from (held 0 2) 0 (head ∷ rest) in
      ap (map_of array.geometry.k) (read_one array shape held drives zones label alone head rest whole fragments index)
      ∙ ap (λ n. map_of n (one_set head.set closed (records_from array held (carrier ∷ []) 0 (whole_records array (held 0 2))) ∷ [])) one
      ∙ ap (λ (l : List Record). map_of 1 (one_set head.set closed l ∷ [])) (ap (records_from array held (carrier ∷ []) 0) whole ∙ read_alone array held carrier None 0 (head ∷ rest) one stand)
      ∙ map_is head.set closed items (ready_items (held 0 2) 0 (head ∷ rest) ∙ ready)

  -- a ready record is among its whole records
  pub map_ready : (held : Contents) → is_some (label_on shape held 0) ≡ true → IsAlone shape held → list_any (has_kind kinds.Ready) (whole_records array (held 0 2)) ≡ true → map_of array.geometry.k (read_of array shape held) ≡ objects_of (items_from (held 0 2) 0 (whole_records array (held 0 2)))
  map_ready held label alone ready = at_one (some_there (has_kind kinds.Ready) (whole_records array (held 0 2)) ready)
    where
      at_one : (head : Marker) × (rest : List Marker) × (whole_records array (held 0 2) ≡ head ∷ rest) → map_of array.geometry.k (read_of array shape held) ≡ objects_of (items_from (held 0 2) 0 (whole_records array (held 0 2)))
      at_one (head, rest, is) =
          map_at held label alone head rest is (subst (Stand array (held 0 2) None 0) is (whole_begin array (held 0 2))) (sym (ap (list_any (has_kind kinds.Ready)) is) ∙ ready)
          ∙ ap (λ (l : List Marker). objects_of (items_from (held 0 2) 0 l)) (sym is)

  pub map_whole : (held : Contents) → is_some (label_on shape held 0) ≡ true → IsAlone shape held → IsOpenZone array (held 0 2) → map_of array.geometry.k (read_of array shape held) ≡ objects_of (items_from (held 0 2) 0 (whole_records array (held 0 2)))
  map_whole held label alone usable = map_ready held label alone usable.ready

  pub map_blank : (held : Contents) → is_some (label_on shape held 0) ≡ true → IsAlone shape held → held 0 2 ≡ [] → map_of array.geometry.k (read_of array shape held) ≡ finmap.empty
  map_blank held label alone blank = ap (map_of array.geometry.k) (read_nothing array shape held drives zones label alone blank)

-- ---- the zone as far as it is used

with_other : (bytes : List ℕ) (held : Contents) (d z : ℕ) → (d ≢ 0) ⊎ (z ≢ 2) → with_zone 0 2 bytes held d z ≡ held d z
with_other bytes held d z (inl other) = ap (λ b. cond (b && (z == 2)) bytes (held d z)) (ne_eqb d 0 other)
with_other bytes held d z (inr other) = at_one (d == 0)
  where
    at_one : (b : Bool) → cond (b && (z == 2)) bytes (held d z) ≡ held d z
    at_one true = ap (λ b. cond b bytes (held d z)) (ne_eqb z 2 other)
    at_one false = refl

pub alone_with : (shape : Shape) (held : Contents) (bytes : List ℕ) → IsAlone shape held → IsAlone shape (with_zone 0 2 bytes held)
alone_with shape held bytes alone d z drive from to other = with_other bytes held d z other ∙ alone d z drive from to other

pub label_with : (shape : Shape) (held : Contents) (bytes : List ℕ) → label_on shape (with_zone 0 2 bytes held) 0 ≡ label_on shape held 0
label_with shape held bytes = label_on-is shape (with_zone 0 2 bytes held) 0 ∙ sym (label_on-is shape held 0)

-- ---- what a core knows

module _ (array : Array) (shape : Shape) (one : array.geometry.k ≡ 1) (p : array.geometry.p ≡ 1) (drives : 1 < shape.devices) (zones : 2 < shape.zones)
    (zone : OpenZone) (stamp : ℕ) (index : Index) (held : Contents) (it : IsHeld array zone stamp index shape held) where
  abbrev pub bytes_used : List ℕ
  bytes_used = used zone held

  abbrev pub markers : List Marker
  markers = whole_records array bytes_used

  abbrev pub items : List Record
  items = items_from bytes_used 0 markers

  pub held_filled : IsFilled array bytes_used markers
  held_filled = open_filled array bytes_used it.usable

  pub items_ready : list_any is_ready items ≡ true
  items_ready = ready_items bytes_used 0 markers ∙ it.usable.ready

  pub items_below : AllByRecursion (IsBelow stamp) items
  items_below = below_all bytes_used 0 markers stamp it.later

  pub length_used : length bytes_used ≡ 512 * zone.blocks
  length_used = omega (arith, length-take (512 * zone.blocks) (held 0 2), it.long)

  pub labelled : is_some (label_on shape held 0) ≡ true
  labelled = ap is_some it.label

  -- the map of the zone as far as it is used
  pub map_used : map_of array.geometry.k (read_of array shape (with_zone 0 2 bytes_used held)) ≡ objects_of items
  map_used =
      let same = at_zone 0 2 bytes_used held in
      map_whole array shape one p drives zones (with_zone 0 2 bytes_used held) (ap is_some (label_with shape held bytes_used) ∙ labelled) (alone_with shape held bytes_used it.alone) (subst (IsOpenZone array) (sym same) it.usable)
      ∙ ap (λ (l : List ℕ). objects_of (items_from l 0 (whole_records array l))) same

  -- the index has what it says of each name
  pub known_used : extents_of (objects_of items) ≡ extents_in index
  known_used = same_by_name _ _ (λ name.
      get-mapped extent_of (objects_of items) name
      ∙ ap (option_map extent_of) (get-objects items name items_ready)
      ∙ extents_found array one bytes_used markers held_filled.fill.begin index it.says name
      ∙ sym (get-mapped (extent_in (parts_in index)) (notes_in index) name))

  pub value_used : (name : List ℕ) → finmap.get (objects_of items) name ≡ value_of items name
  value_used name = get-objects items name items_ready
