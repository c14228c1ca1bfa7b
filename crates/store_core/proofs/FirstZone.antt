-- A zone that holds the first records of a set, or a first part of them.
use Rattle.std.proofs.Common.{◌≡◌, ◌⊎◌, inl, inr, ℕ, ◌+◌, ◌<◌, Bool, true, false, cond, List, [], ◌∷◌, ◌++◌, length, take, drop, is_some, refl, sym, ap, subst, ◌∙◌, arith}
use Rattle.std.specs.Prelude.{nat_le}
use Rattle.std.specs.List.{list_any}
use Rattle.std.specs.FinMap as finmap
use Rattle.std.proofs.lemmas.Bool.{and_right, cases_lt}
use Rattle.std.proofs.lemmas.List.{length-take, take_all, take-take, drop-take, take-append-drop}
use Rattle.zone_bay.specs.Contents.{Shape, Contents}
use Rattle.marker_format.specs.declared.kind.Kind.TheVariants as kinds
use Rattle.marker_format.specs.declared.marker.Marker.{Marker}
use Rattle.marker_format.specs.Zone.{Array, begun, IsPrefix, is_rebuilt, has_kind, whole_records}
use Rattle.marker_format.proofs.ZoneLaws.{Fill-appended, begun-full, begun-cut, begun-few, whole_records-first}
use Rattle.array_model.specs.Drives.{label_on}
use Rattle.array_model.specs.Record.{Record, is_ready}
use Rattle.array_model.specs.Reading.{Carrier, records_from, are_closed, read_of}
use Rattle.array_model.specs.Sets.{ValidSet, placed, kept_by, cut_to}
use Rattle.array_model.specs.Map.{items_of, map_by, map_of}
use Rattle.marker_format.specs.Fragment.{record_bytes}
use Rattle.store_core.specs.Zone.{first_head, first_ready, first_markers, opening_bytes}
use Rattle.store_core.specs.Opening.{BeginsSet, HoldsSet, IsAlone}
use Rattle.store_core.proofs.FirstSet.{first_head-is, first_ready-is, length-opening_bytes}
use Rattle.store_core.proofs.OwnMarkers.{ours}
use Rattle.store_core.proofs.OpenZones.{IsFilled, filled_whole, filled_added}
use Rattle.store_core.proofs.OneZone.{the_place, read_none, read_one}
use Rattle.store_core.proofs.ObjectMaps.{one_set, objects_of}
use Rattle.store_core.proofs.ZoneItems.{items_from}
use Rattle.store_core.proofs.Held.{map_ready}
use Rattle.store_core.proofs.Stops.{Gives, EachGives}

-- ---- their records

module _ (array : Array) (one : array.geometry.k ≡ 1) (two : array.geometry.p ≡ 1) (id : length array.id ≡ 16) where
  head_filled : IsFilled array (record_bytes (first_head array) []) (first_head array ∷ [])
  head_filled = record {
    fill = Fill-appended array [] [] [] (first_head array) (record { begin = tt; full = refl }) (record { marker = first_head-is array id; ours = ours array (first_head array) one two refl refl refl (omega arith); may = refl }) refl;
    first = refl;
  }

  first_filled : IsFilled array (opening_bytes array) (first_markers array)
  first_filled = filled_added array (record_bytes (first_head array) []) (first_head array ∷ []) (first_ready array) [] head_filled (omega arith)
      (record { marker = first_ready-is array id; ours = ours array (first_ready array) one two refl refl refl (omega arith); may = refl }) refl

  pub first_whole : whole_records array (opening_bytes array) ≡ first_markers array
  first_whole = filled_whole array (opening_bytes array) (first_markers array) first_filled

  pub first_holds : HoldsSet array (opening_bytes array)
  first_holds = record {
    ready = ap (list_any (has_kind kinds.Ready)) first_whole;
    no_digest = ap (list_any (has_kind kinds.Digest)) first_whole;
    first = ap (λ (ms : List Marker). is_rebuilt ms) first_whole;
  }

  -- of a first part the head is whole, or none
  pub part_whole : (bytes : List ℕ) → BeginsSet array bytes → (whole_records array bytes ≡ []) ⊎ (whole_records array bytes ≡ first_head array ∷ [])
  part_whole bytes begins = at_one (begun array bytes) refl prefix
    where
      all : begun array (opening_bytes array) ≡ first_markers array
      all = begun-full array (opening_bytes array) (first_markers array) first_filled.fill.begin first_filled.fill.full

      prefix : IsPrefix (begun array bytes) (first_markers array)
      prefix = subst (IsPrefix (begun array bytes)) all (subst (λ (l : List ℕ). IsPrefix (begun array l) (begun array (opening_bytes array))) (sym begins.part) (begun-cut (length bytes) array (opening_bytes array)))

      at_one : (ms : List Marker) → begun array bytes ≡ ms → IsPrefix ms (first_markers array) → (whole_records array bytes ≡ []) ⊎ (whole_records array bytes ≡ first_head array ∷ [])
      at_one [] is some = inl (whole_records-first array bytes (ap is_rebuilt is) ∙ is)
      at_one (m ∷ []) is some =
          let same : m ≡ first_head array = let e = some.1 in cc in
          let only : begun array bytes ≡ first_head array ∷ [] = is ∙ ap (λ (x : Marker). x ∷ []) same in
          inr (whole_records-first array bytes (ap is_rebuilt only) ∙ only)
      at_one (m ∷ n ∷ ms) is some = absurd (omega (arith, begun-few array bytes, ap length is, begins.less, length-opening_bytes array id))

  -- ---- their map: they give no name an object

  not_standing : (set : ℕ) (closed : Bool) (items : List Record) → list_any is_ready items ≡ false → map_of array.geometry.k (one_set set closed items ∷ []) ≡ finmap.empty
  not_standing set closed items none =
      let some : List ValidSet = record { id = set; records = cut_to (kept_by set []) items } ∷ [] in
      ap (λ b. map_by (items_of (placed (cond b some []))) (items_of (placed (cond b some [])))) (and_right (nat_le array.geometry.k 1) (list_any is_ready items) none)

  module _ (shape : Shape) (drives : 1 < shape.devices) (zones : 2 < shape.zones) (held : Contents) (label : is_some (label_on shape held 0) ≡ true) (alone : IsAlone shape held) where
    pub map_part : BeginsSet array (held 0 2) → map_of array.geometry.k (read_of array shape held) ≡ finmap.empty
    map_part begins = elim (part_whole (held 0 2) begins) [
      | inl none ↦ ap (map_of array.geometry.k) (read_none array shape held drives zones label alone none)
      | inr only ↦
          let head = first_head array in
          let carrier : Carrier = record { index = head.index; place = the_place } in
          let closed = are_closed array held (carrier ∷ []) in
          ap (map_of array.geometry.k) (read_one array shape held drives zones label alone head [] only (omega (arith, one, two)) (omega arith))
          ∙ ap (λ (ms : List Marker). map_of array.geometry.k (one_set head.set closed (records_from array held (carrier ∷ []) 0 ms) ∷ [])) only
          ∙ not_standing head.set closed (records_from array held (carrier ∷ []) 0 (head ∷ [])) refl
    ]

    pub map_first : held 0 2 ≡ opening_bytes array → map_of array.geometry.k (read_of array shape held) ≡ finmap.empty
    map_first is =
        let whole : whole_records array (held 0 2) ≡ first_markers array = ap (whole_records array) is ∙ first_whole in
        map_ready array shape one two drives zones held label alone (ap (list_any (has_kind kinds.Ready)) whole)
        ∙ ap (λ (ms : List Marker). objects_of (items_from (held 0 2) 0 ms)) whole

  -- ---- stopped on the way to them

  module _ (shape : Shape) (drives : 1 < shape.devices) (zones : 2 < shape.zones) where
    gives_part : (bytes : List ℕ) → BeginsSet array bytes → Gives array shape finmap.empty bytes
    gives_part bytes begins = record {
      zone = inl begins;
      map = λ held label alone is. map_part shape drives zones held (ap is_some label) alone (subst (BeginsSet array) (sym is) begins);
    }

    gives_first : (bytes : List ℕ) → bytes ≡ opening_bytes array → Gives array shape finmap.empty bytes
    gives_first bytes all = record {
      zone = inr (subst (HoldsSet array) (sym all) first_holds);
      map = λ held label alone is. map_first shape drives zones held (ap is_some label) alone (is ∙ all);
    }

    take_on : (a n : ℕ) (xs : List ℕ) → take a xs ++ take n (drop a xs) ≡ take (a + n) xs
    take_on a n xs =
        ap (λ (l : List ℕ). l ++ take n (drop a xs)) (sym (take-take a (a + n) xs (omega arith)))
        ∙ ap (λ (l : List ℕ). take a (take (a + n) xs) ++ l) (sym (drop-take a n xs))
        ∙ take-append-drop a (take (a + n) xs)

    module _ (bytes : List ℕ) (begins : BeginsSet array bytes) where
      abbrev all : List ℕ
      all = opening_bytes array

      abbrev pub rest : List ℕ
      rest = drop (length bytes) (opening_bytes array)

      long : length all ≡ 1024
      long = length-opening_bytes array id

      on : (n : ℕ) → bytes ++ take n rest ≡ take (length bytes + n) all
      on n = ap (λ (l : List ℕ). l ++ take n rest) begins.part ∙ take_on (length bytes) n all

      part_gives : (n : ℕ) → Gives array shape finmap.empty (bytes ++ take n rest)
      part_gives n = elim (cases_lt (length bytes + n) 1024) [
        | inl less ↦
            let size : length (take (length bytes + n) all) ≡ length bytes + n = omega (arith, length-take (length bytes + n) all, long, less) in
            gives_part (bytes ++ take n rest) (record {
              part = on n ∙ ap (λ k. take k all) (sym (ap length (on n) ∙ size));
              less = omega (arith, ap length (on n), size, less, long);
            })
        | inr more ↦ gives_first (bytes ++ take n rest) (on n ∙ take_all (length bytes + n) all (omega (arith, long, more)))
      ]

      pub all_there : bytes ++ rest ≡ opening_bytes array
      all_there = ap (λ (l : List ℕ). l ++ rest) begins.part ∙ take-append-drop (length bytes) all

      pub each_gives : EachGives array shape finmap.empty finmap.empty bytes rest
      each_gives = record { part = λ n few. inl (part_gives n); whole = gives_first (bytes ++ rest) all_there }
