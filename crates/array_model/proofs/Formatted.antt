-- A freshly formatted array is kept, with the empty map.
use Rattle.std.proofs.Common.{◌≡◌, ℕ, zero, suc, ◌+◌, ◌-◌, ◌*◌, ◌%◌, ◌<◌, Bool, true, false, cond, ◌⊎◌, inl, inr, List, [], ◌∷◌, length, map, take, drop, Option, Some, None, Contains, refl, sym, ap, ap₂, ◌∙◌, subst, arith}
use Rattle.std.specs.Prelude.{filter, is_some, is_none}
use Rattle.std.specs.List.{AllByRecursion, find, filter_map, cons_option, range_with_len}
use Rattle.std.proofs.lemmas.Bool.{true≢false, and_from, eq-eqb, cond-true}
use Rattle.std.proofs.lemmas.List.{take_all}
use Rattle.smore_base.proofs.GeometryLaws.{within_first}
use Rattle.smore_base.specs.declared.geometry.Geometry.{Geometry}
use Rattle.zone_bay.specs.Contents.{Shape, Contents}
use Rattle.zone_bay.specs.Images.{without_each}
use Rattle.marker_format.specs.declared.label.Label.{Label}
use Rattle.marker_format.specs.declared.label.TheConstants.{LABEL_BYTES}
use Rattle.marker_format.specs.declared.tag.Tag.TheVariants as tags
use Rattle.marker_format.specs.Label.{IsLabel, label_at, spelling_of}
use Rattle.marker_format.specs.Block.{label_block}
use Rattle.marker_format.specs.Zone.{Array, begun, records_from, foot_follows, has_foot, trailer_follows, whole_records}
use Rattle.marker_format.proofs.LabelLaws.{label_at-again, length-spelling_of}
use Rattle.marker_format.proofs.BlockLaws.{has_text}
use Rattle.array_model.specs.Map.{map_of}
use Rattle.array_model.specs.Drives.{Place, bytes_at, first_of, head_at, is_of, is_among, is_label_of_bay, label_on, drives_of, is_present, present, labels, places_on}
use Rattle.array_model.specs.Reading.{Carrier, carries, carrier_of, fragments_of, with_head, ids_at}
use Rattle.array_model.specs.Possible.{Choice, set_by, read_by}
use Rattle.array_model.specs.Enough.{IsLeftAfter}
use Rattle.array_model.specs.Kept.{HaveOneList, carriers_in, LabelsAreOf, EndsAreFound, TakesFewer, EachZone, IndexesAreAlone, IsKeptReading, ShowsKept, label_of, HasShape, IsFormatted}
use Rattle.array_model.specs.ReadingLaws.{FormattedIsPresent, FormattedIsKept, FormattedIsEmpty}
use Rattle.array_model.proofs.Records.{Among, among_from_contains, all_among}
use Rattle.array_model.proofs.Carriers.{held_without, label_in, label_on-is, label_in-is, label_in-own, no_label, places_of}
use Rattle.array_model.proofs.SameZones.{all-append, all-map}
use Rattle.array_model.proofs.Fallen.{nothing_whole}

-- ---- what remains holds labels alone

-- each device holds its label or nothing, and nothing behind it
pub record HoldsLabels (array : Array) (shape : Shape) (held : Contents) : Type 0 where
  pub label : (device : ℕ) → device < shape.devices → (held device 0 ≡ label_block (label_of array device)) ⊎ (held device 0 ≡ [])
  pub nothing : (device zone : ℕ) → 0 < zone → held device zone ≡ []

labels_without : (array : Array) (shape : Shape) (held : Contents) (leaving : List ℕ) → HoldsLabels array shape held → HoldsLabels array shape (without_each leaving held)
labels_without array shape held leaving holds = record {
  label = λ device below. at_label device (is_among leaving device) (held_without leaving held device 0) (holds.label device below);
  nothing = λ device zone behind. held_without leaving held device zone ∙ ap (cond (is_among leaving device) []) (holds.nothing device zone behind) ∙ at_one (is_among leaving device);
}
  where
    at_one : (b : Bool) → cond {A = List ℕ} b [] [] ≡ []
    at_one true = refl
    at_one false = refl

    at_label : (device : ℕ) (b : Bool) → without_each leaving held device 0 ≡ cond b [] (held device 0) → (held device 0 ≡ label_block (label_of array device)) ⊎ (held device 0 ≡ []) → (without_each leaving held device 0 ≡ label_block (label_of array device)) ⊎ (without_each leaving held device 0 ≡ [])
    at_label device true is either = inr is
    at_label device false is (inl same) = inl (is ∙ same)
    at_label device false is (inr none) = inr (is ∙ none)

labels_left : (array : Array) (shape : Shape) (removals : List (List ℕ)) (held left : Contents) → HoldsLabels array shape held → IsLeftAfter array shape removals held left → HoldsLabels array shape left
labels_left array shape [] held left holds is = subst (HoldsLabels array shape) (sym is) holds
labels_left array shape (leaving ∷ more) held left holds is = labels_left array shape more (without_each leaving held) left (labels_without array shape held leaving holds) is.1

formatted_labels : (array : Array) (shape : Shape) (held : Contents) → IsFormatted array shape held → HoldsLabels array shape held
formatted_labels array shape held formatted = record {
  label = λ device below. inl (formatted.label device below);
  nothing = formatted.nothing;
}

-- ---- a zone that holds nothing

nothing_begun : (array : Array) → begun array [] ≡ []
unfolding begun records_from
nothing_begun array = refl

none_behind : (array : Array) → trailer_follows array [] [] ≡ false
unfolding trailer_follows
none_behind array = refl

no_trailer : (array : Array) → trailer_follows array [] (begun array []) ≡ false
no_trailer array = ap (trailer_follows array []) (nothing_begun array) ∙ none_behind array

no_foot_behind : foot_follows [] [] ≡ false
unfolding foot_follows
no_foot_behind = refl

no_foot : (array : Array) → has_foot array [] ≡ false
unfolding has_foot
no_foot array = ap (foot_follows []) (nothing_whole array) ∙ no_foot_behind

ends_of_nothing : (array : Array) → EndsAreFound array []
ends_of_nothing array = record {
  trailer = λ block last spells. absurd (omega (arith, last));
  foot = λ block some may spells. absurd (omega (arith, some, ap length (nothing_whole array)));
  trailer_is_last = λ block has. let is = has.0 in let none = no_trailer array in absurd cc;
  foot_is_last = λ block has. let is = has.0 in let none = no_foot array in absurd cc;
}

-- ---- nothing is read

module _ (array : Array) (shape : Shape) (held : Contents) (fits : HasShape array shape) (holds : HoldsLabels array shape held) where
  -- the place holds nothing
  abbrev IsEmpty : Place → Type 0
  IsEmpty place = bytes_at held place ≡ []

  empty_on : (device first count : ℕ) → 0 < first → AllByRecursion IsEmpty (map (λ zone. record { device = device; zone = zone }) (range_with_len first count))
  empty_on device first zero behind = tt
  empty_on device first (suc count) behind = (holds.nothing device first behind, empty_on device (first + 1) count (omega arith))

  pub all_empty : (drives : List ℕ) → AllByRecursion IsEmpty (places_on shape drives)
  all_empty [] = tt
  all_empty (drive ∷ drives) = all-append IsEmpty (places_of shape drive) (places_on shape drives) (empty_on drive 2 (shape.zones - 2) (omega arith)) (all_empty drives)

  no_head : (place : Place) → IsEmpty place → head_at array held place ≡ None
  no_head place empty = ap (λ bytes. first_of (whole_records array bytes)) empty ∙ ap first_of (nothing_whole array)

  no_ids : (places : List Place) → AllByRecursion IsEmpty places → ids_at array held places ≡ []
  no_ids [] empty = refl
  no_ids (place ∷ places) empty = ap₂ with_head (no_head place empty.0) (no_ids places empty.1)

  none_found : (set index : ℕ) (places : List Place) → AllByRecursion IsEmpty places → find (λ place. is_of set index (head_at array held place)) places ≡ None
  none_found set index [] empty = refl
  none_found set index (place ∷ places) empty = ap₂ (λ (o : Option _) rest. cond (is_of set index o) (Some place) rest) (no_head place empty.0) (none_found set index places empty.1)

  none_of_them : (f : ℕ → Option Carrier) (xs : List ℕ) → ((x : ℕ) → f x ≡ None) → filter_map f xs ≡ []
  none_of_them f [] none = refl
  none_of_them f (x ∷ xs) none = ap₂ cons_option (none x) (none_of_them f xs none)

  no_carriers : (set : ℕ) → carriers_in array shape held set ≡ []
  no_carriers set = none_of_them (carrier_of array held (places_on shape (present shape held [])) set) (range_with_len 0 (fragments_of array)) (λ index. ap (carries index) (none_found set index (places_on shape (present shape held [])) (all_empty (present shape held []))))

  -- Nothing is read, by any choice.
  pub nothing_by : (choice : Choice) → read_by array shape held choice ≡ []
  nothing_by choice =
      let places = places_on shape (present shape held []) in
      ap (map (set_by array shape held (present shape held []) choice)) (no_ids places (all_empty (present shape held [])))

  -- a new array's geometry is within its limits, so its label's numbers have their widths
  label_is : (device : ℕ) → device < shape.devices → IsLabel (label_of array device)
  label_is device below =
      let within = fits.within in
      record {
        version = omega arith;
        device = omega (arith, fits.devices, within.drives_to);
        drives = omega (arith, within.drives_to);
        k = omega (arith, within.k_to);
        p = omega (arith, within.fragments);
        zones = omega (arith, within.zones_to);
        blocks = omega (arith, within.blocks_to);
        shard = omega (arith, within.shard_to);
        array = fits.id;
      }

  take_block : (device : ℕ) (block : List ℕ) → device < shape.devices → block ≡ label_block (label_of array device) → take 512 block ≡ block
  take_block device block below is =
      let l = label_of array device in
      let text = has_text tags.Label block (spelling_of l) 39 is (length-spelling_of l (label_is device below)) (omega arith) in
      take_all 512 block (omega (arith, text.long))

  -- what is read in the first block of a device
  block_says : (device : ℕ) (block : List ℕ) → device < shape.devices → block ≡ label_block (label_of array device) → label_at (take LABEL_BYTES (drop 1 (take 512 block))) ≡ label_of array device
  block_says device block below is =
      let l = label_of array device in
      let text = has_text tags.Label block (spelling_of l) 39 is (length-spelling_of l (label_is device below)) (omega arith) in
      ap (λ bytes. label_at (take 39 (drop 1 bytes))) (take_block device block below is)
      ∙ ap label_at text.text_is
      ∙ label_at-again l (label_is device below)

  -- A label that is read is the device's.
  label_read : (device : ℕ) (l : Label) → device < shape.devices → label_on shape held device ≡ Some l → l ≡ label_of array device
  label_read device l below is = at_block (holds.label device below)
    where
      at_block : (held device 0 ≡ label_block (label_of array device)) ⊎ (held device 0 ≡ []) → l ≡ label_of array device
      at_block (inl same) = label_in-is shape device (take 512 (held device 0)) l (sym (label_on-is shape held device) ∙ is) ∙ block_says device (held device 0) below same
      at_block (inr none) =
          let absent : label_on shape held device ≡ None = label_on-is shape held device ∙ ap (λ bytes. label_in shape device (take 512 bytes)) none ∙ no_label shape device in
          absurd cc

  drives_below : (first count last : ℕ) → first + count ≡ last → AllByRecursion (λ d. d < last) (range_with_len first count)
  drives_below first zero last is = tt
  drives_below first (suc count) last is = (omega (arith, is), drives_below (first + 1) count last (omega (arith, is)))

  labels_of_these : (drives : List ℕ) → AllByRecursion (λ d. d < shape.devices - 1) drives → (l : Label) → Among l (filter_map (label_on shape held) (filter (is_present shape held []) drives)) → (l.array ≡ array.id) × (l.geometry ≡ array.geometry)
  labels_of_these [] below l found = absurd found
  labels_of_these (drive ∷ drives) below l found = at_one (is_present shape held [] drive) (labels_of_these drives below.1 l) found
    where
      at_label : (o : Option Label) → label_on shape held drive ≡ o → (Among l (filter_map (label_on shape held) (filter (is_present shape held []) drives)) → (l.array ≡ array.id) × (l.geometry ≡ array.geometry)) → Among l (cons_option o (filter_map (label_on shape held) (filter (is_present shape held []) drives))) → (l.array ≡ array.id) × (l.geometry ≡ array.geometry)
      at_label None is later found = later found
      at_label (Some own) is later (inl same) =
          let read = sym same ∙ label_read drive own (let b = below.0 in omega arith) is in
          (ap (λ (x : Label). x.array) read, ap (λ (x : Label). x.geometry) read)
      at_label (Some own) is later (inr found) = later found

      at_one : (b : Bool) → (Among l (filter_map (label_on shape held) (filter (is_present shape held []) drives)) → (l.array ≡ array.id) × (l.geometry ≡ array.geometry)) → Among l (filter_map (label_on shape held) (cond b (drive ∷ filter (is_present shape held []) drives) (filter (is_present shape held []) drives))) → (l.array ≡ array.id) × (l.geometry ≡ array.geometry)
      at_one true later found = at_label (label_on shape held drive) refl later found
      at_one false later found = later found

  labels_are : LabelsAreOf array (labels shape held [])
  labels_are l found = labels_of_these (drives_of shape) (drives_below 0 (shape.devices - 1) (shape.devices - 1) (omega arith)) l (among_from_contains (labels shape held []) l found)

  each_zone : (P : List ℕ → Type 0) → P [] → EachZone shape held P
  each_zone P here = all-map IsEmpty (λ place. P (bytes_at held place)) (places_on shape (present shape held [])) (λ place empty. subst P (sym empty) here) (all_empty (present shape held []))

  alone : IndexesAreAlone array shape held
  alone set index one other found also is as_well =
      let places = places_on shape (present shape held []) in
      let empty : IsEmpty one = all_among IsEmpty places one (all_empty (present shape held [])) (among_from_contains places one found) in
      let none : is_of set index (head_at array held one) ≡ false = ap (is_of set index) (no_head one empty) in
      absurd (true≢false (sym is ∙ none))

  -- So what it shows is kept.
  pub shows_kept : ShowsKept array shape held
  shows_kept =
      let k = array.geometry.k in
      record {
        lists = λ set. subst (HaveOneList array held) (sym (no_carriers set)) ([], tt);
        payloads = λ choice set found. absurd (omega (arith, subst (λ sets. Contains sets set) (nothing_by choice) found));
        readings = λ choice. subst (IsKeptReading k) (sym (nothing_by choice)) record {
          closed = λ set found. absurd (omega (arith, found.1));
          copies = record {
            notes = λ stamp one other found. absurd (omega (arith, found.1));
            parts = λ upload part one other found. absurd (omega (arith, found.1));
          };
          unsettled = λ one other found. absurd (omega (arith, found.1));
          ready = λ set cut kept found. absurd (omega (arith, found.1));
          cuts = λ set kept found. absurd (omega (arith, found.1));
        };
        labels = labels_are;
        ends = each_zone (EndsAreFound array) (ends_of_nothing array);
        blocks = each_zone (TakesFewer array shape.blocks) (λ some. absurd (omega (arith, some, ap length (nothing_whole array))));
        alone = alone;
      }

pub formatted_is_kept : FormattedIsKept
formatted_is_kept array shape lost held formatted left remains =
    shows_kept array shape left formatted.fits (labels_left array shape remains.0 (without_each lost held) left (labels_without array shape held lost (formatted_labels array shape held formatted)) remains.1)

pub formatted_is_empty : FormattedIsEmpty
formatted_is_empty array shape held objects formatted (choice, is) =
    is ∙ ap (map_of array.geometry.k) (nothing_by array shape held formatted.fits (formatted_labels array shape held formatted) choice)

-- ---- its drives are present

own_label : (array : Array) (shape : Shape) (device : ℕ) → HasShape array shape → is_label_of_bay shape device (label_of array device) ≡ true
own_label array shape device fits =
    let g = array.geometry in
    and_from _ _
    (and_from _ _
    (and_from _ _
    (and_from _ _ (and_from _ _ (eq-eqb 1 1 refl) (ap is_none (within_first g fits.within))) (eq-eqb device device refl))
    (eq-eqb (g.drives + 1) shape.devices fits.devices))
    (eq-eqb g.zones shape.zones fits.zones))
    (eq-eqb g.blocks shape.blocks fits.blocks)

pub all_stay : (p : ℕ → Bool) (xs : List ℕ) → AllByRecursion (λ x. p x ≡ true) xs → filter p xs ≡ xs
all_stay p [] all = refl
all_stay p (x ∷ xs) all = cond-true (p x) (x ∷ filter p xs) (filter p xs) all.0 ∙ ap (λ l. x ∷ l) (all_stay p xs all.1)

pub formatted_is_present : FormattedIsPresent
formatted_is_present array shape held formatted =
    let fits = formatted.fits in
    let holds = formatted_labels array shape held formatted in
    let last = shape.devices - 1 in
    all_stay (is_present shape held []) (drives_of shape)
    (all-map (λ drive. drive < last) (λ drive. is_present shape held [] drive ≡ true) (drives_of shape)
    (λ drive below.
    let among : drive < shape.devices = omega arith in
    let is = formatted.label drive among in
    ap is_some
    (label_on-is shape held drive
    ∙ ap (label_in shape drive) (take_block array shape held fits holds drive (held drive 0) among is)
    ∙ label_in-own shape drive (held drive 0) (label_of array drive)
    (ap (λ bytes. label_at (take LABEL_BYTES (drop 1 bytes))) (sym (take_block array shape held fits holds drive (held drive 0) among is)) ∙ block_says array shape held fits holds drive (held drive 0) among is)
    (own_label array shape drive fits)
    is))
    (drives_below array shape held fits holds 0 last last (omega arith)))
