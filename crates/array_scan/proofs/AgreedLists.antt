-- The agreed list of carriers, from the last carrier on.
use Rattle.std.proofs.Common.{◌≡◌, ℕ, zero, suc, ◌+◌, ◌-◌, ◌<◌, ◌≤◌, Bool, true, false, cond, List, [], ◌∷◌, ◌++◌, length, map, take, drop, get_or, None, IfSome, refl, sym, ap, ap₂, ◌∙◌, subst, arith, append_assoc, length-drop}
use Rattle.std.specs.Prelude.{◌&&◌}
use Rattle.std.specs.List.{AllByRecursion}
use Rattle.std.proofs.Math.Seq.{drop-cons}
use Rattle.std.proofs.lemmas.List.{length-map, drop_all}
use Rattle.zone_bay.specs.Contents.{Contents}
use Rattle.zone_bay.specs.Bay.{BayState}
use Rattle.marker_format.specs.declared.marker.Marker.{Marker}
use Rattle.marker_format.specs.Marker.{IsMarker}
use Rattle.marker_format.specs.Zone.{Array, Placed, blocks_of, end_from, placed_from, placed_records, whole_records, has_foot}
use Rattle.marker_format.proofs.ZoneLaws.{placed-stand}
use Rattle.array_model.specs.Drives.{records_at}
use Rattle.array_model.specs.Reading as model
use Rattle.array_scan.specs.declared.set_read.RecordAt.{RecordAt}
use Rattle.array_scan.specs.declared.set_read.Carrier.{Carrier}
use Rattle.array_scan.specs.SetRead.{placed_of, carrier_of, markers_of, AreMarkers}
use Rattle.array_scan.specs.Calls.{OnlyRead}
use Rattle.array_scan.proofs.Calls.{told_at, told_from, read_then}
use Rattle.array_scan.proofs.Zones.{placed_from-append}

-- ---- lists of records with their blocks

markers-placed : (block : ℕ) (ms : List Marker) → map (λ (p : Placed). p.marker) (placed_from block ms) ≡ ms
markers-placed block [] = refl
markers-placed block (m ∷ ms) = ap (λ l. m ∷ l) (markers-placed (block + blocks_of m) ms)

map-twice : (records : List RecordAt) → map (λ (p : Placed). p.marker) (map placed_of records) ≡ markers_of records
map-twice [] = refl
map-twice (r ∷ records) = ap (λ l. r.marker ∷ l) (map-twice records)

-- their markers
markers_are : (records : List RecordAt) (ms : List Marker) → map placed_of records ≡ placed_from 0 ms → markers_of records ≡ ms
markers_are records ms is = sym (map-twice records) ∙ ap (map (λ (p : Placed). p.marker)) is ∙ markers-placed 0 ms

are_markers : (records : List RecordAt) → AllByRecursion IsMarker (markers_of records) → AreMarkers records
are_markers [] all = tt
are_markers (r ∷ records) all = (all.0, are_markers records all.1)

well_formed : (records : List RecordAt) (ms : List Marker) → AllByRecursion IsMarker ms → map placed_of records ≡ placed_from 0 ms → AreMarkers records
well_formed records ms all is = are_markers records (subst (AllByRecursion IsMarker) (sym (markers_are records ms is)) all)

take-map : {X Y : Type 0} (f : X → Y) (n : ℕ) (xs : List X) → map f (take n xs) ≡ take n (map f xs)
take-map f zero xs = refl
take-map f (suc n) [] = refl
take-map f (suc n) (x ∷ xs) = ap (λ l. f x ∷ l) (take-map f n xs)

take-placed : (n block : ℕ) (ms : List Marker) → take n (placed_from block ms) ≡ placed_from block (take n ms)
take-placed zero block ms = refl
take-placed (suc n) block [] = refl
take-placed (suc n) block (m ∷ ms) = ap (λ l. record { marker = m; block = block } ∷ l) (take-placed n (block + blocks_of m) ms)

-- the first records of one list, as far as another agrees
shared_records : (n : ℕ) (records others : List RecordAt) (ms more : List Marker) → map placed_of records ≡ placed_from 0 ms → map placed_of others ≡ placed_from 0 more → markers_of (take n records) ≡ model.common (markers_of records) (markers_of others)
    → map placed_of (take n records) ≡ placed_from 0 (model.common ms more)
shared_records n records others ms more is also share =
    take-map placed_of n records ∙ ap (take n) is ∙ take-placed n 0 ms
    ∙ ap (placed_from 0) (ap (take n) (sym (markers_are records ms is)) ∙ sym (take-map (λ (r : RecordAt). r.marker) n records) ∙ share ∙ ap₂ model.common (markers_are records ms is) (markers_are others more also))

pub shared_by : (n : ℕ) (xs records ys others : List RecordAt) (ms more : List Marker) → xs ≡ records → ys ≡ others → (AreMarkers xs → AreMarkers ys → markers_of (take n xs) ≡ model.common (markers_of xs) (markers_of ys))
    → AllByRecursion IsMarker ms → AllByRecursion IsMarker more → map placed_of records ≡ placed_from 0 ms → map placed_of others ≡ placed_from 0 more → map placed_of (take n records) ≡ placed_from 0 (model.common ms more)
shared_by n xs records ys others ms more one other share are also is are_others =
    shared_records n records others ms more is are_others
    (subst (λ (l : List RecordAt). AreMarkers l → AreMarkers others → markers_of (take n l) ≡ model.common (markers_of l) (markers_of others)) one
    (subst (λ (l : List RecordAt). AreMarkers xs → AreMarkers l → markers_of (take n xs) ≡ model.common (markers_of xs) (markers_of l)) other share)
    (well_formed records ms are is) (well_formed others more also are_others))

-- ---- well formed markers

whole_from : (array : Array) (bytes : List ℕ) (front rest : List Marker) → whole_records array bytes ≡ front ++ rest → AllByRecursion IsMarker rest
whole_from array bytes front [] all = tt
whole_from array bytes front (m ∷ rest) all = (
  (placed-stand array bytes (placed_from 0 front) (placed_from (end_from 0 front + blocks_of m) rest) (record { marker = m; block = end_from 0 front }) (ap (placed_from 0) all ∙ placed_from-append 0 front (m ∷ rest))).marker,
  whole_from array bytes (front ++ m ∷ []) rest (all ∙ sym (append_assoc front (m ∷ []) rest)),
)

pub records_are_markers : (array : Array) (held : Contents) (carrier : model.Carrier) → AllByRecursion IsMarker (records_at array held carrier.place)
records_are_markers array held carrier = whole_from array (held carrier.place.device carrier.place.zone) [] (records_at array held carrier.place) refl

common_markers : (ms others : List Marker) → AllByRecursion IsMarker ms → AllByRecursion IsMarker (model.common ms others)
common_markers [] others all = tt
common_markers (m ∷ ms) [] all = tt
common_markers (m ∷ ms) (other ∷ others) all = at_test (model.agree m other) (common_markers ms others all.1)
  where
    at_test : (b : Bool) → AllByRecursion IsMarker (model.common ms others) → AllByRecursion IsMarker (cond b (m ∷ model.common ms others) [])
    at_test true rest = (all.0, rest)
    at_test false rest = tt

pub agreed_are_markers : (array : Array) (held : Contents) (carriers : List model.Carrier) → AllByRecursion IsMarker (model.agreed array held carriers)
agreed_are_markers array held [] = tt
agreed_are_markers array held (c ∷ []) = records_are_markers array held c
agreed_are_markers array held (c ∷ d ∷ carriers) = common_markers (records_at array held c.place) (model.agreed array held (d ∷ carriers)) (records_are_markers array held c)

-- ---- from the last carrier on

agreed_cons : (array : Array) (held : Contents) (c : model.Carrier) (carriers : List model.Carrier) → 0 < length carriers → model.agreed array held (c ∷ carriers) ≡ model.common (records_at array held c.place) (model.agreed array held carriers)
agreed_cons array held c [] some = absurd (omega arith)
agreed_cons array held c (d ∷ carriers) some = refl

-- what is known of the carriers that were read so far: the last ones, so many
pub record AgreedRead (array : Array) (before now : BayState) (carriers : List Carrier) (count : ℕ) (records : List RecordAt) (closed : Bool) : Type 0 where
  pub read : OnlyRead before now None
  pub list : IfSome before.contents (λ held. map placed_of records ≡ placed_from 0 (model.agreed array held (map carrier_of (drop (length carriers - count) carriers))))
  pub foot : IfSome before.contents (λ held. closed ≡ model.are_closed array held (map carrier_of (drop (length carriers - count) carriers)))

last_of : (carriers : List Carrier) (d : Carrier) → 0 < length carriers → drop (length carriers - 1) carriers ≡ get_or carriers (length carriers - 1) d ∷ []
last_of carriers d some =
    drop-cons carriers (length carriers - 1) d (omega (arith, some))
    ∙ ap (λ l. get_or carriers (length carriers - 1) d ∷ l) (drop_all (suc (length carriers - 1)) carriers (omega (arith, some)))

pub agreed_first : (array : Array) (before now : BayState) (carriers : List Carrier) (d : Carrier) (records : List RecordAt) (closed : Bool) → 0 < length carriers → OnlyRead before now None
    → IfSome before.contents (λ held. map placed_of records ≡ placed_records array (held (get_or carriers (length carriers - 1) d).place.device (get_or carriers (length carriers - 1) d).place.zone))
    → IfSome before.contents (λ held. closed ≡ has_foot array (held (get_or carriers (length carriers - 1) d).place.device (get_or carriers (length carriers - 1) d).place.zone))
    → AgreedRead array before now carriers 1 records closed
agreed_first array before now carriers d records closed some read list foot = record {
  read = read;
  list = told_from before.contents _ (λ held is. told_at before.contents _ held is list ∙ ap (λ cs. placed_from 0 (model.agreed array held (map carrier_of cs))) (sym (last_of carriers d some)));
  foot = told_from before.contents _ (λ held is. told_at before.contents _ held is foot ∙ sym (with_none _) ∙ ap (λ cs. model.are_closed array held (map carrier_of cs)) (sym (last_of carriers d some)));
}
  where
    with_none : (b : Bool) → (b && true) ≡ b
    with_none true = refl
    with_none false = refl

pub agreed_more : (array : Array) (before mid after : BayState) (carriers : List Carrier) (d : Carrier) (count : ℕ) (records own new : List RecordAt) (closed foot new_closed : Bool) → 0 < count → count < length carriers → AgreedRead array before mid carriers count records closed → OnlyRead mid after None
    → IfSome mid.contents (λ held. map placed_of own ≡ placed_records array (held (get_or carriers (length carriers - 1 - count) d).place.device (get_or carriers (length carriers - 1 - count) d).place.zone))
    → IfSome mid.contents (λ held. foot ≡ has_foot array (held (get_or carriers (length carriers - 1 - count) d).place.device (get_or carriers (length carriers - 1 - count) d).place.zone))
    → ((ms more : List Marker) → AllByRecursion IsMarker ms → AllByRecursion IsMarker more → map placed_of own ≡ placed_from 0 ms → map placed_of records ≡ placed_from 0 more → map placed_of new ≡ placed_from 0 (model.common ms more))
    → new_closed ≡ (foot && closed) → AgreedRead array before after carriers (count + 1) new new_closed
agreed_more array before mid after carriers d count records own new closed foot new_closed some within so_far read list has shares closes = record {
  read = read_then before mid after None so_far.read read;
  list = told_from before.contents _ (λ held is.
      let mid_is = so_far.read.only.contents ∙ is in
      let rest = map carrier_of (drop (length carriers - count) carriers) in
      shares (records_at array held (carrier_of c).place) (model.agreed array held rest) (records_are_markers array held (carrier_of c)) (agreed_are_markers array held rest) (told_at mid.contents _ held mid_is list) (told_at before.contents _ held is so_far.list)
      ∙ ap (placed_from 0) (sym (agreed_cons array held (carrier_of c) rest (omega (arith, length-map (drop (length carriers - count) carriers) carrier_of, length-drop (length carriers - count) carriers, some, within))))
      ∙ ap (λ cs. placed_from 0 (model.agreed array held (map carrier_of cs))) (sym split));
  foot = told_from before.contents _ (λ held is.
      let mid_is = so_far.read.only.contents ∙ is in
      closes ∙ ap₂ ◌&&◌ (told_at mid.contents _ held mid_is has) (told_at before.contents _ held is so_far.foot)
      ∙ ap (λ cs. model.are_closed array held (map carrier_of cs)) (sym split));
}
  where
    c : Carrier
    c = get_or carriers (length carriers - 1 - count) d

    split : drop (length carriers - (count + 1)) carriers ≡ c ∷ drop (length carriers - count) carriers
    split =
        ap (λ n. drop n carriers) (let e : length carriers - (count + 1) ≡ length carriers - 1 - count = omega arith in e)
        ∙ drop-cons carriers (length carriers - 1 - count) d (omega (arith, some, within))
        ∙ ap (λ n. c ∷ drop n carriers) (let e : suc (length carriers - 1 - count) ≡ length carriers - count = omega (arith, within) in e)

pub agreed_all : (array : Array) (before now : BayState) (carriers : List Carrier) (count : ℕ) (records : List RecordAt) (closed : Bool) → length carriers ≤ count → AgreedRead array before now carriers count records closed
    → IfSome before.contents (λ held. map placed_of records ≡ placed_from 0 (model.agreed array held (map carrier_of carriers))) × IfSome before.contents (λ held. closed ≡ model.are_closed array held (map carrier_of carriers))
agreed_all array before now carriers count records closed all so_far =
    let none : length carriers - count ≡ 0 = omega (arith, all) in (
      told_from before.contents _ (λ held is. told_at before.contents _ held is so_far.list ∙ ap (λ n. placed_from 0 (model.agreed array held (map carrier_of (drop n carriers)))) none),
      told_from before.contents _ (λ held is. told_at before.contents _ held is so_far.foot ∙ ap (λ n. model.are_closed array held (map carrier_of (drop n carriers))) none),
    )
