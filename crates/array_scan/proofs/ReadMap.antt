-- The map that is told is that of what is read.
use Rattle.std.proofs.Common.{◌≡◌, ℕ, zero, suc, ◌+◌, ◌*◌, ◌≤◌, List, [], ◌∷◌, length, map, take, Option, Some, None, IfSome, refl, sym, ap, ap₂, ◌∙◌, subst, arith}
use Rattle.std.specs.Prelude.{replicate}
use Rattle.std.specs.List.{AllByRecursion, flat_map, range_with_len}
use Rattle.std.specs.Int.{div_ceil}
use Rattle.std.specs.BTreeMap.{BTreeMap}
use Rattle.std.proofs.lemmas.List.{length-append, length-replicate, length-take}
use Rattle.std.proofs.lemmas.List.FromFn.{length-map-range_with_len}
use Rattle.std.proofs.lemmas.Grind.{div_ceil_times}
use Rattle.std.proofs.Math.Nat.{mul_comm}
use denote.Ref.{Bor}
use Rattle.smore_base.specs.Geometry.{IsWithinLimits}
use Rattle.zone_bay.specs.Contents.{Shape, Contents}
use Rattle.marker_format.specs.declared.label.Label.{Label}
use Rattle.marker_format.specs.Zone.{Array}
use Rattle.array_model.specs.Payload.{Fragment, indexes_of, byte_of, interpolated, fragment_from, payload_from}
use Rattle.array_model.specs.Drives.{array_of, present, labels}
use Rattle.array_model.specs.Reading.{fragment_on}
use Rattle.array_model.specs.Record.{Record}
use Rattle.array_model.specs.Sets as model
use Rattle.array_model.specs.Map.{items_of, map_by, map_of}
use Rattle.array_scan.specs.declared.records.ValidRecord.{ValidRecord}
use Rattle.array_scan.specs.declared.sets.Sets.{Sets}
use Rattle.array_scan.specs.declared.answers.Scan.{Scan}
use Rattle.array_scan.specs.declared.objects.What.{What}
use Rattle.array_scan.specs.SetRead.{carrier_of}
use Rattle.array_scan.specs.Judged.{Payloads, valid_with}
use Rattle.array_scan.specs.Valid.{placed_with, items_with}
use Rattle.array_scan.specs.Objects.{HasLengths, Tells}
use Rattle.array_scan.specs.Scan.{k_of, sets_on, payload_held, AreSetsOf, IsScanOf, array_read, map_read}

-- ---- lengths of payloads

pub length-from : (given : List Fragment) (f n first : ℕ) → length (flat_map (fragment_from given f) (range_with_len first n)) ≡ n * f
length-from given f zero first = let e : 0 ≡ zero * f = omega arith in e
length-from given f (suc n) first =
    length-append (fragment_from given f first) (flat_map (fragment_from given f) (range_with_len (first + 1) n))
    ∙ ap₂ ◌+◌ (length-map-range_with_len (λ c. interpolated (indexes_of given) (byte_of given c) first) 0 f) (length-from given f n (first + 1))
    ∙ (let e : f + n * f ≡ suc n * f = omega arith in e)

-- A payload has as many bytes as its marker says.
pub held_lengths : (k : ℕ) (held : Contents) → 1 ≤ k → HasLengths (payload_held k held)
unfolding payload_from
held_lengths k held some carriers r =
    let bytes = r.marker.payload in
    let f = div_ceil bytes k in
    let given = map (fragment_on held r.block r.marker) (take k (map carrier_of carriers)) in
    let all = flat_map (fragment_from given f) (range_with_len 0 k) in
    let long : length all ≡ k * f = length-from given f k 0 in
    let times = div_ceil_times bytes k (omega (arith, some)) in
    let fits : bytes ≤ f * k = times.0 in
    let same : f * k ≡ k * f = mul_comm f k in
    let l = length-take bytes all in
    omega (arith, l, long, fits, same)

-- payloads of zeros, which have their lengths
pub zeros : Payloads
zeros carriers r = replicate r.marker.payload 0

zeros_have_lengths : HasLengths zeros
unfolding zeros
zeros_have_lengths carriers r = length-replicate r.marker.payload 0

-- ---- records

pub items_are : (payload : Payloads) (records : List ValidRecord) → items_of (map (placed_with payload) records) ≡ items_with payload records
items_are payload [] = refl
items_are payload (v ∷ records) = ap₂ (λ x xs. x ∷ xs) refl (items_are payload records)

no_records : (payload : Payloads) (records : List ValidRecord) → map (placed_with payload) records ≡ [] → records ≡ []
no_records payload [] is = refl
no_records payload (v ∷ records) is = absurd cc

-- the records of sets are valid ones of what is read of the array
module _ (array : Option Array) (shape : Shape) (held : Contents) (drives : List ℕ) (sets : Sets) (are : AreSetsOf array shape held drives sets) (records : List ValidRecord) (placed : (payload : Payloads) → map (placed_with payload) records ≡ model.placed (valid_with payload sets.list.items)) where
  pub records_are : map (placed_with (payload_held (k_of array) held)) records ≡ model.records_of (k_of array) (sets_on array shape held drives)
  records_are = placed (payload_held (k_of array) held) ∙ ap model.placed are.valid_are

-- what is told of them is told of the map
told_of_map : (array : Option Array) (shape : Shape) (held : Contents) (drives : List ℕ) (sets : Sets) → AreSetsOf array shape held drives sets → IfSome array (λ a. 1 ≤ a.geometry.k)
    → (records : List ValidRecord) → ((payload : Payloads) → map (placed_with payload) records ≡ model.placed (valid_with payload sets.list.items))
    → (objects : BTreeMap (Bor (List ℕ)) What) → ((payload : Payloads) → HasLengths payload → Tells objects (map_by (items_with payload records) (items_with payload records)))
    → Tells objects (map_of (k_of array) (sets_on array shape held drives))
told_of_map None shape held drives sets are some records placed objects told =
    subst (λ (l : List ValidRecord). Tells objects (map_by (items_with zeros l) (items_with zeros l))) (no_records (payload_held 0 held) records (records_are None shape held drives sets are records placed)) (told zeros zeros_have_lengths)
told_of_map (Some array) shape held drives sets are some records placed objects told =
    let k = array.geometry.k in
    let payload = payload_held k held in
    subst (λ (l : List Record). Tells objects (map_by l l)) (sym (items_are payload records) ∙ ap items_of (records_are (Some array) shape held drives sets are records placed)) (told payload (held_lengths k held some))

-- the array that labels within the limits name has a source
pub named_within : (ls : List Label) → AllByRecursion (λ (l : Label). IsWithinLimits l.geometry) ls → IfSome (array_of ls) (λ a. IsWithinLimits a.geometry)
named_within [] within = tt
named_within (l ∷ ls) within = within.0

some_source : (o : Option Array) → IfSome o (λ a. IsWithinLimits a.geometry) → IfSome o (λ a. 1 ≤ a.geometry.k)
some_source None within = tt
some_source (Some a) within = within.k_from

pub scan_tells : (shape : Shape) (held : Contents) (away : List ℕ) (scan : Scan) → IsScanOf shape held away scan
    → (records : List ValidRecord) → ((payload : Payloads) → map (placed_with payload) records ≡ model.placed (valid_with payload scan.sets.list.items))
    → (objects : BTreeMap (Bor (List ℕ)) What) → ((payload : Payloads) → HasLengths payload → Tells objects (map_by (items_with payload records) (items_with payload records)))
    → Tells objects (map_read shape held away)
scan_tells shape held away scan is records placed objects told =
    let within = subst (λ (ls : List Label). AllByRecursion (λ (l : Label). IsWithinLimits l.geometry) ls) is.labels_are is.limits in
    told_of_map (array_read shape held away) shape held (present shape held away) scan.sets is.sets_are (some_source (array_read shape held away) (named_within (labels shape held away) within)) records placed objects told
