-- A carrier is the lowest of the places with a whole head of its set and index.
use Rattle.std.proofs.Common.{◌≡◌, ℕ, zero, suc, ◌+◌, ◌-◌, ◌<◌, ◌≤◌, Bool, true, false, cond, inl, inr, List, [], ◌∷◌, ◌++◌, map, Some, refl, sym, ap, ◌∙◌, subst, arith}
use Rattle.std.specs.Prelude.{filter}
use Rattle.std.specs.List.{AllByRecursion, find, range_with_len}
use Rattle.zone_bay.specs.Contents.{Shape}
use Rattle.array_model.specs.Drives.{Place, is_of, head_at, drives_of, is_present, present, places_on}
use Rattle.array_model.specs.ReadingLaws.{IsNoHigher, CarrierIsLowest}
use Rattle.array_model.proofs.Records.{Among, among_from_contains, all_among}
use Rattle.array_model.proofs.Carriers.{find-is, carries_some, places_of, places_on_device}
use Rattle.array_model.proofs.SameZones.{all-map, all-append}

-- ---- numbers that rise

-- the numbers are this one or above, and rise
abbrev pub RiseFrom : ℕ → List ℕ → Type 0
RiseFrom low [] = Unit {0}
RiseFrom low (id ∷ ids) = (low ≤ id) × RiseFrom (id + 1) ids

pub rise_from_lower : (low high : ℕ) (ids : List ℕ) → low ≤ high → RiseFrom high ids → RiseFrom low ids
rise_from_lower low high [] less rise = tt
rise_from_lower low high (id ∷ ids) less rise = let above = rise.0 in (omega arith, rise.1)

pub range_rises : (first count : ℕ) → RiseFrom first (range_with_len first count)
range_rises first zero = tt
range_rises first (suc count) = (omega arith, range_rises (first + 1) count)

filter_rises_from : (keep : ℕ → Bool) (low : ℕ) (ids : List ℕ) → RiseFrom low ids → RiseFrom low (filter keep ids)
filter_rises_from keep low [] rise = tt
filter_rises_from keep low (id ∷ ids) rise = at_one (keep id) (filter_rises_from keep (id + 1) ids rise.1)
  where
    at_one : (b : Bool) → RiseFrom (id + 1) (filter keep ids) → RiseFrom low (cond b (id ∷ filter keep ids) (filter keep ids))
    at_one true rest = (rise.0, rest)
    at_one false rest = let above = rise.0 in rise_from_lower low (id + 1) (filter keep ids) (omega arith) rest

-- ---- places that rise

-- none is higher than one behind it
abbrev Sorted : List Place → Type 0
Sorted [] = Unit {0}
Sorted (place ∷ places) = AllByRecursion (IsNoHigher place) places × Sorted places

zones_sorted : (device first count : ℕ) → Sorted (map (λ zone. record { device = device; zone = zone }) (range_with_len first count))
zones_sorted device first zero = tt
zones_sorted device first (suc count) = (above (first + 1) count (omega arith), zones_sorted device (first + 1) count)
  where
    above : (next count : ℕ) → first < next → AllByRecursion (IsNoHigher (record { device = device; zone = first })) (map (λ zone. record { device = device; zone = zone }) (range_with_len next count))
    above next zero less = tt
    above next (suc count) less = (inr (refl, omega arith), above (next + 1) count (omega arith))

sorted-append : (xs ys : List Place) → Sorted xs → Sorted ys → AllByRecursion (λ x. AllByRecursion (IsNoHigher x) ys) xs → Sorted (xs ++ ys)
sorted-append [] ys first second between = second
sorted-append (x ∷ xs) ys first second between = (all-append (IsNoHigher x) xs ys first.0 between.0, sorted-append xs ys first.1 second between.1)

module _ (shape : Shape) where
  on_from : (low : ℕ) (drives : List ℕ) → RiseFrom low drives → AllByRecursion (λ (place : Place). low ≤ place.device) (places_on shape drives)
  on_from low [] rise = tt
  on_from low (drive ∷ drives) rise =
      let from = rise.0 in
      all-append (λ (place : Place). low ≤ place.device) (places_of shape drive) (places_on shape drives)
      (all-map (λ (place : Place). place.device ≡ drive) (λ place. low ≤ place.device) (places_of shape drive) (λ place there. omega (arith, there)) (places_on_device drive 2 (shape.zones - 2)))
      (on_from low drives (rise_from_lower low (drive + 1) drives (omega arith) rise.1))

  places_sorted : (low : ℕ) (drives : List ℕ) → RiseFrom low drives → Sorted (places_on shape drives)
  places_sorted low [] rise = tt
  places_sorted low (drive ∷ drives) rise =
      sorted-append (places_of shape drive) (places_on shape drives) (zones_sorted drive 2 (shape.zones - 2)) (places_sorted (drive + 1) drives rise.1)
      (all-map (λ (place : Place). place.device ≡ drive) (λ place. AllByRecursion (IsNoHigher place) (places_on shape drives)) (places_of shape drive)
      (λ place there. all-map (λ (other : Place). drive + 1 ≤ other.device) (IsNoHigher place) (places_on shape drives) (λ other from. inl (omega (arith, there, from))) (on_from (drive + 1) drives rise.1))
      (places_on_device drive 2 (shape.zones - 2)))

-- What is found first is no higher than any other that passes.
find-lowest : (p : Place → Bool) (xs : List Place) (x y : Place) → Sorted xs → find p xs ≡ Some x → Among y xs → p y ≡ true → IsNoHigher x y
find-lowest p [] x y sorted e found passes = absurd found
find-lowest p (z ∷ xs) x y sorted e found passes = at_one (p z) refl e found (λ e later. find-lowest p xs x y sorted.1 e later passes)
  where
    itself : (a b : Place) → a ≡ b → IsNoHigher a b
    itself a b same = subst (IsNoHigher a) same (inr (refl, omega arith))

    at_one : (b : Bool) → p z ≡ b → cond b (Some z) (find p xs) ≡ Some x → Among y (z ∷ xs) → (find p xs ≡ Some x → Among y xs → IsNoHigher x y) → IsNoHigher x y
    at_one true is e (inl same) rest = let first : z ≡ x = cc in itself x y (sym first ∙ same)
    at_one true is e (inr later) rest = let first : z ≡ x = cc in subst (λ (a : Place). IsNoHigher a y) first (all_among (IsNoHigher z) xs y sorted.0 later)
    at_one false is e (inl same) rest = let none = sym (ap p same) ∙ is in absurd cc
    at_one false is e (inr later) rest = rest e later

each_passes : (xs : List Place) → AllByRecursion (λ place. Unit {0}) xs
each_passes [] = tt
each_passes (x ∷ xs) = (tt, each_passes xs)

pub carrier_is_lowest : CarrierIsLowest
carrier_is_lowest array shape held set index carrier e =
    let places = places_on shape (present shape held []) in
    let test = λ (place : Place). is_of set index (head_at array held place) in
    let is = (carries_some index (find test places) carrier e).0 in (
      (find-is test (λ place. Unit {0}) places carrier.place (each_passes places) is).0,
      λ place found passes. find-lowest test places carrier.place place
          (places_sorted shape 0 (present shape held []) (filter_rises_from (is_present shape held []) 0 (drives_of shape) (range_rises 0 (shape.devices - 1))))
          is (among_from_contains places place found) passes,
    )
