-- Carriers where drives leave, and which drives are present then.
use Rattle.std.proofs.Common.{◌≡◌, ℕ, zero, suc, ◌+◌, ◌-◌, Bool, true, false, cond, eqb, inl, inr, List, [], ◌∷◌, map, Option, Some, None, refl, sym, ap, ◌∙◌, subst, length, ◌≤◌, arith}
use Rattle.std.specs.Prelude.{◌&&◌, ◌||◌, not, filter, is_some, take, drop}
use Rattle.std.specs.List.{AllByRecursion, find, range_with_len, filter_map, cons_option}
use Rattle.std.specs.Option.{option_or}
use Rattle.std.specs.Str.{bytes_eq}
use Rattle.std.proofs.lemmas.Bool.{and_from, cases_eq, and_right, eq-eqb, ne_eqb}
use Rattle.std.proofs.lemmas.List.Folds.{find-append}
use Rattle.std.proofs.lemmas.List.Elements.{filter_agree}
use Rattle.std.proofs.lemmas.Slice.Eq.{bytes_eq-Decides}
use Rattle.zone_bay.specs.Contents.{Shape, Contents, blanked}
use Rattle.zone_bay.specs.Images.{without_each}
use Rattle.marker_format.specs.declared.label.Label.{Label}
use Rattle.marker_format.specs.declared.label.TheConstants.{LABEL_BYTES}
use Rattle.marker_format.specs.Label.{label_at}
use Rattle.marker_format.specs.Block.{block_of, label_block}
use Rattle.array_model.specs.Drives.{outside, Place, is_label_of_bay, label_on, drives_of, is_among, is_present, places_on, is_of, head_at}
use Rattle.array_model.specs.Reading.{Carrier, carries, carrier_of, fragments_of}
use Rattle.array_model.specs.ReadingLaws.{NoCarrierComes, NoMoreCarriers, CarrierStays, PresentStay}

-- ---- the first that passes

-- What is found passes, and is one of them.
pub find-is : {X : Type 0} (p : X → Bool) (P : X → Type 0) (xs : List X) (x : X) → AllByRecursion P xs → find p xs ≡ Some x → (p x ≡ true) × P x
find-is p P [] x all e = absurd cc
find-is {X} p P (y ∷ ys) x all e = found (p y) refl e (λ rest. find-is p P ys x all.1 rest)
  where
    found : (b : Bool) → p y ≡ b → cond b (Some y) (find p ys) ≡ Some x → (find p ys ≡ Some x → (p x ≡ true) × P x) → (p x ≡ true) × P x
    found true is e later = let same : y ≡ x = cc in (ap p (sym same) ∙ is, subst P same all.0)
    found false is e later = later e

-- the first of two, where neither is there
none_of_both : {X : Type 0} (a b : Option X) → option_or a b ≡ None → (a ≡ None) × (b ≡ None)
none_of_both None b e = (refl, e)
none_of_both (Some x) b e = absurd cc

-- ---- the places of the drives that stay

-- the places of one drive
abbrev pub places_of : Shape → ℕ → List Place
places_of shape device = map (λ zone. record { device = device; zone = zone }) (range_with_len 2 (shape.zones - 2))

pub places_on_device : (device first count : ℕ) → AllByRecursion (λ (place : Place). place.device ≡ device) (map (λ zone. record { device = device; zone = zone }) (range_with_len first count))
places_on_device device first zero = tt
places_on_device device first (suc count) = (refl, places_on_device device (first + 1) count)

module _ (shape : Shape) (leaving : List ℕ) (test : Place → Bool) where
  abbrev Found : List ℕ → Option Place
  Found drives = find test (places_on shape drives)

  found_more : (drive : ℕ) (drives : List ℕ) → Found (drive ∷ drives) ≡ option_or (find test (places_of shape drive)) (Found drives)
  found_more drive drives = find-append test (places_of shape drive) (places_on shape drives)

  -- where there is none, there is none on the drives that stay
  none_stays : (drives : List ℕ) → Found drives ≡ None → Found (outside leaving drives) ≡ None
  none_stays [] none = refl
  none_stays (drive ∷ drives) none =
      let both = none_of_both (find test (places_of shape drive)) (Found drives) (sym (found_more drive drives) ∙ none) in
      at_one (is_among leaving drive) both.0 (none_stays drives both.1)
    where
      at_one : (b : Bool) → find test (places_of shape drive) ≡ None → Found (outside leaving drives) ≡ None → Found (cond (not b) (drive ∷ outside leaving drives) (outside leaving drives)) ≡ None
      at_one true here rest = rest
      at_one false here rest = found_more drive (outside leaving drives) ∙ ap (λ o. option_or o (Found (outside leaving drives))) here ∙ rest

  -- The first place on a drive that stays is the first on those that do.
  first_stays : (drives : List ℕ) (place : Place) → is_among leaving place.device ≡ false → Found drives ≡ Some place → Found (outside leaving drives) ≡ Some place
  first_stays [] place stays e = e
  first_stays (drive ∷ drives) place stays e =
      at_one (is_among leaving drive) refl (find test (places_of shape drive)) refl (sym (found_more drive drives) ∙ e) (first_stays drives place stays)
    where
      at_one : (b : Bool) → is_among leaving drive ≡ b → (o : Option Place) → find test (places_of shape drive) ≡ o → option_or o (Found drives) ≡ Some place → (Found drives ≡ Some place → Found (outside leaving drives) ≡ Some place) → Found (cond (not b) (drive ∷ outside leaving drives) (outside leaving drives)) ≡ Some place
      at_one true leaves None here e later = later e
      at_one true leaves (Some other) here e later =
          let same : other ≡ place = cc in
          let there = (find-is test (λ (p : Place). p.device ≡ drive) (places_of shape drive) other (places_on_device drive 2 (shape.zones - 2)) here).1 in
          let device : drive ≡ place.device = sym there ∙ ap (λ (p : Place). p.device) same in
          let left : is_among leaving place.device ≡ true = ap (is_among leaving) (sym device) ∙ leaves in
          absurd cc
      at_one false remains None here e later = found_more drive (outside leaving drives) ∙ ap (λ o. option_or o (Found (outside leaving drives))) here ∙ later e
      at_one false remains (Some other) here e later = found_more drive (outside leaving drives) ∙ ap (λ o. option_or o (Found (outside leaving drives))) here ∙ e

carries_none : (index : ℕ) (o : Option Place) → carries index o ≡ None → o ≡ None
carries_none index None e = refl
carries_none index (Some place) e = absurd cc

pub carries_some : (index : ℕ) (o : Option Place) (carrier : Carrier) → carries index o ≡ Some carrier → (o ≡ Some carrier.place) × (carrier.index ≡ index)
carries_some index None carrier e = absurd cc
carries_some index (Some place) carrier e =
    let same : record { index = index; place = place } ≡ carrier = cc in
    (ap (λ (c : Carrier). Some c.place) same, ap (λ (c : Carrier). c.index) (sym same))

pub no_carrier_comes : NoCarrierComes
no_carrier_comes array shape held drives leaving set index none =
    ap (carries index) (none_stays shape leaving (λ place. is_of set index (head_at array held place)) drives (carries_none index _ none))

pub carrier_stays : CarrierStays
carrier_stays array shape held drives leaving set index carrier e stays =
    let is = carries_some index _ carrier e in
    ap (carries index) (first_stays shape leaving (λ place. is_of set index (head_at array held place)) drives carrier.place stays is.0) ∙ ap (λ i. Some (record carrier { index = i })) (sym is.1)

-- what is had of each is had of no more than those of which something else is
pub length-filter_map : {X Y : Type 0} (f g : X → Option Y) (xs : List X) → ((x : X) → g x ≡ None → f x ≡ None) → length (filter_map f xs) ≤ length (filter_map g xs)
length-filter_map f g [] less = omega arith
length-filter_map {X} {Y} f g (x ∷ xs) less = at_one (g x) (f x) (less x) (length-filter_map f g xs less)
  where
    at_one : (o p : Option Y) → (o ≡ None → p ≡ None) → length (filter_map f xs) ≤ length (filter_map g xs) → length (cons_option p (filter_map f xs)) ≤ length (cons_option o (filter_map g xs))
    at_one None None also rest = rest
    at_one None (Some y) also rest = let none = also refl in absurd cc
    at_one (Some z) None also rest = omega (arith, rest)
    at_one (Some z) (Some y) also rest = omega (arith, rest)

pub no_more_carriers : NoMoreCarriers
no_more_carriers array shape held drives leaving set =
    length-filter_map (carrier_of array held (places_on shape (outside leaving drives)) set) (carrier_of array held (places_on shape drives) set) (range_with_len 0 (fragments_of array))
    (λ index. no_carrier_comes array shape held drives leaving set index)

-- ---- which drives are present

pub filter-twice : (p q : ℕ → Bool) (xs : List ℕ) → filter p (filter q xs) ≡ filter (λ x. q x && p x) xs
filter-twice p q [] = refl
filter-twice p q (x ∷ xs) = at_one (q x) (filter-twice p q xs)
  where
    at_one : (a : Bool) → filter p (filter q xs) ≡ filter (λ x. q x && p x) xs → filter p (cond a (x ∷ filter q xs) (filter q xs)) ≡ cond (a && p x) (x ∷ filter (λ x. q x && p x) xs) (filter (λ x. q x && p x) xs)
    at_one true rest = ap (λ r. cond (p x) (x ∷ r) r) rest
    at_one false rest = rest

same_other_way : (a b : ℕ) → eqb a b ≡ eqb b a
same_other_way a b = elim (cases_eq a b) [
  | inl same ↦ eq-eqb a b same ∙ sym (eq-eqb b a (sym same))
  | inr differ ↦ ne_eqb a b differ ∙ sym (ne_eqb b a (λ e. differ (sym e)))
]

-- A device that left holds nothing, and the others hold what they held.
pub held_without : (leaving : List ℕ) (held : Contents) (device zone : ℕ) → without_each leaving held device zone ≡ cond (is_among leaving device) [] (held device zone)
held_without [] held device zone = refl
held_without (first ∷ leaving) held device zone =
    held_without leaving (blanked first held) device zone
    ∙ ap (λ b. cond (is_among leaving device) [] (cond b [] (held device zone))) (same_other_way device first)
    ∙ at_one (eqb first device) (is_among leaving device) (held device zone)
  where
    at_one : (a b : Bool) (bytes : List ℕ) → cond b [] (cond a [] bytes) ≡ cond (a || b) [] bytes
    at_one true true bytes = refl
    at_one true false bytes = refl
    at_one false b bytes = refl

-- what the first bytes of a device say
pub label_in : Shape → ℕ → List ℕ → Option Label
label_in shape device block =
    let l = label_at (take LABEL_BYTES (drop 1 block)) in
    cond (is_label_of_bay shape device l && bytes_eq block (label_block l)) (Some l) None

pub label_on-is : (shape : Shape) (held : Contents) (device : ℕ) → label_on shape held device ≡ label_in shape device (take 512 (held device 0))
unfolding label_on label_in
label_on-is shape held device = refl

-- what is read there, where anything is,
pub label_in-is : (shape : Shape) (device : ℕ) (block : List ℕ) (l : Label) → label_in shape device block ≡ Some l → l ≡ label_at (take LABEL_BYTES (drop 1 block))
unfolding label_in
label_in-is shape device block l e = read (is_label_of_bay shape device own && bytes_eq block (label_block own)) own e
  where
    own : Label
    own = label_at (take LABEL_BYTES (drop 1 block))

    read : (b : Bool) (own : Label) → cond b (Some own) None ≡ Some l → l ≡ own
    read true own e = cc
    read false own e = absurd cc

-- and that it is read,
pub label_in-own : (shape : Shape) (device : ℕ) (block : List ℕ) (l : Label) → label_at (take LABEL_BYTES (drop 1 block)) ≡ l → is_label_of_bay shape device l ≡ true → block ≡ label_block l → label_in shape device block ≡ Some l
unfolding label_in
label_in-own shape device block l read ours is =
    ap (λ (x : Label). cond (is_label_of_bay shape device x && bytes_eq block (label_block x)) (Some x) None) read
    ∙ ap (λ b. cond b (Some l) None) (and_from (is_label_of_bay shape device l) (bytes_eq block (label_block l)) ours ((bytes_eq-Decides block (label_block l)).1 is))

-- and in nothing none.
pub no_label : (shape : Shape) (device : ℕ) → label_in shape device [] ≡ None
unfolding label_in block_of
no_label shape device = let l = label_at [] in ap (λ b. cond b (Some l) None) (and_right (is_label_of_bay shape device l) (bytes_eq [] (label_block l)) refl)

-- The label of a device is what it was, where it stays.
pub label_without : (shape : Shape) (held : Contents) (leaving : List ℕ) (device : ℕ) → label_on shape (without_each leaving held) device ≡ cond (is_among leaving device) None (label_on shape held device)
label_without shape held leaving device =
    label_on-is shape (without_each leaving held) device
    ∙ ap (λ bytes. label_in shape device (take 512 bytes)) (held_without leaving held device 0)
    ∙ at_one (is_among leaving device)
  where
    at_one : (b : Bool) → label_in shape device (take 512 (cond b [] (held device 0))) ≡ cond b None (label_on shape held device)
    at_one true = no_label shape device
    at_one false = sym (label_on-is shape held device)

pub present_stay : PresentStay
present_stay shape held leaving =
    filter_agree (is_present shape (without_each leaving held) []) (λ drive. is_present shape held [] drive && not (is_among leaving drive)) (λ drive. ap is_some (label_without shape held leaving drive) ∙ at_one (is_among leaving drive) (label_on shape held drive)) (drives_of shape)
    ∙ sym (filter-twice (λ drive. not (is_among leaving drive)) (is_present shape held []) (drives_of shape))
  where
    at_one : (b : Bool) (o : Option Label) → is_some (cond b None o) ≡ (is_some o && not b)
    at_one true None = refl
    at_one true (Some l) = refl
    at_one false None = refl
    at_one false (Some l) = refl
