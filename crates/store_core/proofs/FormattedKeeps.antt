-- A new array recovers to no object, whatever a crash leaves of it.
use Rattle.std.proofs.Common.{◌≡◌, inl, ℕ, suc, ◌-◌, ◌<◌, Bool, true, false, cond, not, List, [], ◌∷◌, length, take, Option, Some, None, is_some, refl, sym, ap, subst, ◌∙◌, arith}
use Rattle.std.specs.Prelude.{IfSome, IsSome, filter, Contains}
use Rattle.std.specs.List.{range_with_len}
use Rattle.std.specs.FinMap as finmap
use Rattle.std.proofs.lemmas.Bool.{and_parts}
use Rattle.std.proofs.lemmas.List.{take_all}
use Rattle.std.proofs.lemmas.List.Filters.{length-filter_both}
use Rattle.smore_base.specs.Told.{Told}
use Rattle.zone_bay.specs.Contents.{Shape, Contents}
use Rattle.zone_bay.specs.Images.{IsImage, without_each}
use Rattle.zone_bay.specs.Bay.{BayState}
use Rattle.zone_bay.proofs.Images.{others_keep_theirs}
use Rattle.marker_format.specs.declared.label.Label.{Label}
use Rattle.marker_format.specs.Label.{IsLabel}
use Rattle.marker_format.specs.Block.{block_of, label_block}
use Rattle.marker_format.specs.Zone.{Array}
use Rattle.array_model.specs.Drives.{is_among, is_label_of_bay, label_on, is_present}
use Rattle.array_model.specs.Kept.{label_of, IsFormatted}
use Rattle.array_model.proofs.Carriers.{label_in as label_read, label_on-is, held_without}
use Rattle.array_model.proofs.Formatted.{formatted_is_present}
use Rattle.store_core.specs.Zone.{opening_bytes}
use Rattle.store_core.specs.Opening.{BeginsSet, IsAlone}
use Rattle.store_core.specs.Format.{IsFirmOn}
use Rattle.store_core.specs.Stopped.{OpensTo, Keeps}
use Rattle.label_reader.proofs.LabelBlock.{length-label_block, label_in-own, where_ours, label_on-by}
use Rattle.store_core.proofs.Held.{map_blank}

-- ---- the label of drive 0

first_passes : (p : ℕ → Bool) (x : ℕ) (xs : List ℕ) → filter p (x ∷ xs) ≡ x ∷ xs → p x ≡ true
first_passes p x xs e = at_one (p x) (ap length e)
  where
    at_one : (b : Bool) → length (cond b (x ∷ filter p xs) (filter p xs)) ≡ suc (length xs) → b ≡ true
    at_one true long = refl
    at_one false long = absurd (omega (arith, long, length-filter_both p (λ y. not (p y)) (λ y. refl) xs))

module _ (array : Array) (shape : Shape) (held : Contents) (formatted : IsFormatted array shape held) where
  own : Label
  own = label_of array 0

  fits : IsLabel (label_of array 0)
  fits =
      let g = formatted.fits.within in
      record {
        version = omega arith;
        device = omega arith;
        drives = omega (arith, g.drives_to);
        k = omega (arith, g.k_to);
        p = omega (arith, g.fragments);
        zones = omega (arith, g.zones_to);
        blocks = omega (arith, g.blocks_to);
        shard = omega (arith, g.shard_to);
        array = formatted.fits.id;
      }

  drives : 1 < shape.devices
  drives = let g = formatted.fits.within in omega (arith, g.k_from, g.p_from, g.drives_from, formatted.fits.devices)

  block : take 512 (held 0 0) ≡ label_block (label_of array 0)
  block =
      let is = formatted.label 0 (omega (arith, drives)) in
      take_all 512 (held 0 0) (omega (arith, ap length is, length-label_block (label_of array 0) fits)) ∙ is

  read : label_on shape held 0 ≡ cond (is_label_of_bay shape 0 (label_of array 0)) (Some (label_of array 0)) None
  read = label_on-by shape held 0 ∙ ap (where_ours shape 0) (label_in-own (take 512 (held 0 0)) (label_of array 0) fits block)

  present_first : is_some (label_on shape held 0) ≡ true
  present_first =
      let count : shape.devices - 1 ≡ suc (shape.devices - 2) = omega (arith, drives) in
      let all = formatted_is_present array shape held formatted in
      let first = subst (λ (n : ℕ). filter (is_present shape held []) (range_with_len 0 n) ≡ range_with_len 0 n) count all in
      (and_parts (not (is_among [] 0)) (is_some (label_on shape held 0)) (first_passes (is_present shape held []) 0 _ first)).1

  pub label_first : label_on shape held 0 ≡ Some (label_of array 0)
  label_first = read ∙ at_one (is_label_of_bay shape 0 (label_of array 0)) (ap is_some (sym read) ∙ present_first)
    where
      at_one : (b : Bool) → is_some (cond b (Some (label_of array 0)) None) ≡ true → cond b (Some (label_of array 0)) None ≡ Some (label_of array 0)
      at_one true is = refl
      at_one false is = absurd cc

-- ---- its zones

some_bytes : (array : Array) → 0 < length (opening_bytes array)
unfolding block_of
some_bytes array = omega arith

begins : (array : Array) → BeginsSet array []
begins array = record { part = refl; less = some_bytes array }

-- ---- what a crash leaves

module _ (array : Array) (one : array.geometry.k ≡ 1) (p : array.geometry.p ≡ 1) (bay : BayState) (held : Contents) (formatted : IsFormatted array bay.shape held)
    (firm : (d : ℕ) → d < bay.shape.devices → (z : ℕ) → bay.firm d z ≡ length (held d z)) (image : Contents) (is : IsImage held bay.firm image) where
  -- all that a device holds is left
  whole : (d z : ℕ) → d < bay.shape.devices → image d z ≡ held d z
  whole d z inside = (is d z).2 ∙ take_all (is d z).0 (held d z) (omega (arith, (is d z).1, firm d inside z))

  module _ (missing : List ℕ) (there : Contains missing 0 → ⊥) where
    left_zone : (z : ℕ) → without_each missing image 0 z ≡ held 0 z
    left_zone z = others_keep_theirs missing image 0 z there ∙ whole 0 z (omega (arith, drives array bay.shape held formatted))

    left_blank : (d z : ℕ) → d < bay.shape.devices → 0 < z → without_each missing image d z ≡ []
    left_blank d z inside behind = held_without missing image d z ∙ ap (cond (is_among missing d) []) (whole d z inside ∙ formatted.nothing d z behind) ∙ either (is_among missing d)
      where
        either : (b : Bool) → cond {A = List ℕ} b [] [] ≡ []
        either true = refl
        either false = refl

    label : label_on bay.shape (without_each missing image) 0 ≡ Some (label_of array 0)
    label =
        label_on-is bay.shape (without_each missing image) 0
        ∙ ap (λ (l : List ℕ). label_read bay.shape 0 (take 512 l)) (left_zone 0)
        ∙ sym (label_on-is bay.shape held 0)
        ∙ label_first array bay.shape held formatted

    alone : IsAlone bay.shape (without_each missing image)
    alone d z drive from to other = left_blank d z (omega (arith, drive)) (omega (arith, from))

    blank : without_each missing image 0 2 ≡ []
    blank = left_blank 0 2 (omega (arith, drives array bay.shape held formatted)) (omega arith)

    pub opens_to : OpensTo array bay.shape finmap.empty (without_each missing image)
    opens_to = record {
      can = record {
        label = label;
        one_source = one;
        one_parity = p;
        zone = inl (subst (BeginsSet array) (sym blank) (begins array));
        alone = alone;
      };
      map = map_blank array bay.shape one p (drives array bay.shape held formatted) zones (without_each missing image) (ap is_some label) alone blank;
    }
      where
        zones : 2 < bay.shape.zones
        zones = omega (arith, formatted.fits.zones, formatted.fits.within.zones_from)

pub told_last : (before after : Option Contents) (P : Contents → Type 0) → Told before after (λ _ held. P held) → IfSome after P
told_last before None P told = tt
told_last None (Some held) P told = absurd told
told_last (Some was) (Some held) P told = told

-- A new array, all of whose bytes are firm.
pub formatted_keeps : (array : Array) (bay : BayState) → array.geometry.k ≡ 1 → array.geometry.p ≡ 1 → IfSome bay.contents (IsFormatted array bay.shape) → ((d : ℕ) → d < bay.shape.devices → IsFirmOn d bay) → IsSome bay.contents → Keeps array finmap.empty bay
formatted_keeps array bay one p formatted firm told = by_told bay.contents refl told
  where
    by_told : (o : Option Contents) → bay.contents ≡ o → IsSome o → Keeps array finmap.empty bay
    by_told None e told = absurd cc
    by_told (Some held) e told = record {
      told = subst (λ (o : Option Contents). IsSome o) (sym e) refl;
      now = λ image is left (missing, there, same).
          let new : IsFormatted array bay.shape held = rw e at formatted in
          let all : (d : ℕ) → d < bay.shape.devices → (z : ℕ) → bay.firm d z ≡ length (held d z) = λ d inside. rw e at (firm d inside) in
          let here : IsImage held bay.firm image = rw e at is in
          subst (OpensTo array bay.shape finmap.empty) (sym same) (opens_to array one p bay held new all image here missing there);
    }
