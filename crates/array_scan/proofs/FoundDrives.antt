-- The drives that were found so far.
use Rattle.std.proofs.Common.{◌≡◌, ℕ, ◌+◌, ◌-◌, ◌<◌, Bool, true, false, cond, List, [], ◌∷◌, ◌++◌, Option, Some, None, IfSome, refl, sym, ap, ap₂, ◌∙◌, subst, arith, append-nil}
use Rattle.std.specs.Prelude.{◌&&◌, not, filter, is_some, is_none}
use Rattle.std.specs.List.{AllByRecursion, filter_map, cons_option, range_with_len}
use Rattle.std.proofs.lemmas.List.Elements.{filter-append, filter_map-append}
use Rattle.zone_bay.specs.Contents.{Shape, Contents}
use Rattle.zone_bay.specs.Bay.{BayState}
use Rattle.smore_base.specs.Geometry.{IsWithinLimits}
use Rattle.marker_format.specs.declared.label.Label.{Label}
use Rattle.array_model.specs.Drives.{label_on, is_among, is_present, present, labels}
use Rattle.array_model.proofs.SameZones.{all-append}
use Rattle.array_scan.specs.Calls.{OnlyRead}
use Rattle.array_scan.specs.Drives.{unlabelled}
use Rattle.array_scan.proofs.Calls.{told_at, told_from, read_nothing, read_then}
use Rattle.array_scan.proofs.Ranges.{range_more}

-- it isn't away and has no label
abbrev pub is_unlabelled : Shape → Contents → List ℕ → ℕ → Bool
is_unlabelled shape held away drive = not (is_among away drive) && is_none (label_on shape held drive)

-- what is found among drives
pub record FoundIn (shape : Shape) (held : Contents) (away drives there : List ℕ) (theirs : List Label) (bare : List ℕ) : Type 0 where
  pub there_are : there ≡ filter (is_present shape held away) drives
  pub labels_are : theirs ≡ filter_map (label_on shape held) (filter (is_present shape held away) drives)
  pub bare_are : bare ≡ filter (is_unlabelled shape held away) drives

module _ (shape : Shape) (held : Contents) (away drives : List ℕ) (drive : ℕ) where
  one_present : (b : Bool) → is_present shape held away drive ≡ b → filter (is_present shape held away) (drives ++ drive ∷ []) ≡ filter (is_present shape held away) drives ++ cond b (drive ∷ []) []
  one_present b is = filter-append (is_present shape held away) drives (drive ∷ []) ∙ ap (λ b. filter (is_present shape held away) drives ++ cond b (drive ∷ []) []) is

  one_bare : (b : Bool) → is_unlabelled shape held away drive ≡ b → filter (is_unlabelled shape held away) (drives ++ drive ∷ []) ≡ filter (is_unlabelled shape held away) drives ++ cond b (drive ∷ []) []
  one_bare b is = filter-append (is_unlabelled shape held away) drives (drive ∷ []) ∙ ap (λ b. filter (is_unlabelled shape held away) drives ++ cond b (drive ∷ []) []) is

  pub found_away : (there : List ℕ) (theirs : List Label) (bare : List ℕ) → is_among away drive ≡ true → FoundIn shape held away drives there theirs bare → FoundIn shape held away (drives ++ drive ∷ []) there theirs bare
  found_away there theirs bare is so_far =
      let no : filter (is_present shape held away) (drives ++ drive ∷ []) ≡ filter (is_present shape held away) drives = one_present false (ap (λ b. not b && is_some (label_on shape held drive)) is) ∙ append-nil (filter (is_present shape held away) drives) in
      let nor : filter (is_unlabelled shape held away) (drives ++ drive ∷ []) ≡ filter (is_unlabelled shape held away) drives = one_bare false (ap (λ b. not b && is_none (label_on shape held drive)) is) ∙ append-nil (filter (is_unlabelled shape held away) drives) in
      record {
        there_are = so_far.there_are ∙ sym no;
        labels_are = so_far.labels_are ∙ ap (filter_map (label_on shape held)) (sym no);
        bare_are = so_far.bare_are ∙ sym nor;
      }

  pub found_label : (there : List ℕ) (theirs : List Label) (bare : List ℕ) (l : Label) → is_among away drive ≡ false → Some l ≡ label_on shape held drive → FoundIn shape held away drives there theirs bare → FoundIn shape held away (drives ++ drive ∷ []) (there ++ drive ∷ []) (theirs ++ l ∷ []) bare
  found_label there theirs bare l is has so_far =
      let yes : filter (is_present shape held away) (drives ++ drive ∷ []) ≡ filter (is_present shape held away) drives ++ drive ∷ [] = one_present true (ap₂ (λ b o. not b && is_some o) is (sym has)) in
      let nor : filter (is_unlabelled shape held away) (drives ++ drive ∷ []) ≡ filter (is_unlabelled shape held away) drives = one_bare false (ap₂ (λ b o. not b && is_none o) is (sym has)) ∙ append-nil (filter (is_unlabelled shape held away) drives) in
      record {
        there_are = ap (λ ds. ds ++ drive ∷ []) so_far.there_are ∙ sym yes;
        labels_are = ap₂ (λ ls o. ls ++ cons_option o []) so_far.labels_are has ∙ sym (filter_map-append (label_on shape held) (filter (is_present shape held away) drives) (drive ∷ [])) ∙ ap (filter_map (label_on shape held)) (sym yes);
        bare_are = so_far.bare_are ∙ sym nor;
      }

  pub found_bare : (there : List ℕ) (theirs : List Label) (bare : List ℕ) → is_among away drive ≡ false → None ≡ label_on shape held drive → FoundIn shape held away drives there theirs bare → FoundIn shape held away (drives ++ drive ∷ []) there theirs (bare ++ drive ∷ [])
  found_bare there theirs bare is none so_far =
      let no : filter (is_present shape held away) (drives ++ drive ∷ []) ≡ filter (is_present shape held away) drives = one_present false (ap₂ (λ b o. not b && is_some o) is (sym none)) ∙ append-nil (filter (is_present shape held away) drives) in
      let yes : filter (is_unlabelled shape held away) (drives ++ drive ∷ []) ≡ filter (is_unlabelled shape held away) drives ++ drive ∷ [] = one_bare true (ap₂ (λ b o. not b && is_none o) is (sym none)) in
      record {
        there_are = so_far.there_are ∙ sym no;
        labels_are = so_far.labels_are ∙ ap (filter_map (label_on shape held)) (sym no);
        bare_are = ap (λ ds. ds ++ drive ∷ []) so_far.bare_are ∙ sym yes;
      }

-- what is known of the first drives, so many
pub record DrivesFound (before now : BayState) (away : List ℕ) (count : ℕ) (there : List ℕ) (theirs : List Label) (bare : List ℕ) : Type 0 where
  pub read : OnlyRead before now None
  pub within : AllByRecursion (λ d. d < before.shape.devices) there
  pub limits : AllByRecursion (λ (l : Label). IsWithinLimits l.geometry) theirs
  pub told : IfSome before.contents (λ held. FoundIn before.shape held away (range_with_len 0 count) there theirs bare)

pub drives_at_first : (bay : BayState) (away : List ℕ) → DrivesFound bay bay away 0 [] [] []
drives_at_first bay away = record { read = read_nothing bay; within = tt; limits = tt; told = told_from bay.contents _ (λ held is. record { there_are = refl; labels_are = refl; bare_are = refl }) }

more_told : (before : BayState) (away : List ℕ) (count : ℕ) (there there' : List ℕ) (theirs theirs' : List Label) (bare bare' : List ℕ) → IfSome before.contents (λ held. FoundIn before.shape held away (range_with_len 0 count) there theirs bare)
    → ((held : Contents) → before.contents ≡ Some held → FoundIn before.shape held away (range_with_len 0 count) there theirs bare → FoundIn before.shape held away (range_with_len 0 count ++ count ∷ []) there' theirs' bare')
    → IfSome before.contents (λ held. FoundIn before.shape held away (range_with_len 0 (count + 1)) there' theirs' bare')
more_told before away count there there' theirs theirs' bare bare' told step = told_from before.contents _ (λ held is.
    subst (λ (ds : List ℕ). FoundIn before.shape held away ds there' theirs' bare') (sym (range_more 0 count count (omega arith))) (step held is (told_at before.contents _ held is told)))

pub drive_away : (before now : BayState) (away : List ℕ) (count : ℕ) (there : List ℕ) (theirs : List Label) (bare : List ℕ) → is_among away count ≡ true → DrivesFound before now away count there theirs bare → DrivesFound before now away (count + 1) there theirs bare
drive_away before now away count there theirs bare is so_far = record {
  read = so_far.read;
  within = so_far.within;
  limits = so_far.limits;
  told = more_told before away count there there theirs theirs bare bare so_far.told (λ held held_is found. found_away before.shape held away (range_with_len 0 count) count there theirs bare is found);
}

module _ (before mid after : BayState) (away : List ℕ) (count : ℕ) (there : List ℕ) (theirs : List Label) (bare : List ℕ) (so_far : DrivesFound before mid away count there theirs bare) (read : OnlyRead mid after None) (stays : is_among away count ≡ false) where
  shown : (o : Option Label) → IfSome mid.contents (λ held. o ≡ label_on mid.shape held count) → (held : Contents) → before.contents ≡ Some held → o ≡ label_on before.shape held count
  shown o told held is = told_at mid.contents _ held (so_far.read.only.contents ∙ is) told ∙ ap (λ (s : Shape). label_on s held count) so_far.read.only.goes_on.same_shape

  pub drive_labelled : (l : Label) → count < before.shape.devices → IsWithinLimits l.geometry → IfSome mid.contents (λ held. Some l ≡ label_on mid.shape held count) → DrivesFound before after away (count + 1) (there ++ count ∷ []) (theirs ++ l ∷ []) bare
  drive_labelled l below fits told = record {
    read = read_then before mid after None so_far.read read;
    within = all-append (λ d. d < before.shape.devices) there (count ∷ []) so_far.within (below, tt);
    limits = all-append (λ (l : Label). IsWithinLimits l.geometry) theirs (l ∷ []) so_far.limits (fits, tt);
    told = more_told before away count there (there ++ count ∷ []) theirs (theirs ++ l ∷ []) bare bare so_far.told (λ held is found. found_label before.shape held away (range_with_len 0 count) count there theirs bare l stays (shown (Some l) told held is) found);
  }

  pub drive_bare : IfSome mid.contents (λ held. None ≡ label_on mid.shape held count) → DrivesFound before after away (count + 1) there theirs (bare ++ count ∷ [])
  drive_bare told = record {
    read = read_then before mid after None so_far.read read;
    within = so_far.within;
    limits = so_far.limits;
    told = more_told before away count there there theirs theirs bare (bare ++ count ∷ []) so_far.told (λ held is found. found_bare before.shape held away (range_with_len 0 count) count there theirs bare stays (shown None told held is) found);
  }

pub all_drives : (before now : BayState) (away : List ℕ) (count : ℕ) (there : List ℕ) (theirs : List Label) (bare : List ℕ) → count ≡ before.shape.devices - 1 → DrivesFound before now away count there theirs bare
    → IfSome before.contents (λ held. (there ≡ present before.shape held away) × (theirs ≡ labels before.shape held away) × (bare ≡ unlabelled before.shape held away))
all_drives before now away count there theirs bare all so_far = told_from before.contents _ (λ held is.
    let found = subst (λ n. FoundIn before.shape held away (range_with_len 0 n) there theirs bare) all (told_at before.contents _ held is so_far.told) in
    (found.there_are, found.labels_are, found.bare_are))
