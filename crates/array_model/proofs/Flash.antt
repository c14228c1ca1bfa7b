-- The flash may always leave: no set has a carrier there.
use Rattle.std.proofs.Common.{◌≡◌, ℕ, zero, suc, ◌+◌, ◌-◌, ◌<◌, ◌≤◌, Bool, true, false, cond, List, [], ◌∷◌, length, refl, sym, ap, subst, arith}
use Rattle.std.specs.Prelude.{not, filter}
use Rattle.std.specs.List.{AllByRecursion, range_with_len}
use Rattle.std.proofs.lemmas.Bool.{ne_eqb, or_from}
use Rattle.zone_bay.specs.Contents.{Shape, Contents}
use Rattle.array_model.specs.Drives.{outside, drives_of, is_among, is_present, present, places_on}
use Rattle.array_model.specs.Reading.{carriers_of}
use Rattle.array_model.specs.ReadingLaws.{FlashMayLeave}
use Rattle.array_model.proofs.NeededSets.{ever_needed_has_carriers}
use Rattle.array_model.proofs.SameZones.{all-map}
use Rattle.array_model.proofs.Formatted.{all_stay}

-- ---- the drives

below_last : (first count last : ℕ) → first + count ≡ last → AllByRecursion (λ d. d < last) (range_with_len first count)
below_last first zero last is = tt
below_last first (suc count) last is = (omega (arith, is), below_last (first + 1) count last (omega (arith, is)))

all-filter : (P : ℕ → Type 0) (keep : ℕ → Bool) (xs : List ℕ) → AllByRecursion P xs → AllByRecursion P (filter keep xs)
all-filter P keep [] all = tt
all-filter P keep (x ∷ xs) all = at_one (keep x) (all-filter P keep xs all.1)
  where
    at_one : (b : Bool) → AllByRecursion P (filter keep xs) → AllByRecursion P (cond b (x ∷ filter keep xs) (filter keep xs))
    at_one true rest = (all.0, rest)
    at_one false rest = rest

-- All drives stay where the flash leaves.
drives_stay : (shape : Shape) (held : Contents) → outside ((shape.devices - 1) ∷ []) (present shape held []) ≡ present shape held []
drives_stay shape held =
    let last = shape.devices - 1 in
    all_stay (λ drive. not (is_among (last ∷ []) drive)) (present shape held [])
    (all-map (λ d. d < last) (λ drive. not (is_among (last ∷ []) drive) ≡ true) (present shape held [])
    (λ drive below. ap not (or_from _ _ (ne_eqb last drive (λ e. omega (arith, e, below))) refl))
    (all-filter (λ d. d < last) (is_present shape held []) (drives_of shape) (below_last 0 last last (omega arith))))

pub flash_may_leave : FlashMayLeave
flash_may_leave array shape uploads held set ever =
    subst (λ others. array.geometry.k ≤ length (carriers_of array held (places_on shape others) set)) (sym (drives_stay shape held))
    (ever_needed_has_carriers array shape uploads held set ever)
