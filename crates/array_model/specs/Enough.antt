-- Which drives may leave an array, and what remains then.
use Rattle.std.specs.Prelude.{◌≡◌, ℕ, ◌≤◌, Bool, ◌&&◌, ◌||◌, List, [], ◌∷◌, length, is_some}
use Rattle.zone_bay.specs.Contents.{Shape, Contents}
use Rattle.zone_bay.specs.Images.{without_each}
use Rattle.marker_format.specs.Zone.{Array}
use Rattle.array_model.specs.Drives.{outside, present, places_on}
use Rattle.array_model.specs.Reading.{carriers_of}
use Rattle.array_model.specs.Sets.{ReadSet, stands, valid, kept_by}
use Rattle.array_model.specs.Possible.{IsEverNeeded}

-- A set that stands is settled where a valid cut names it, or where each of its carriers has a whole foot: then its valid
-- records are the same whichever of its carriers are read. One that doesn't stand isn't settled: with other carriers it may
-- come to stand.
abbrev pub is_settled : ℕ → List ReadSet → ReadSet → Bool
is_settled k sets set = stands k set && (is_some (kept_by set.id (valid k sets)) || set.closed)

-- Enough carriers stay where drives leave: each set that is ever needed keeps k.
abbrev pub IsEnough : Array → Shape → List ℕ → Contents → List ℕ → Type 0
IsEnough array shape uploads held leaving =
    let others = places_on shape (outside leaving (present shape held [])) in
    (set : ℕ) → IsEverNeeded array shape uploads held set → array.geometry.k ≤ length (carriers_of array held others set)

-- What is left after devices left in turn, each time with enough in what those before had left. A device that left holds
-- nothing. No set has a carrier on the flash, the last device, so it may always leave. An image has no uploads in progress.
abbrev pub IsLeftAfter : Array → Shape → List (List ℕ) → Contents → Contents → Type 0
IsLeftAfter array shape [] held left = left ≡ held
IsLeftAfter array shape (leaving ∷ more) held left = IsEnough array shape [] held leaving × IsLeftAfter array shape more (without_each leaving held) left

-- What remains of an image: what it holds without the devices that were lost by its instant, after any such removals.
abbrev pub IsRemains : Array → Shape → List ℕ → Contents → Contents → Type 0
IsRemains array shape lost image left = (removals : List (List ℕ)) × IsLeftAfter array shape removals (without_each lost image) left
