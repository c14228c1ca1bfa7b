-- Whether each set keeps enough carriers where drives leave.
use Rattle.std.specs.Prelude.{ℕ, ◌≤◌, Bool, nat_le, List, length, Option, Some, None, Contains}
use Rattle.zone_bay.specs.Contents.{Shape, Contents}
use Rattle.marker_format.specs.Zone.{Array}
use Rattle.array_model.specs.Drives.{places_on, outside}
use Rattle.array_model.specs.Reading.{carriers_of, ids_at}
use Rattle.array_scan.specs.declared.heads.HeadAt.{HeadAt}
use Rattle.array_scan.specs.Heads.{carriers_in}

-- the set has k carriers among the heads
abbrev pub keeps : ℕ → ℕ → List HeadAt → ℕ → Bool
keeps k indexes heads set = nat_le k (length (carriers_in heads set indexes))

-- Each set with a carrier on these drives has k where these of them leave: so it misses no more than p.
abbrev pub EachKeepsOn : Option Array → Shape → Contents → List ℕ → List ℕ → Type 0
EachKeepsOn None shape held drives leaving = Unit {0}
EachKeepsOn (Some array) shape held drives leaving =
    (set : ℕ) → Contains (ids_at array held (places_on shape drives)) set → array.geometry.k ≤ length (carriers_of array held (places_on shape (outside leaving drives)) set)
