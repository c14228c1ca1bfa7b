-- Drives that a scan finds.
use Rattle.std.specs.Prelude.{◌≡◌, ◌≢◌, ◌⊎◌, ℕ, ◌&&◌, not, List, filter, take, drop, Option, Some, None, is_none, Contains, if◌then◌else◌}
use Rattle.std.specs.Str.{bytes_eq}
use Rattle.zone_bay.specs.Contents.{Shape, Contents}
use Rattle.marker_format.specs.declared.label.Label.{Label}
use Rattle.marker_format.specs.declared.label.TheConstants.{LABEL_BYTES}
use Rattle.marker_format.specs.Label.{label_at}
use Rattle.marker_format.specs.Block.{label_block}
use Rattle.array_model.specs.Drives.{is_label_of_bay, label_on, drives_of, is_among}

-- the drives that aren't away and have no label of this bay
abbrev pub unlabelled : Shape → Contents → List ℕ → List ℕ
unlabelled shape held away = filter (λ drive. not (is_among away drive) && is_none (label_on shape held drive)) (drives_of shape)

-- the labels are of one array, with one geometry
abbrev pub SaySame : Label → Label → Type 0
SaySame one other = (one.array ≡ other.array) × (one.geometry ≡ other.geometry)

-- two of the labels are not of the same array, or not of the same geometry
abbrev pub HasTwo : List Label → Type 0
HasTwo ls = (a : Label) × (b : Label) × Contains ls a × Contains ls b × ((a.array ≢ b.array) ⊎ (a.geometry ≢ b.geometry))
