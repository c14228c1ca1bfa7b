-- Which drives are there, and what their zones hold.
use Rattle.std.specs.Prelude.{◌≢◌, ◌⊎◌, ℕ, ◌+◌, ◌-◌, Bool, false, ◌&&◌, not, ◌==◌, List, [], ◌∷◌, map, filter, take, drop, Option, Some, None, is_none, is_some, Contains, if◌then◌else◌}
use Rattle.std.specs.List.{list_any, filter_map, flat_map, range_with_len}
use Rattle.std.specs.Str.{bytes_eq}
use Rattle.smore_base.specs.Geometry.{first_fault}
use Rattle.smore_base.specs.declared.limits.TheConstants.{BLOCK_BYTES}
use Rattle.zone_bay.specs.Contents.{Shape, Contents}
use Rattle.marker_format.specs.declared.label.Label.{Label}
use Rattle.marker_format.specs.declared.label.TheConstants.{LABEL_BYTES}
use Rattle.marker_format.specs.declared.marker.Marker.{Marker}
use Rattle.marker_format.specs.Label.{label_at}
use Rattle.marker_format.specs.Block.{label_block}
use Rattle.marker_format.specs.Zone.{Array, whole_records}

-- a label of this device of a bay of this shape: of version 1, with a geometry within the limits that is the bay's
abbrev pub is_label_of_bay : Shape → ℕ → Label → Bool
is_label_of_bay shape device l =
    let g = l.geometry in
    (l.version == 1) && is_none (first_fault g) && (l.device == device) && (g.drives + 1 == shape.devices) && (g.zones == shape.zones) && (g.blocks == shape.blocks)

-- the label with which the device begins, where it is one of this bay
unfoldable pub label_on : Shape → Contents → ℕ → Option Label
label_on shape held device =
    let block = take BLOCK_BYTES (held device 0) in
    let l = label_at (take LABEL_BYTES (drop 1 block)) in
    if is_label_of_bay shape device l && bytes_eq block (label_block l) then Some l else None

-- the drives of a bay of this shape: the last device is the flash, and no drive
abbrev pub drives_of : Shape → List ℕ
drives_of shape = range_with_len 0 (shape.devices - 1)

-- the device is one of these
abbrev pub is_among : List ℕ → ℕ → Bool
is_among devices device = list_any (λ d. d == device) devices

-- the drives that are none of these
abbrev pub outside : List ℕ → List ℕ → List ℕ
outside leaving drives = filter (λ drive. not (is_among leaving drive)) drives

-- A drive is present where it isn't away and begins with a label of this bay.
abbrev pub is_present : Shape → Contents → List ℕ → ℕ → Bool
is_present shape held away drive = not (is_among away drive) && is_some (label_on shape held drive)

-- the present drives, the lowest first
abbrev pub present : Shape → Contents → List ℕ → List ℕ
present shape held away = filter (is_present shape held away) (drives_of shape)

-- the labels of the present drives, by rising drive
abbrev pub labels : Shape → Contents → List ℕ → List Label
labels shape held away = filter_map (label_on shape held) (present shape held away)

-- what the lowest present drive's label says of the array
abbrev pub array_of : List Label → Option Array
array_of [] = None
array_of (l ∷ ls) = Some (record { geometry = l.geometry; id = l.array })

-- Two present drives say different things: not the same array, or not the same geometry.
abbrev pub AreMixed : Shape → Contents → List ℕ → Type 0
AreMixed shape held away = (a : Label) × (b : Label) × Contains (labels shape held away) a × Contains (labels shape held away) b × ((a.array ≢ b.array) ⊎ (a.geometry ≢ b.geometry))

-- a zone of a drive
pub record Place : Type 0 where
  pub device : ℕ
  pub zone : ℕ

-- the set zones of these drives, by rising drive and zone: zones 0 and 1 are none
abbrev pub places_on : Shape → List ℕ → List Place
places_on shape devices = flat_map (λ device. map (λ zone. record { device = device; zone = zone }) (range_with_len 2 (shape.zones - 2))) devices

-- what a place holds
abbrev pub bytes_at : Contents → Place → List ℕ
bytes_at held place = held place.device place.zone

-- the whole records of a place
abbrev pub records_at : Array → Contents → Place → List Marker
records_at array held place = whole_records array (bytes_at held place)

-- the first of these
abbrev pub first_of : List Marker → Option Marker
first_of [] = None
first_of (m ∷ ms) = Some m

-- the whole head of a place
abbrev pub head_at : Array → Contents → Place → Option Marker
head_at array held place = first_of (records_at array held place)

-- this is a head of the set and the index
abbrev pub is_of : ℕ → ℕ → Option Marker → Bool
is_of set index None = false
is_of set index (Some head) = (head.set == set) && (head.index == index)
