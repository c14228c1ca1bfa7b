-- What a scan says of an array.
use Rattle.std.specs.Prelude.{◌≡◌, ℕ, ◌<◌, List, [], map, take, Option, Some, None}
use Rattle.std.specs.List.{AllByRecursion}
use Rattle.smore_base.specs.Geometry.{IsWithinLimits}
use Rattle.smore_base.specs.Objects.{Map}
use Rattle.zone_bay.specs.Contents.{Shape, Contents}
use Rattle.marker_format.specs.declared.label.Label.{Label}
use Rattle.marker_format.specs.Zone.{Array}
use Rattle.array_model.specs.Payload.{payload_from}
use Rattle.array_model.specs.Drives.{present, labels, array_of, places_on}
use Rattle.array_model.specs.Reading.{fragment_on, fragments_of, reading, ids_at}
use Rattle.array_model.specs.Sets.{ReadSet, Placed, stands, valid}
use Rattle.array_model.specs.Map.{map_of}
use Rattle.array_model.specs.NeedTests.{needed_of}
use Rattle.array_scan.specs.declared.records.ValidRecord.{ValidRecord}
use Rattle.array_scan.specs.declared.sets.Sets.{Sets}
use Rattle.array_scan.specs.declared.answers.Scan.{Scan}
use Rattle.array_scan.specs.Drives.{unlabelled}
use Rattle.array_scan.specs.SetRead.{carrier_of, FitsBay, Seen, seen_of, seen_at}
use Rattle.array_scan.specs.Judged.{Payloads, sets_with, valid_with}
use Rattle.array_scan.specs.Valid.{placed_with}

-- The array that the lowest present drive's label names, where the devices that are away are these.
abbrev pub array_read : Shape → Contents → List ℕ → Option Array
array_read shape held away = array_of (labels shape held away)

-- how many source fragments it has
abbrev pub k_of : Option Array → ℕ
k_of None = 0
k_of (Some array) = array.geometry.k

-- how many fragments it has
abbrev pub indexes_of : Option Array → ℕ
indexes_of None = 0
indexes_of (Some array) = fragments_of array

-- what is read of it on these drives
abbrev pub sets_on : Option Array → Shape → Contents → List ℕ → List ReadSet
sets_on None shape held drives = []
sets_on (Some array) shape held drives = reading array shape held drives

-- what is seen of its sets there
abbrev pub seen_on : Option Array → Shape → Contents → List ℕ → List Seen
seen_on None shape held drives = []
seen_on (Some array) shape held drives =
    let places = places_on shape drives in
    map (seen_at array held places) (ids_at array held places)

-- what the k carriers of lowest index hold as the payload of a record
abbrev pub payload_held : ℕ → Contents → Payloads
payload_held k held carriers r = payload_from k (map (fragment_on held r.block r.marker) (take k (map carrier_of carriers))) r.marker.payload

-- The sets are those that are read on these drives, judged as the definitions say.
pub record AreSetsOf (array : Option Array) (shape : Shape) (held : Contents) (drives : List ℕ) (sets : Sets) : Type 0 where
  pub k : sets.k ≡ k_of array
  pub fit : AllByRecursion (λ s. FitsBay shape (indexes_of array) s.read) sets.list.items
  pub seen : map (λ s. seen_of s.read) sets.list.items ≡ seen_on array shape held drives
  pub reading : sets_with (payload_held (k_of array) held) sets.list.items ≡ sets_on array shape held drives
  pub standing : map (λ s. s.stands) sets.list.items ≡ map (stands (k_of array)) (sets_on array shape held drives)
  pub valid_are : valid_with (payload_held (k_of array) held) sets.list.items ≡ valid (k_of array) (sets_on array shape held drives)

-- A scan of these contents, where these devices are away: the present drives with their labels, those without one, and
-- the sets.
pub record IsScanOf (shape : Shape) (held : Contents) (away : List ℕ) (scan : Scan) : Type 0 where
  pub present_are : scan.drives.present.items ≡ present shape held away
  pub labels_are : scan.drives.labels.items ≡ labels shape held away
  pub unlabelled_are : scan.drives.unlabelled.items ≡ unlabelled shape held away
  pub within : AllByRecursion (λ d. d < shape.devices) scan.drives.present.items
  pub limits : AllByRecursion (λ (l : Label). IsWithinLimits l.geometry) scan.drives.labels.items
  pub sets_are : AreSetsOf (array_read shape held away) shape held (present shape held away) scan.sets

-- The carriers of the sets are in zones of the bay, and their indexes are those of the array.
pub record AreInBay (array : Option Array) (shape : Shape) (sets : Sets) : Type 0 where
  pub k : sets.k ≡ k_of array
  pub fit : AllByRecursion (λ s. FitsBay shape (indexes_of array) s.read) sets.list.items

-- So are those of the scan's sets, its drives are the bay's, and its labels are within the limits: what it has can be read
-- again of a bay of this shape.
pub record IsInBay (shape : Shape) (scan : Scan) : Type 0 where
  pub within : AllByRecursion (λ d. d < shape.devices) scan.drives.present.items
  pub limits : AllByRecursion (λ (l : Label). IsWithinLimits l.geometry) scan.drives.labels.items
  pub sets : AreInBay (array_of scan.drives.labels.items) shape scan.sets

-- what is read of the array, where these devices are away
abbrev pub sets_read : Shape → Contents → List ℕ → List ReadSet
sets_read shape held away = sets_on (array_read shape held away) shape held (present shape held away)

-- What names stand for then.
abbrev pub map_read : Shape → Contents → List ℕ → Map
map_read shape held away = map_of (k_of (array_read shape held away)) (sets_read shape held away)

-- Which records are needed then, with no uploads.
abbrev pub needed_read : Shape → Contents → List ℕ → List Placed
needed_read shape held away = needed_of (k_of (array_read shape held away)) [] (sets_read shape held away)

-- the records at their places, with their payloads
abbrev pub placed_in : Shape → Contents → List ℕ → List ValidRecord → List Placed
placed_in shape held away records = map (placed_with (payload_held (k_of (array_read shape held away)) held)) records
