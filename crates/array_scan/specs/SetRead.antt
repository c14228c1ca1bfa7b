-- A set as its carriers have it.
use Rattle.std.specs.Prelude.{ℕ, ◌+◌, ◌<◌, ◌≤◌, Bool, List, [], ◌∷◌, map}
use Rattle.std.specs.List.{AllByRecursion}
use Rattle.zone_bay.specs.Contents.{Shape, Contents}
use Rattle.marker_format.specs.declared.label.Label.{Label}
use Rattle.marker_format.specs.declared.marker.Marker.{Marker}
use Rattle.marker_format.specs.Marker.{IsMarker}
use Rattle.marker_format.specs.Zone.{Array, Placed, placed_from}
use Rattle.array_model.specs.Drives.{Place}
use Rattle.array_model.specs.Reading as model
use Rattle.array_scan.specs.declared.set_read.ZonePlace.{ZonePlace}
use Rattle.array_scan.specs.declared.set_read.Carrier.{Carrier}
use Rattle.array_scan.specs.declared.set_read.RecordAt.{RecordAt}
use Rattle.array_scan.specs.declared.set_read.SetRead.{SetRead}

-- the array that a label names
abbrev pub array_by : Label → Array
array_by l = record { geometry = l.geometry; id = l.array }

abbrev pub place_of : ZonePlace → Place
place_of p = record { device = p.device; zone = p.zone }

abbrev pub carrier_of : Carrier → model.Carrier
carrier_of c = record { index = c.index; place = place_of c.place }

abbrev pub placed_of : RecordAt → Placed
placed_of r = record { marker = r.marker; block = r.block }

-- the bay has the zone
pub record IsPlaceIn (shape : Shape) (place : ZonePlace) : Type 0 where
  pub device : place.device < shape.devices
  pub zone : place.zone < shape.zones

abbrev pub IsCarrierIn : Shape → Carrier → Type 0
IsCarrierIn shape c = IsPlaceIn shape c.place

-- the indexes of carriers rise, from this one on and below the second
abbrev pub RiseBelow : ℕ → ℕ → List Carrier → Type 0
RiseBelow low high [] = Unit {0}
RiseBelow low high (c ∷ carriers) = (low ≤ c.index) × (c.index < high) × RiseBelow (c.index + 1) high carriers

abbrev pub markers_of : List RecordAt → List Marker
markers_of records = map (λ r. r.marker) records

-- each marker is well formed
abbrev pub AreMarkers : List RecordAt → Type 0
AreMarkers records = AllByRecursion (λ r. IsMarker r.marker) records

-- the bay has the zones of the carriers, whose indexes rise and are below this number
pub record FitsBay (shape : Shape) (indexes : ℕ) (s : SetRead) : Type 0 where
  pub within : AllByRecursion (IsCarrierIn shape) s.carriers.items
  pub rising : RiseBelow 0 indexes s.carriers.items

-- the carriers of a set, the records on which they agree with their blocks, and whether each carrier has a whole foot
pub record Seen : Type 0 where
  pub id : ℕ
  pub carriers : List model.Carrier
  pub placed : List Placed
  pub closed : Bool

abbrev pub seen_of : SetRead → Seen
seen_of s = record { id = s.id; carriers = map carrier_of s.carriers.items; placed = map placed_of s.records.items; closed = s.closed }

-- What is seen of a set at these places.
abbrev pub seen_at : Array → Contents → List Place → ℕ → Seen
seen_at array held places id =
    let carriers = model.carriers_of array held places id in
    record { id = id; carriers = carriers; placed = placed_from 0 (model.agreed array held carriers); closed = model.are_closed array held carriers }
