-- The whole heads of zones, and the carriers that they make.
use Rattle.std.specs.Prelude.{ℕ, ◌-◌, Bool, ◌&&◌, ◌==◌, List, [], ◌∷◌, map, Option, Some, None, option_map}
use Rattle.std.specs.List.{find, filter_map, range_with_len}
use Rattle.zone_bay.specs.Contents.{Shape, Contents}
use Rattle.marker_format.specs.declared.marker.Marker.{Marker}
use Rattle.marker_format.specs.Zone.{Array}
use Rattle.array_model.specs.Drives.{Place, head_at}
use Rattle.array_model.specs.Reading as model
use Rattle.array_scan.specs.declared.heads.HeadAt.{HeadAt}
use Rattle.array_scan.specs.declared.set_read.ZonePlace.{ZonePlace}
use Rattle.array_scan.specs.SetRead.{place_of, IsPlaceIn}

abbrev pub head_seen : Place → Option Marker → Option HeadAt
head_seen place None = None
head_seen place (Some m) = Some (record { place = record { device = place.device; zone = place.zone }; set = m.set; index = m.index })

-- it stands in a zone of the bay
abbrev pub IsHeadIn : Shape → HeadAt → Type 0
IsHeadIn shape head = IsPlaceIn shape head.place

-- the whole heads at these places
abbrev pub heads_at : Array → Contents → List Place → List HeadAt
heads_at array held places = filter_map (λ place. head_seen place (head_at array held place)) places

-- the set zones of a drive
abbrev pub places_of : Shape → ℕ → List Place
places_of shape device = map (λ zone. record { device = device; zone = zone }) (range_with_len 2 (shape.zones - 2))

-- the numbers of the sets of heads, which rise
abbrev pub ids_of : List HeadAt → List ℕ
ids_of [] = []
ids_of (head ∷ heads) = model.with_id head.set (ids_of heads)

abbrev pub is_head_of : ℕ → ℕ → HeadAt → Bool
is_head_of set index head = (head.set == set) && (head.index == index)

-- the place of the first head of the set and the index
abbrev pub place_found : List HeadAt → ℕ → ℕ → Option ZonePlace
place_found heads set index = option_map (λ head. head.place) (find (is_head_of set index) heads)

-- the carriers of a set with so many indexes
abbrev pub carriers_in : List HeadAt → ℕ → ℕ → List model.Carrier
carriers_in heads set indexes = filter_map (λ index. model.carries index (option_map place_of (place_found heads set index))) (range_with_len 0 indexes)
