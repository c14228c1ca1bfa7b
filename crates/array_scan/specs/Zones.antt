-- A reader of a zone, as a scan uses it.
use Rattle.std.specs.Prelude.{◌≡◌, ℕ, List, option_map}
use Rattle.zone_bay.specs.Bay.{BayState}
use Rattle.marker_format.specs.Zone.{Array, whole_records, has_foot}
use Rattle.array_model.specs.Drives.{Place}
use Rattle.zone_parse.specs.declared.zone_reader.ZoneReader.{ZoneReader}
use Rattle.zone_parse.specs.ZoneReader.{CanRead, bytes_in, device_of, records_left, foot_left}

-- The reader goes over the zone at this place of the bay.
pub record IsAt (reader : ZoneReader) (bay : BayState) (place : Place) : Type 0 where
  pub can : CanRead reader bay
  pub device : device_of reader ≡ place.device
  pub bytes : bytes_in reader bay ≡ option_map (λ held. held place.device place.zone) bay.contents

-- It has given nothing so far.
pub record IsFresh (array : Array) (reader : ZoneReader) : Type 0 where
  pub records : (bytes : List ℕ) → records_left reader bytes ≡ whole_records array bytes
  pub foot : (bytes : List ℕ) → foot_left reader bytes ≡ has_foot array bytes
