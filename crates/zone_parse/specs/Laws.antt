-- What follows for a whole walk over a zone.
use Rattle.std.specs.Prelude.{◌≡◌, ℕ, List, [], ◌∷◌, Some, None}
use Rattle.marker_format.specs.declared.marker.Marker.{Marker}
use Rattle.zone_parse.specs.declared.zone_reader.ZoneReader.{ZoneReader}
use Rattle.zone_parse.specs.ZoneReader.{records_left, foot_left, Gives}

-- The reader gave these records one after another, and then said that there is no other.
abbrev pub GivesAll : ZoneReader → List Marker → ZoneReader → List ℕ → Type 0
GivesAll old [] new bytes = Gives old new None bytes
GivesAll old (m ∷ ms) new bytes = (mid : ZoneReader) × Gives old mid (Some m) bytes × GivesAll mid ms new bytes

-- They are the records that it had still to give, in order and no others, and the foot that it tells is theirs.
abbrev pub WalksGiveAll : Type 0
WalksGiveAll = (old new : ZoneReader) (ms : List Marker) (bytes : List ℕ) → GivesAll old ms new bytes → (ms ≡ records_left old bytes) × (foot_left new bytes ≡ foot_left old bytes)
