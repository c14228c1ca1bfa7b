use Rattle.std.proofs.Common.{◌≡◌, ℕ, List, [], ◌∷◌, ap, sym, ◌∙◌}
use Rattle.marker_format.specs.declared.marker.Marker.{Marker}
use Rattle.zone_parse.specs.declared.zone_reader.ZoneReader.{ZoneReader}
use Rattle.zone_parse.specs.Laws.{GivesAll}
use Rattle.zone_parse.specs.ZoneReader.{records_left, foot_left}
use Rattle.zone_parse.proofs.laws.walks_give_all_records.Goals as goal

all_given : (old new : ZoneReader) (ms : List Marker) (bytes : List ℕ) → GivesAll old ms new bytes → (ms ≡ records_left old bytes) × (foot_left new bytes ≡ foot_left old bytes)
all_given old new [] bytes gives = (sym gives.records, gives.foot)
all_given old new (m ∷ ms) bytes gives =
    let more = all_given gives.0 new ms bytes gives.2 in
    (ap (λ (l : List Marker). m ∷ l) more.0 ∙ sym gives.1.records, more.1 ∙ gives.1.foot)

pub returns : goal.returns
returns c = all_given
