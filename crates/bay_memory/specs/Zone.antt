-- What a zone tells.
use Rattle.bay_memory.specs.declared.zone.Zone.{Zone}
use Rattle.bay_memory.specs.Past.{Track}

abbrev pub track_of : Zone → Track
track_of zone = record { ever = zone.bytes.items; start = zone.start; firm = zone.firm; past = zone.past.items }
