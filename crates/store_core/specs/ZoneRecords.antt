-- What was read of a zone's records.
use Rattle.std.specs.Prelude.{◌≡◌, ◌+◌, ◌≤◌, List, length}
use Rattle.std.specs.List.{list_any}
use Rattle.marker_format.specs.declared.kind.Kind.TheVariants.{Ready}
use Rattle.marker_format.specs.declared.marker.Marker.{Marker}
use Rattle.marker_format.specs.Zone.{blocks_of, has_kind, end_from}
use Rattle.store_core.specs.declared.zone_records.ZoneRecords.{ZoneRecords}
use Rattle.store_core.specs.OpenZone.{IsOpenRecord}
use Rattle.store_core.specs.Said.{HasSaid}
use Rattle.store_core.specs.Zone.{set_of, index_of, next_stamp}

-- these are the records that were read
pub record HasRead (r : ZoneRecords) (ms : List Marker) : Type 0 where
  pub set : r.zone.set ≡ set_of ms
  pub index : r.zone.index ≡ index_of ms
  pub blocks : r.zone.blocks ≡ end_from 0 ms
  pub records : r.zone.records ≡ length ms
  pub stamp : r.next_stamp ≡ next_stamp ms
  pub ready : r.is_ready ≡ list_any (has_kind Ready) ms
  pub said : HasSaid r.said ms

-- the record is such a one, and the zone's blocks are enough for it
pub record CanBeAdded (r : ZoneRecords) (m : Marker) : Type 0 where
  pub fitting : IsOpenRecord r.shard m
  pub room : r.zone.blocks + blocks_of m ≤ r.blocks
