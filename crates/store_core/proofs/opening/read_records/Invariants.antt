use Rattle.std.proofs.Common.{◌≡◌, ◌++◌, List, IfSome}
use Rattle.marker_format.specs.declared.marker.Marker.{Marker}
use Rattle.marker_format.specs.Zone.{whole_records}
use Rattle.zone_parse.specs.ZoneReader.{Reads, CanRead, records_left, bytes_left}
use Rattle.store_core.specs.DeviceCalls.{ReadsAny}
use Rattle.store_core.specs.ZoneRecords.{HasRead}
use Rattle.store_core.specs.Opening.{array_by}
use Rattle.store_core.proofs.SetRecords.{AreOpen}
use Rattle.store_core.proofs.opening.read_records.Given as goal

-- some of the zone's records were read, and the reader has the others
abbrev pub invariant-loop-records : goal.invariant-loop-records
invariant-loop-records g l = record {
  reads : ReadsAny ⊥ (g.B.Bay.state l.fn.bay) (g.B.Bay.state l.bay);
  zone : Reads l.reader 0 2 l.written (array_by l.label);
  can : CanRead l.reader (g.B.Bay.state l.bay);
  blocks : l.records.blocks ≡ l.label.geometry.blocks;
  shard : l.records.shard ≡ l.label.geometry.shard;
  some : (ms : List Marker) × HasRead l.records ms × AreOpen ms × IfSome (g.B.Bay.state l.fn.bay).contents (λ held. whole_records (array_by l.label) (held 0 2) ≡ ms ++ records_left l.reader (held 0 2));
}

abbrev pub decreases-loop-records : goal.decreases-loop-records
decreases-loop-records g l = bytes_left l.reader
