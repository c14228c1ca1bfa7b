use Rattle.array_scan.specs.SetRead.{array_by, place_of}
use Rattle.zone_parse.specs.ZoneReader.{bytes_left}
use Rattle.array_scan.proofs.Zones.{Walked}
use Rattle.array_scan.proofs.zone.read_zone.Given as goal

abbrev pub invariant-loop-records : goal.invariant-loop-records
invariant-loop-records g l = Walked (array_by l.label) (place_of l.fn.place) (g.B.Bay.state l.fn.bay) (g.B.Bay.state l.bay) l.reader l.records.items l.block

abbrev pub decreases-loop-records : goal.decreases-loop-records
decreases-loop-records g l = bytes_left l.reader
