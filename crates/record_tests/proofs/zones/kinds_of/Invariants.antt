use Rattle.zone_parse.specs.ZoneReader.{CanRead}
use Rattle.record_tests.proofs.zones.kinds_of.Given as goal

abbrev pub invariant-loop : goal.invariant-loop
invariant-loop g l = CanRead l.reader (g.B.Bay.state l.bay)
