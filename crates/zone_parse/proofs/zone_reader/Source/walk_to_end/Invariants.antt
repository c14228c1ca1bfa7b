use Rattle.std.proofs.Common.{◌*◌, ◌-◌}
use Rattle.zone_parse.proofs.Reading.{Walked}
use Rattle.zone_parse.proofs.zone_reader.Source.walk_to_end.Given as goal

abbrev pub invariant-loop-block : goal.invariant-loop-block
invariant-loop-block g l = Walked l.self (g.B.Bay.state l.fn.bay) (g.B.Bay.state l.bay) l.fn.from l.walk l.records

abbrev pub decreases-loop-block : goal.decreases-loop-block
decreases-loop-block g l = l.self.written - 512 * l.walk.block
