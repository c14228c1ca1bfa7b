use Rattle.set_reader.proofs.RoundLaws.{Rounds}
use Rattle.set_reader.specs.Calls.{live_count}
use Rattle.set_reader.proofs.lengths.read_lengths.Given as goal

abbrev pub invariant-loop-lengths : goal.invariant-loop-lengths
invariant-loop-lengths g l = Rounds 1 l.fn.table l.table (g.B.Bay.state l.fn.bay) (g.B.Bay.state l.bay)

abbrev pub decreases-loop-lengths : goal.decreases-loop-lengths
decreases-loop-lengths g l = live_count l.table
