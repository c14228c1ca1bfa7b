use Rattle.sets_bench.specs.Ready.{IsReady}
use Rattle.sets_bench.proofs.parts.append_rounds.Given as goal

abbrev pub invariant-loop-round : goal.invariant-loop-round
invariant-loop-round g l = IsReady l.writer l.table (g.B.Bay.state l.bay)
