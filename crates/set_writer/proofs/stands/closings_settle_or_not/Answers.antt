use Rattle.set_writer.proofs.StandCalls.{closing_is_left, closed_is_left}
use Rattle.set_writer.proofs.stands.closings_settle_or_not.Goals as goal

pub returns-clause-crash : goal.returns-clause-crash
returns-clause-crash g c = λ old new. closing_is_left (g.B.Bay.state old) (g.B.Bay.state new)

pub returns-clause-behind : goal.returns-clause-behind
returns-clause-behind g c = λ old new. closed_is_left (g.B.Bay.state old) (g.B.Bay.state new)
