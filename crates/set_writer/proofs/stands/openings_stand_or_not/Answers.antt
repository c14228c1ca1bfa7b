use Rattle.set_writer.proofs.StandOpenings.{opening_stands_or_not, opened_is_left}
use Rattle.set_writer.proofs.stands.openings_stand_or_not.Goals as goal

pub returns-clause-crash : goal.returns-clause-crash
returns-clause-crash g c = λ old new set' cuts t t' held view is left. opening_stands_or_not set' cuts t t' held (g.B.Bay.state old) (g.B.Bay.state new) view is left

pub returns-clause-behind : goal.returns-clause-behind
returns-clause-behind g c = λ old new set' cuts t t' held at view is told left. opened_is_left set' cuts t t' held (g.B.Bay.state old) (g.B.Bay.state new) view is at told left
