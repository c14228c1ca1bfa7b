use Rattle.set_writer.proofs.StandCalls.{ending_is_left, next_stands_or_not, ended_is_left, next_is_left}
use Rattle.set_writer.proofs.StandNext.{lost_before_next, closed_before_next}
use Rattle.set_writer.proofs.stands.next_sets_are_left.Goals as goal

pub returns-clause-old : goal.returns-clause-old
returns-clause-old g c = λ old new. ending_is_left (g.B.Bay.state old) (g.B.Bay.state new)

pub returns-clause-next : goal.returns-clause-next
returns-clause-next g c = λ old new. next_stands_or_not (g.B.Bay.state old) (g.B.Bay.state new)

pub returns-clause-lost : goal.returns-clause-lost
returns-clause-lost g c = λ old new. lost_before_next (g.B.Bay.state old) (g.B.Bay.state new)

pub returns-clause-before : goal.returns-clause-before
returns-clause-before g c = λ old new. closed_before_next (g.B.Bay.state old) (g.B.Bay.state new)

pub returns-clause-closed : goal.returns-clause-closed
returns-clause-closed g c = λ old new. ended_is_left (g.B.Bay.state old) (g.B.Bay.state new)

pub returns-clause-opened : goal.returns-clause-opened
returns-clause-opened g c = λ old new. next_is_left (g.B.Bay.state old) (g.B.Bay.state new)
