use Rattle.set_writer.proofs.StandCalls.{append_is_written, closing_is_written, next_is_written}
use Rattle.set_writer.proofs.stands.sets_are_written.Goals as goal

pub returns-clause-append : goal.returns-clause-append
returns-clause-append g c = λ old new. append_is_written (g.B.Bay.state old) (g.B.Bay.state new)

pub returns-clause-closing : goal.returns-clause-closing
returns-clause-closing g c = λ old new. closing_is_written (g.B.Bay.state old) (g.B.Bay.state new)

pub returns-clause-next : goal.returns-clause-next
returns-clause-next g c = λ old new. next_is_written (g.B.Bay.state old) (g.B.Bay.state new)
