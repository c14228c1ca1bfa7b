use Rattle.set_writer.proofs.StandCalls.{append_is_left, flush_is_left, flushed_is_left}
use Rattle.set_writer.proofs.stands.written_sets_are_left.Goals as goal

pub returns-clause-append : goal.returns-clause-append
returns-clause-append g c = λ old new. append_is_left (g.B.Bay.state old) (g.B.Bay.state new)

pub returns-clause-flush : goal.returns-clause-flush
returns-clause-flush g c = λ old new. flush_is_left (g.B.Bay.state old) (g.B.Bay.state new)

pub returns-clause-behind : goal.returns-clause-behind
returns-clause-behind g c = λ old new. flushed_is_left (g.B.Bay.state old) (g.B.Bay.state new)
