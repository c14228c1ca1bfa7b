use Rattle.set_writer.proofs.KeptRest.{flush_keeps_rest, append_keeps_rest, opening_keeps_rest, closing_keeps_rest, next_keeps_rest}
use Rattle.set_writer.proofs.kept.other_zones_are_kept.Goals as goal

pub returns-clause-flush : goal.returns-clause-flush
returns-clause-flush g c = λ old new w es t t' held. flush_keeps_rest w es t t' held (g.B.Bay.state old) (g.B.Bay.state new)

pub returns-clause-append : goal.returns-clause-append
returns-clause-append g c = λ old new w es m body t t' held. append_keeps_rest w es m body t t' held (g.B.Bay.state old) (g.B.Bay.state new)

pub returns-clause-opening : goal.returns-clause-opening
returns-clause-opening g c = λ old new set' cuts t t' held. opening_keeps_rest set' cuts t t' held (g.B.Bay.state old) (g.B.Bay.state new)

pub returns-clause-closing : goal.returns-clause-closing
returns-clause-closing g c = λ old new w es t t' held. closing_keeps_rest w es t t' held (g.B.Bay.state old) (g.B.Bay.state new)

pub returns-clause-next : goal.returns-clause-next
returns-clause-next g c = λ old new set' least w w' es t t' held is. next_keeps_rest set' least w w' es t t' held (g.B.Bay.state old) (g.B.Bay.state new) is
