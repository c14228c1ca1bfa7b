use Rattle.set_writer.proofs.KeptOthers.{flush_shows_others, append_shows_others, opening_shows_others, closing_shows_others, next_shows_others}
use Rattle.set_writer.proofs.kept.other_sets_are_shown.Goals as goal

pub returns-clause-flush : goal.returns-clause-flush
returns-clause-flush g c = λ old new w es t t' held view. flush_shows_others w es t t' held (g.B.Bay.state old) (g.B.Bay.state new) view

pub returns-clause-append : goal.returns-clause-append
returns-clause-append g c = λ old new w es m body t t' held view. append_shows_others w es m body t t' held (g.B.Bay.state old) (g.B.Bay.state new) view

pub returns-clause-opening : goal.returns-clause-opening
returns-clause-opening g c = λ old new set' cuts t t' held view. opening_shows_others set' cuts t t' held (g.B.Bay.state old) (g.B.Bay.state new) view

pub returns-clause-closing : goal.returns-clause-closing
returns-clause-closing g c = λ old new w es t t' held view. closing_shows_others w es t t' held (g.B.Bay.state old) (g.B.Bay.state new) view

pub returns-clause-next : goal.returns-clause-next
returns-clause-next g c = λ old new set' least w w' es t t' held view is left. next_shows_others set' least w w' es t t' held (g.B.Bay.state old) (g.B.Bay.state new) view is left
