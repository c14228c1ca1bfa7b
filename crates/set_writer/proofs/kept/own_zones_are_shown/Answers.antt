use Rattle.set_writer.proofs.KeptShown.{flush_shows, append_shows, opening_shows, closing_shows, next_shows}
use Rattle.set_writer.proofs.kept.own_zones_are_shown.Goals as goal

pub returns-clause-flush : goal.returns-clause-flush
returns-clause-flush g c = λ old new w es t t' held view. flush_shows w es t t' held (g.B.Bay.state old) (g.B.Bay.state new) view

pub returns-clause-append : goal.returns-clause-append
returns-clause-append g c = λ old new w es m body t t' held view. append_shows w es m body t t' held (g.B.Bay.state old) (g.B.Bay.state new) view

pub returns-clause-opening : goal.returns-clause-opening
returns-clause-opening g c = λ old new set' cuts t t' held view. opening_shows set' cuts t t' held (g.B.Bay.state old) (g.B.Bay.state new) view

pub returns-clause-closing : goal.returns-clause-closing
returns-clause-closing g c = λ old new w es t t' held view. closing_shows w es t t' held (g.B.Bay.state old) (g.B.Bay.state new) view

pub returns-clause-next : goal.returns-clause-next
returns-clause-next g c = λ old new set' least w w' es t t' held view is left. next_shows set' least w w' es t t' held (g.B.Bay.state old) (g.B.Bay.state new) view is left
