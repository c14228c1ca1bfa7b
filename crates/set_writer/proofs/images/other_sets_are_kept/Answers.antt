use Rattle.set_writer.proofs.KeptSets.{flush_keeps_sets, append_keeps_sets, opening_keeps_sets, closing_keeps_sets, crash_keeps_alone}
use Rattle.set_writer.proofs.NextKeptSets.{next_keeps_sets, next_keeps_old}
use Rattle.set_writer.proofs.images.other_sets_are_kept.Goals as goal

pub returns-clause-flush : goal.returns-clause-flush
returns-clause-flush g c = λ old new w es t t' held drives. flush_keeps_sets w es t t' held (g.B.Bay.state old) (g.B.Bay.state new) drives

pub returns-clause-append : goal.returns-clause-append
returns-clause-append g c = λ old new w es m body t t' held at drives. append_keeps_sets w es m body t t' held at (g.B.Bay.state old) (g.B.Bay.state new) drives

pub returns-clause-opening : goal.returns-clause-opening
returns-clause-opening g c = λ old new set' cuts t t' held at drives. opening_keeps_sets set' cuts t t' held at (g.B.Bay.state old) (g.B.Bay.state new) drives

pub returns-clause-closing : goal.returns-clause-closing
returns-clause-closing g c = λ old new w es t t' held at drives. closing_keeps_sets w es t t' held at (g.B.Bay.state old) (g.B.Bay.state new) drives

pub returns-clause-next : goal.returns-clause-next
returns-clause-next g c = λ old new set' least w w' es t t' held at drives is told live alone new_set. next_keeps_sets set' least w w' es t t' held at (g.B.Bay.state old) (g.B.Bay.state new) drives is told live alone new_set

pub returns-clause-before : goal.returns-clause-before
returns-clause-before g c = λ old new set' least w w' es t t' held at drives is told live. next_keeps_old set' least w w' es t t' held at (g.B.Bay.state old) (g.B.Bay.state new) drives is told live

pub returns-clause-crash : goal.returns-clause-crash
returns-clause-crash g c = crash_keeps_alone
