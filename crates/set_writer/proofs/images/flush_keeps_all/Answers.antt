use Rattle.set_writer.proofs.WriterImages.{flush_leaves_first, flush_keeps_all}
use Rattle.set_writer.proofs.images.flush_keeps_all.Goals as goal

pub returns-clause-first : goal.returns-clause-first
returns-clause-first g c = λ old new w es t t' held view. flush_leaves_first w es t t' held (g.B.Bay.state old) (g.B.Bay.state new) view

pub returns-clause-behind : goal.returns-clause-behind
returns-clause-behind g c = λ old new w es t t' held view. flush_keeps_all w es t t' held (g.B.Bay.state old) (g.B.Bay.state new) view
