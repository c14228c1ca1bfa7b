use Rattle.set_writer.proofs.WriterImages.{append_leaves_first}
use Rattle.set_writer.proofs.images.append_leaves_the_first.Goals as goal

pub returns : goal.returns
returns g c = λ old new w es m body t t' held view appends left. append_leaves_first w es m body t t' held (g.B.Bay.state old) (g.B.Bay.state new) appends view left
