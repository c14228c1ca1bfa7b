use Rattle.set_writer.proofs.OpeningImages.{opening_leaves_first}
use Rattle.set_writer.proofs.images.opening_leaves_the_first.Goals as goal

pub returns : goal.returns
returns g c = λ old new set' cuts t t' held view is left. opening_leaves_first set' cuts t t' held (g.B.Bay.state old) (g.B.Bay.state new) is view left
