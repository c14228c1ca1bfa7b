use Rattle.smore_top.proofs.Reopening.{images_reopen}
use Rattle.smore_top.proofs.laws.images_reopen.Goals as goal

pub returns : goal.returns
returns g c = images_reopen g.B.Bay
