use Rattle.smore_top.proofs.Reopening.{kept_reopen}
use Rattle.smore_top.proofs.laws.kept_arrays_reopen.Goals as goal

pub returns : goal.returns
returns g c = kept_reopen g.B.Bay
