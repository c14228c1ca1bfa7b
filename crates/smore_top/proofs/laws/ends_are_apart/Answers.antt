use Rattle.smore_top.proofs.EndLaws.{end_of-status_of}
use Rattle.smore_top.proofs.laws.ends_are_apart.Goals as goal

pub returns : goal.returns
returns c = end_of-status_of
