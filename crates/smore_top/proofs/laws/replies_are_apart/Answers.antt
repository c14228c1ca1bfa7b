use Rattle.smore_top.proofs.ReplyLaws.{replies_are_apart}
use Rattle.smore_top.proofs.laws.replies_are_apart.Goals as goal

pub returns : goal.returns
returns c = replies_are_apart
