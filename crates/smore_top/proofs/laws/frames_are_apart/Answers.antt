use Rattle.smore_top.proofs.FrameLaws.{frames_are_apart}
use Rattle.smore_top.proofs.laws.frames_are_apart.Goals as goal

pub returns : goal.returns
returns c = frames_are_apart
