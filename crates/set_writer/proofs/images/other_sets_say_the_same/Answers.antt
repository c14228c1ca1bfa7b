use Rattle.set_writer.proofs.OtherSets.{others_say}
use Rattle.set_writer.proofs.images.other_sets_say_the_same.Goals as goal

pub returns : goal.returns
returns c = others_say
