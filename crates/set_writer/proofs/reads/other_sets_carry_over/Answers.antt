use Rattle.set_writer.proofs.CarriedOver.{others_carry_over}
use Rattle.set_writer.proofs.reads.other_sets_carry_over.Goals as goal

pub returns : goal.returns
returns c = others_carry_over
