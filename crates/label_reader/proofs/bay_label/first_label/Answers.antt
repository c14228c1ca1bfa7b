use Rattle.label_reader.proofs.LabelBlock.{short_told}
use Rattle.label_reader.proofs.bay_label.first_label.Goals as goal

pub returns-in-None-clause-label : goal.returns-in-None-clause-label
returns-in-None-clause-label g c = short_told (g.B.Bay.state c.args.bay.now).contents c.args.device (rw c.in-None.is at c.in_ok-first_block.ensures.block)
