use Rattle.label_reader.proofs.LabelBlock.{label_in-exact}
use Rattle.label_reader.proofs.bay_label.label_in.Goals as goal

pub returns-clause-label : goal.returns-clause-label
returns-clause-label c = label_in-exact c.args.block.now c.read_label_block.result c.fits-block c.told-block c.read_label_block.ensures.found c.read_label_block.ensures.none
