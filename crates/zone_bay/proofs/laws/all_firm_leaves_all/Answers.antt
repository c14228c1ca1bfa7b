use Rattle.zone_bay.proofs.Images.{all_firm_leaves_all, held_is_left}
use Rattle.zone_bay.proofs.laws.all_firm_leaves_all.Goals as goal

pub returns-clause-all : goal.returns-clause-all
returns-clause-all c = all_firm_leaves_all

pub returns-clause-held : goal.returns-clause-held
returns-clause-held c = held_is_left
