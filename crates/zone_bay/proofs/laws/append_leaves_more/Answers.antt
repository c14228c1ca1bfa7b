use Rattle.zone_bay.proofs.Images.{append_leaves_old, append_leaves_part, append_leaves_any_part, part_leaves_less}
use Rattle.zone_bay.proofs.laws.append_leaves_more.Goals as goal

pub returns-clause-old : goal.returns-clause-old
returns-clause-old c = append_leaves_old

pub returns-clause-part : goal.returns-clause-part
returns-clause-part c = append_leaves_part

pub returns-clause-any : goal.returns-clause-any
returns-clause-any c = append_leaves_any_part

pub returns-clause-less : goal.returns-clause-less
returns-clause-less c = part_leaves_less
