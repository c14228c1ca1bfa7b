use Rattle.zone_bay.proofs.Images.{more_leaves_more, less_firm_leaves_more, still_firm_leaves_same}
use Rattle.zone_bay.proofs.laws.more_leaves_more.Goals as goal

pub returns-clause-held : goal.returns-clause-held
returns-clause-held c = more_leaves_more

pub returns-clause-firm : goal.returns-clause-firm
returns-clause-firm c = less_firm_leaves_more

pub returns-clause-still : goal.returns-clause-still
returns-clause-still c = still_firm_leaves_same
