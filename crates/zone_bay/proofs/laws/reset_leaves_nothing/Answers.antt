use Rattle.zone_bay.proofs.Images.{reset_leaves_nothing, replace_leaves_nothing, still_firm_is_held, still_firm_is_firm}
use Rattle.zone_bay.proofs.laws.reset_leaves_nothing.Goals as goal

pub returns-clause-zone : goal.returns-clause-zone
returns-clause-zone c = reset_leaves_nothing

pub returns-clause-device : goal.returns-clause-device
returns-clause-device c = replace_leaves_nothing

pub returns-clause-held : goal.returns-clause-held
returns-clause-held c = still_firm_is_held

pub returns-clause-firm : goal.returns-clause-firm
returns-clause-firm c = still_firm_is_firm
