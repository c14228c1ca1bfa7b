use Rattle.zone_bay.proofs.Images.{missing_leaves_image, missing_each_leave_image, missing_one_by_one, missing_hold_nothing, others_keep_theirs}
use Rattle.zone_bay.proofs.laws.missing_devices.Goals as goal

pub returns-clause-image : goal.returns-clause-image
returns-clause-image c = missing_leaves_image

pub returns-clause-images : goal.returns-clause-images
returns-clause-images c = missing_each_leave_image

pub returns-clause-each : goal.returns-clause-each
returns-clause-each c = missing_one_by_one

pub returns-clause-gone : goal.returns-clause-gone
returns-clause-gone c = missing_hold_nothing

pub returns-clause-kept : goal.returns-clause-kept
returns-clause-kept c = others_keep_theirs
