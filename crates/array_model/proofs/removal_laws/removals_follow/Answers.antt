use Rattle.array_model.proofs.Possible.{left_map_was_possible}
use Rattle.array_model.proofs.Remains.{image_remains, removal_leaves_remains, remains_follow}
use Rattle.array_model.proofs.removal_laws.removals_follow.Goals as goal

pub returns-clause-none : goal.returns-clause-none
returns-clause-none c = image_remains

pub returns-clause-one : goal.returns-clause-one
returns-clause-one c = removal_leaves_remains

pub returns-clause-more : goal.returns-clause-more
returns-clause-more c = remains_follow

pub returns-clause-map : goal.returns-clause-map
returns-clause-map c = left_map_was_possible
