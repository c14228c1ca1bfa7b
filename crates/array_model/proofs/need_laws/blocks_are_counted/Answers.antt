use Rattle.array_model.proofs.Cleaning.{blocks_are_those, needed_is_used}
use Rattle.array_model.proofs.need_laws.blocks_are_counted.Goals as goal

pub returns-clause-blocks : goal.returns-clause-blocks
returns-clause-blocks c = blocks_are_those

pub returns-clause-needed : goal.returns-clause-needed
returns-clause-needed c = needed_is_used
