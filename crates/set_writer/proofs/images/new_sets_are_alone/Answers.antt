use Rattle.set_writer.proofs.NewSets.{nothing_is_new, new_by_zone, new_is_alone, alone_by_zone}
use Rattle.set_writer.proofs.images.new_sets_are_alone.Goals as goal

pub returns-clause-new : goal.returns-clause-new
returns-clause-new c = nothing_is_new

pub returns-clause-zone : goal.returns-clause-zone
returns-clause-zone c = new_by_zone

pub returns-clause-alone : goal.returns-clause-alone
returns-clause-alone c = new_is_alone

pub returns-clause-members : goal.returns-clause-members
returns-clause-members c = alone_by_zone
