use Rattle.set_writer.proofs.StandSets.{few_do_not_stand, set_is_left, open_is_left, whole_is_left, whole_members_are_left, firm_ready_stands, firm_opening_stands}
use Rattle.set_writer.proofs.stands.sets_are_left.Goals as goal

pub returns-clause-few : goal.returns-clause-few
returns-clause-few c = few_do_not_stand

pub returns-clause-set : goal.returns-clause-set
returns-clause-set c = set_is_left

pub returns-clause-open : goal.returns-clause-open
returns-clause-open c = open_is_left

pub returns-clause-whole : goal.returns-clause-whole
returns-clause-whole c = whole_is_left

pub returns-clause-members : goal.returns-clause-members
returns-clause-members c = whole_members_are_left

pub returns-clause-ready : goal.returns-clause-ready
returns-clause-ready c = firm_ready_stands

pub returns-clause-opening : goal.returns-clause-opening
returns-clause-opening c = firm_opening_stands
