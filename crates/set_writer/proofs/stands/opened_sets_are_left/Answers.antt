use Rattle.set_writer.proofs.StandOpenings.{opening_is_left, firm_opening_is_left}
use Rattle.set_writer.proofs.StandRecords.{opening_is_of_cuts, no_cut_is_its_own}
use Rattle.set_writer.proofs.stands.opened_sets_are_left.Goals as goal

pub returns-clause-cuts : goal.returns-clause-cuts
returns-clause-cuts c = opening_is_of_cuts

pub returns-clause-own : goal.returns-clause-own
returns-clause-own c = no_cut_is_its_own

pub returns-clause-image : goal.returns-clause-image
returns-clause-image c = opening_is_left

pub returns-clause-firm : goal.returns-clause-firm
returns-clause-firm c = firm_opening_is_left
