use Rattle.array_model.proofs.Possible.{read_is_possible, nothing_new_is_possible, nothing_new_is_needed, copies_stay}
use Rattle.array_model.proofs.removal_laws.nothing_new_is_possible.Goals as goal

pub returns-clause-read : goal.returns-clause-read
returns-clause-read c = read_is_possible

pub returns-clause-maps : goal.returns-clause-maps
returns-clause-maps c = nothing_new_is_possible

pub returns-clause-needed : goal.returns-clause-needed
returns-clause-needed c = nothing_new_is_needed

pub returns-clause-copies : goal.returns-clause-copies
returns-clause-copies c = copies_stay
