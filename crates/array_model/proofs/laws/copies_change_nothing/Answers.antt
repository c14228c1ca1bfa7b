use Rattle.array_model.proofs.CopiedSet.{copies_make_nothing_needed, copied_set_has_copies}
use Rattle.array_model.proofs.Copies.{copies_change_nothing}
use Rattle.array_model.proofs.laws.copies_change_nothing.Goals as goal

pub returns-clause-map : goal.returns-clause-map
returns-clause-map c = copies_change_nothing

pub returns-clause-need : goal.returns-clause-need
returns-clause-need c = copies_make_nothing_needed

pub returns-clause-higher : goal.returns-clause-higher
returns-clause-higher c = copied_set_has_copies
