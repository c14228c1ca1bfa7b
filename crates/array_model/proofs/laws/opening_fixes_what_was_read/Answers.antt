use Rattle.array_model.proofs.Opening.{opening_changes_nothing, opening_fixes_what_was_read}
use Rattle.array_model.proofs.laws.opening_fixes_what_was_read.Goals as goal

pub returns-clause-opened : goal.returns-clause-opened
returns-clause-opened c = opening_changes_nothing

pub returns-clause-fixed : goal.returns-clause-fixed
returns-clause-fixed c = opening_fixes_what_was_read
