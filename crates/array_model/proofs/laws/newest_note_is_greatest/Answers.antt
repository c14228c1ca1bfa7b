use Rattle.array_model.proofs.Records.{newest_is_greatest, no_newest_no_note}
use Rattle.array_model.proofs.laws.newest_note_is_greatest.Goals as goal

pub returns-clause-note : goal.returns-clause-note
returns-clause-note c = newest_is_greatest

pub returns-clause-none : goal.returns-clause-none
returns-clause-none c = no_newest_no_note
