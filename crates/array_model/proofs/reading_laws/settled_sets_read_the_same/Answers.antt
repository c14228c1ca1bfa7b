use Rattle.array_model.proofs.SettledRecords.{kept_is_read_from_some, closed_is_read_from_some}
use Rattle.array_model.proofs.reading_laws.settled_sets_read_the_same.Goals as goal

pub returns-clause-kept : goal.returns-clause-kept
returns-clause-kept c = kept_is_read_from_some

pub returns-clause-closed : goal.returns-clause-closed
returns-clause-closed c = closed_is_read_from_some
