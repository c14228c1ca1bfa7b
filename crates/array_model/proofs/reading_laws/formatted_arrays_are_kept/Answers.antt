use Rattle.array_model.proofs.Formatted.{formatted_is_present, formatted_is_kept, formatted_is_empty}
use Rattle.array_model.proofs.reading_laws.formatted_arrays_are_kept.Goals as goal

pub returns-clause-present : goal.returns-clause-present
returns-clause-present c = formatted_is_present

pub returns-clause-kept : goal.returns-clause-kept
returns-clause-kept c = formatted_is_kept

pub returns-clause-empty : goal.returns-clause-empty
returns-clause-empty c = formatted_is_empty
