use Rattle.array_model.proofs.Cleaning.{victim_is_least, no_victim_none_worth, half_cleaned_goes_first}
use Rattle.array_model.proofs.need_laws.victims_are_least.Goals as goal

pub returns-clause-least : goal.returns-clause-least
returns-clause-least c = victim_is_least

pub returns-clause-none : goal.returns-clause-none
returns-clause-none c = no_victim_none_worth

pub returns-clause-half : goal.returns-clause-half
returns-clause-half c = half_cleaned_goes_first
