use Rattle.array_model.proofs.Fallen.{fallen_says_nothing, unready_says_nothing}
use Rattle.array_model.proofs.reading_laws.fallen_sets_say_nothing.Goals as goal

pub returns-clause-fallen : goal.returns-clause-fallen
returns-clause-fallen c = fallen_says_nothing

pub returns-clause-unready : goal.returns-clause-unready
returns-clause-unready c = unready_says_nothing
