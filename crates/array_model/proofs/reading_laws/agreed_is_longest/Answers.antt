use Rattle.array_model.proofs.Agreed.{agreed_is_held, agreed_is_longest}
use Rattle.array_model.proofs.reading_laws.agreed_is_longest.Goals as goal

pub returns-clause-held : goal.returns-clause-held
returns-clause-held c = agreed_is_held

pub returns-clause-longest : goal.returns-clause-longest
returns-clause-longest c = agreed_is_longest
