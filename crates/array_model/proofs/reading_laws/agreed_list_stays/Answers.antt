use Rattle.array_model.proofs.Agreed.{agreed_grows, agreed_stays}
use Rattle.array_model.proofs.reading_laws.agreed_list_stays.Goals as goal

pub returns-clause-grows : goal.returns-clause-grows
returns-clause-grows c = agreed_grows

pub returns-clause-cut : goal.returns-clause-cut
returns-clause-cut c = agreed_stays
