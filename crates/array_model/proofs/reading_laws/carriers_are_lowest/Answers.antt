use Rattle.array_model.proofs.Lowest.{carrier_is_lowest}
use Rattle.array_model.proofs.reading_laws.carriers_are_lowest.Goals as goal

pub returns : goal.returns
returns c = carrier_is_lowest
