use Rattle.array_model.proofs.OneMap.{one_possible_map}
use Rattle.array_model.proofs.removal_laws.one_possible_map.Goals as goal

pub returns : goal.returns
returns c = one_possible_map
