use Rattle.array_model.proofs.NeededSets.{few_missing_are_enough}
use Rattle.array_model.proofs.removal_laws.few_missing_are_enough.Goals as goal

pub returns : goal.returns
returns c = few_missing_are_enough
