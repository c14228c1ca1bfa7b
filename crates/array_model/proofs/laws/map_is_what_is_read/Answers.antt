use Rattle.array_model.proofs.MapLaws.{map_has_what_is_read, same_values_same_map}
use Rattle.array_model.proofs.laws.map_is_what_is_read.Goals as goal

pub returns-clause-each : goal.returns-clause-each
returns-clause-each c = map_has_what_is_read

pub returns-clause-same : goal.returns-clause-same
returns-clause-same c = same_values_same_map
