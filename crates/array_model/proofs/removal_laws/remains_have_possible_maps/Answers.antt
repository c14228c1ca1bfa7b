use Rattle.array_model.proofs.Remains.{remains_have_possible_maps, remains_add_no_maps}
use Rattle.array_model.proofs.removal_laws.remains_have_possible_maps.Goals as goal

pub returns-clause-read : goal.returns-clause-read
returns-clause-read c = remains_have_possible_maps

pub returns-clause-maps : goal.returns-clause-maps
returns-clause-maps c = remains_add_no_maps
