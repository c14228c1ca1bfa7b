use Rattle.array_model.proofs.UnneededSets.{unneeded_sets_may_go, losses_follow, first_need_is_enough}
use Rattle.array_model.proofs.laws.unneeded_sets_may_go.Goals as goal

pub returns-clause-once : goal.returns-clause-once
returns-clause-once c = unneeded_sets_may_go

pub returns-clause-follow : goal.returns-clause-follow
returns-clause-follow c = losses_follow

pub returns-clause-first : goal.returns-clause-first
returns-clause-first c = first_need_is_enough
