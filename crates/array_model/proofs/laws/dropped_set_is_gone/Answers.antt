use Rattle.array_model.proofs.DroppedSet.{dropped_set_is_gone, dropped_set_is_empty, dropped_set_may_go}
use Rattle.array_model.proofs.laws.dropped_set_is_gone.Goals as goal

pub returns-clause-cut : goal.returns-clause-cut
returns-clause-cut c = dropped_set_is_gone

pub returns-clause-gone : goal.returns-clause-gone
returns-clause-gone c = dropped_set_may_go

pub returns-clause-empty : goal.returns-clause-empty
returns-clause-empty c = dropped_set_is_empty
