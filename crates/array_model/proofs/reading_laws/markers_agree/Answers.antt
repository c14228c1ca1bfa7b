use Rattle.array_model.proofs.Alike.{index_is_aside, rebuilt_mark_is_aside, nothing_else_is_aside}
use Rattle.array_model.proofs.reading_laws.markers_agree.Goals as goal

pub returns-clause-index : goal.returns-clause-index
returns-clause-index c = index_is_aside

pub returns-clause-mark : goal.returns-clause-mark
returns-clause-mark c = rebuilt_mark_is_aside

pub returns-clause-nothing_else : goal.returns-clause-nothing_else
returns-clause-nothing_else c = nothing_else_is_aside
