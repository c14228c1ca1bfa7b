use Rattle.object_machine.proofs.StateLaws.{deleted_is_gone, delete_keeps_others}
use Rattle.object_machine.proofs.laws.delete_takes_out.Goals as goal

pub returns-clause-gone : goal.returns-clause-gone
returns-clause-gone c = deleted_is_gone

pub returns-clause-others : goal.returns-clause-others
returns-clause-others c = delete_keeps_others
