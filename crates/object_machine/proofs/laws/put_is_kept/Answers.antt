use Rattle.object_machine.proofs.StateLaws.{put_is_kept, put_keeps_others}
use Rattle.object_machine.proofs.laws.put_is_kept.Goals as goal

pub returns-clause-kept : goal.returns-clause-kept
returns-clause-kept c = put_is_kept

pub returns-clause-others : goal.returns-clause-others
returns-clause-others c = put_keeps_others
