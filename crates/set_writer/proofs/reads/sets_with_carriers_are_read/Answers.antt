use Rattle.set_writer.proofs.NewSets.{unread_is_new}
use Rattle.set_writer.proofs.ReadLists.{carried_is_read, head_is_read, read_is_carried, new_is_not_read}
use Rattle.set_writer.proofs.reads.sets_with_carriers_are_read.Goals as goal

pub returns-clause-carried : goal.returns-clause-carried
returns-clause-carried c = carried_is_read

pub returns-clause-head : goal.returns-clause-head
returns-clause-head c = head_is_read

pub returns-clause-each : goal.returns-clause-each
returns-clause-each c = read_is_carried

pub returns-clause-new : goal.returns-clause-new
returns-clause-new c = new_is_not_read

pub returns-clause-unread : goal.returns-clause-unread
returns-clause-unread c = unread_is_new
