use Rattle.set_writer.proofs.TableChanges.{mark_keeps, room_keeps, loss_keeps, losses_keep, take_keeps, add_keeps, release_keeps}
use Rattle.set_writer.proofs.FormChanges.{form_keeps}
use Rattle.set_writer.proofs.tables.changes_keep_sets.Goals as goal

pub returns-clause-mark : goal.returns-clause-mark
returns-clause-mark c = mark_keeps

pub returns-clause-room : goal.returns-clause-room
returns-clause-room c = room_keeps

pub returns-clause-loss : goal.returns-clause-loss
returns-clause-loss c = loss_keeps

pub returns-clause-losses : goal.returns-clause-losses
returns-clause-losses c = losses_keep

pub returns-clause-take : goal.returns-clause-take
returns-clause-take c = take_keeps

pub returns-clause-form : goal.returns-clause-form
returns-clause-form c = form_keeps

pub returns-clause-add : goal.returns-clause-add
returns-clause-add c = add_keeps

pub returns-clause-release : goal.returns-clause-release
returns-clause-release c = release_keeps
