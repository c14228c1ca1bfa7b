use Rattle.object_machine.proofs.HistoryLaws.{deleted_stays_absent}
use Rattle.object_machine.proofs.laws.deleted_stays_absent.Goals as goal

pub returns : goal.returns
returns c = deleted_stays_absent
