use Rattle.object_machine.proofs.HistoryLaws.{history_decides}
use Rattle.object_machine.proofs.laws.answers_decide.Goals as goal

pub returns-clause-history : goal.returns-clause-history
returns-clause-history c = history_decides
