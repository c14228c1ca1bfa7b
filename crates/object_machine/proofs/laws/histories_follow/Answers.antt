use Rattle.object_machine.proofs.HistoryLaws.{legal_follows}
use Rattle.object_machine.proofs.laws.histories_follow.Goals as goal

pub returns : goal.returns
returns g c = legal_follows g.M.Machine.moves g.N.Machine.moves
