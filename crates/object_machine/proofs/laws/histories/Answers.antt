use Rattle.object_machine.proofs.HistoryLaws.{legal_more, legal_join, legal_split, legal_steps}
use Rattle.object_machine.proofs.laws.histories.Goals as goal

pub returns-clause-go_on : goal.returns-clause-go_on
returns-clause-go_on g c = legal_more g.M.Machine.moves

pub returns-clause-join : goal.returns-clause-join
returns-clause-join g c = legal_join g.M.Machine.moves

pub returns-clause-split : goal.returns-clause-split
returns-clause-split g c = legal_split g.M.Machine.moves

pub returns-clause-steps : goal.returns-clause-steps
returns-clause-steps g c = legal_steps g.M.Machine.moves g.M.Machine.state g.met.M.Machine.is_step
