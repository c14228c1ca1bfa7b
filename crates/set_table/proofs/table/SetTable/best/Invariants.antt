use Rattle.set_table.proofs.ChoiceLaws.{BestBelow}
use Rattle.set_table.proofs.table.SetTable.best.Given as goal

abbrev pub invariant-loop-device : goal.invariant-loop-device
invariant-loop-device l = BestBelow l.self l.chosen l.device l.best l.most
