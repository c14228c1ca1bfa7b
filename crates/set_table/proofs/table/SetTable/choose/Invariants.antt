use Rattle.set_table.proofs.ChoiceLaws.{ChosenSoFar}
use Rattle.set_table.proofs.table.SetTable.choose.Given as goal

abbrev pub invariant-loop : goal.invariant-loop
invariant-loop l = ChosenSoFar l.self l.chosen l.counter
