use Rattle.std.proofs.Common.{false, get_or}
use Rattle.set_table.proofs.FormLaws.{FormedBelow}
use Rattle.set_table.proofs.table.SetTable.form_set.Given as goal

abbrev pub invariant-loop-device : goal.invariant-loop-device
invariant-loop-device l = FormedBelow l.fn.self l.set (λ d. get_or l.chosen d false) l.device l.members.items l.self
