use Rattle.set_reader.proofs.CarrierLaws.{CarriersBelow}
use Rattle.set_reader.proofs.carriers.carriers.Given as goal

abbrev pub invariant-loop-index : goal.invariant-loop-index
invariant-loop-index l = CarriersBelow l.table l.set l.index l.members.items
