use Rattle.array_scan.proofs.HeadLaws.{Found}
use Rattle.array_scan.proofs.heads.find_carriers.Given as goal

abbrev pub invariant-loop-index : goal.invariant-loop-index
invariant-loop-index l = Found l.heads l.set l.index l.carriers.items
