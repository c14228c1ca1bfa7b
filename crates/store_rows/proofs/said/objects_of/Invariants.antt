use Rattle.array_scan.specs.Scan.{IsInBay}
use Rattle.store_rows.proofs.said.objects_of.Given as goal

abbrev pub invariant-loop-name : goal.invariant-loop-name
invariant-loop-name g l =
    (goal.iterator-loop-name g).can_next l.name-iterator ×
    (goal.iterator-loop-name g).is_finite l.name-iterator ×
    IsInBay (g.B.Bay.state l.bay).shape l.fn.scan
