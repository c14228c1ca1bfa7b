use Rattle.std.proofs.Common.{◌+◌}
use Rattle.array_scan.specs.SetRead.{array_by}
use Rattle.array_scan.proofs.SeenSets.{SetsSeen}
use Rattle.array_scan.proofs.read_sets.read_sets.Given as goal

abbrev pub invariant-loop-id : goal.invariant-loop-id
invariant-loop-id g l = SetsSeen (array_by l.label) (l.label.geometry.k + l.label.geometry.p) (g.B.Bay.state l.fn.bay) (g.B.Bay.state l.bay) l.heads l.sets.items l.id-iterator
