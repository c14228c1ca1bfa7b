use Rattle.std.proofs.Common.{take}
use Rattle.array_scan.specs.SetRead.{array_by}
use Rattle.array_scan.proofs.HeadLaws.{DrivesRead}
use Rattle.array_scan.proofs.heads.read_heads.Given as goal

abbrev pub invariant-loop-drive : goal.invariant-loop-drive
invariant-loop-drive g l = DrivesRead (array_by l.label) (g.B.Bay.state l.fn.bay) (g.B.Bay.state l.bay) (take l.drive-index l.drives) l.heads.items
