use Rattle.array_scan.specs.SetRead.{array_by}
use Rattle.array_scan.proofs.HeadLaws.{DriveRead}
use Rattle.array_scan.proofs.heads.read_drive_heads.Given as goal

abbrev pub invariant-loop-zone : goal.invariant-loop-zone
invariant-loop-zone g l = DriveRead (array_by l.label) l.device (g.B.Bay.state l.fn.bay) (g.B.Bay.state l.bay) l.fn.heads.items l.heads.items l.zone
