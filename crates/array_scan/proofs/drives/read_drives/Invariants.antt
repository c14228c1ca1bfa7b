use Rattle.array_scan.proofs.FoundDrives.{DrivesFound}
use Rattle.array_scan.proofs.drives.read_drives.Given as goal

abbrev pub invariant-loop-drive : goal.invariant-loop-drive
invariant-loop-drive g l = DrivesFound (g.B.Bay.state l.fn.bay) (g.B.Bay.state l.bay) l.away l.drive-counter l.drives.present.items l.drives.labels.items l.drives.unlabelled.items
