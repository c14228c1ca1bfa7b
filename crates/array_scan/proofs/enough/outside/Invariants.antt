use Rattle.std.proofs.Common.{◌≡◌, take}
use Rattle.array_model.specs.Drives.{outside}
use Rattle.array_scan.proofs.enough.outside.Given as goal

abbrev pub invariant-loop-drive : goal.invariant-loop-drive
invariant-loop-drive l = l.others.items ≡ outside l.leaving (take l.drive-index l.drives)
