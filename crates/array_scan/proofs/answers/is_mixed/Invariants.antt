use Rattle.std.proofs.Common.{take}
use Rattle.std.specs.List.{AllByRecursion}
use Rattle.array_scan.specs.Drives.{SaySame}
use Rattle.array_scan.proofs.answers.is_mixed.Given as goal

abbrev pub invariant-loop-label : goal.invariant-loop-label
invariant-loop-label l = AllByRecursion (λ label. SaySame label l.first) (take l.label-index l.labels)
