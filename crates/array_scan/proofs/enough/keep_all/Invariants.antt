use Rattle.std.proofs.Common.{◌≡◌, drop}
use Rattle.std.specs.List.{list_all}
use Rattle.array_scan.specs.Enough.{keeps}
use Rattle.array_scan.specs.declared.judge.SetScan.{SetScan}
use Rattle.array_scan.proofs.enough.keep_all.Given as goal

abbrev pub invariant-loop-set : goal.invariant-loop-set
invariant-loop-set l = list_all (λ (s : SetScan). keeps l.k l.indexes l.heads s.read.id) l.sets ≡ list_all (λ (s : SetScan). keeps l.k l.indexes l.heads s.read.id) (drop l.set-index l.sets)
