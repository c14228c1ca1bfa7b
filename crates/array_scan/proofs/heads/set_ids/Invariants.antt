use Rattle.std.proofs.Common.{◌≡◌, ◌-◌, drop}
use Rattle.array_scan.specs.Heads.{ids_of}
use Rattle.array_scan.proofs.heads.set_ids.Given as goal

abbrev pub invariant-loop-i : goal.invariant-loop-i
invariant-loop-i l = l.ids.keys ≡ ids_of (drop (l.count - l.i) l.heads)
