use Rattle.std.proofs.Common.{◌≡◌, ◌-◌, drop}
use Rattle.set_table.specs.Table.{lost_bits}
use Rattle.set_table.proofs.table.SetTable.lost.Given as goal

abbrev pub invariant-loop-count : goal.invariant-loop-count
invariant-loop-count l = l.bits ≡ lost_bits (drop (l.devices - l.count) l.self.lost)
