use Rattle.std.proofs.Common.{◌≡◌, replicate}
use Rattle.set_table.specs.Zones.{blank}
use Rattle.set_table.proofs.table.SetTable.new.Given as goal

abbrev pub invariant-loop : goal.invariant-loop
invariant-loop l = l.drives.items ≡ replicate l.counter (blank l.geometry.zones)
