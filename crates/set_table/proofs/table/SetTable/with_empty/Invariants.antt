use Rattle.std.proofs.Common.{◌≡◌, length, filter}
use Rattle.std.specs.List.{range_with_len}
use Rattle.set_table.specs.Table.{has_empty}
use Rattle.set_table.proofs.table.SetTable.with_empty.Given as goal

abbrev pub invariant-loop-device : goal.invariant-loop-device
invariant-loop-device l = l.drives ≡ length (filter (has_empty l.self) (range_with_len 0 l.device))
