use Rattle.std.proofs.Common.{◌≡◌, length, filter, not}
use Rattle.std.specs.List.{range_with_len}
use Rattle.set_table.specs.Table.{is_carried}
use Rattle.set_table.proofs.table.SetTable.missing.Given as goal

abbrev pub invariant-loop-index : goal.invariant-loop-index
invariant-loop-index l = l.count ≡ length (filter (λ index. not (is_carried l.self l.set index)) (range_with_len 0 l.index))
