use Rattle.std.proofs.Common.{◌≡◌, ◌*◌, ◌≤◌, ℕ, min, map}
use Rattle.std.specs.Prelude.{sum_by}
use Rattle.std.specs.List.{range_with_len}
use Rattle.set_table.specs.Table.{empty_on}
use Rattle.set_table.proofs.table.SetTable.sum_to.Given as goal

abbrev pub invariant-loop-device : goal.invariant-loop-device
invariant-loop-device l = record {
  sum_is : l.sum ≡ sum_by (min l.most) (map (empty_on l.self) (range_with_len 0 l.device));
  all : 65535 ≤ l.most → (other : ℕ) → sum_by (min other) (map (empty_on l.self) (range_with_len 0 l.device)) ≤ l.sum;
  few : l.sum ≤ 65535 * l.device;
}
