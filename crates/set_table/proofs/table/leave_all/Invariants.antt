use Rattle.std.proofs.Common.{◌≡◌, ◌-◌, ◌≤◌, length}
use Rattle.set_table.proofs.StayLaws.{StaysUpTo}
use Rattle.set_table.proofs.table.leave_all.Given as goal

abbrev pub invariant-loop-next : goal.invariant-loop-next
invariant-loop-next l = record {
  stays : StaysUpTo l.set l.drives l.fn.rows.rows l.rows.rows;
  capacity : l.rows.capacity ≡ l.fn.rows.capacity;
  length_is : length l.rows.rows ≤ length l.fn.rows.rows;
}

abbrev pub decreases-loop-next : goal.decreases-loop-next
decreases-loop-next l = 18446744073709551616 - l.set
