use Rattle.std.proofs.Common.{◌≡◌, ◌*◌, ◌≤◌}
use Rattle.set_table.specs.Table.{sum_to_of, room_of}
use Rattle.set_table.proofs.table.SetTable.room_sets.Given as goal

abbrev pub invariant-loop-zones : goal.invariant-loop-zones
invariant-loop-zones l = record {
  zones_are : l.zones ≡ sum_to_of l.self l.sets;
  above : room_of l.self ≤ l.sets;
  few : l.members * l.sets ≤ 1572840;
}

abbrev pub decreases-loop-zones : goal.decreases-loop-zones
decreases-loop-zones l = l.sets
