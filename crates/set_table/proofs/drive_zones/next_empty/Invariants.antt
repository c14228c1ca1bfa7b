use Rattle.std.proofs.Common.{◌≡◌, ◌+◌, ◌-◌, min, length, drop}
use Rattle.set_table.specs.Zones.{before_empty}
use Rattle.set_table.proofs.drive_zones.next_empty.Given as goal

abbrev pub invariant-loop-zone : goal.invariant-loop-zone
invariant-loop-zone l = l.fn.first + before_empty (drop l.fn.first l.fn.uses) ≡ min l.zone (length l.fn.uses) + before_empty (drop l.zone l.fn.uses)

abbrev pub decreases-loop-zone : goal.decreases-loop-zone
decreases-loop-zone l = l.zones - l.zone
