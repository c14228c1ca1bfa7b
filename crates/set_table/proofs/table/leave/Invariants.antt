use Rattle.std.proofs.Common.{◌≡◌, ℕ, ◌<◌, false, get_or}
use Rattle.set_table.specs.Zones.{carries}
use Rattle.set_table.specs.Table.{use_at, nowhere}
use Rattle.set_table.proofs.table.leave.Given as goal

abbrev pub invariant-loop-index : goal.invariant-loop-index
invariant-loop-index l = (i : ℕ) → i < l.index → (let place = get_or l.row.places i nowhere in carries l.set i (use_at l.drives place.device place.zone)) ≡ false
