use Rattle.std.proofs.Common.{◌≡◌, ◌≤◌, length, take}
use Rattle.set_reader.proofs.RoundLaws.{Rounds}
use Rattle.set_reader.specs.Calls.{live_count}
use Rattle.set_reader.proofs.record.read_sources.Given as goal

abbrev pub invariant-loop : goal.invariant-loop
invariant-loop g l = Rounds l.fn.table.geometry.k l.fn.table l.table (g.B.Bay.state l.fn.bay) (g.B.Bay.state l.bay)
    × (take l.from l.out.items ≡ take l.from l.fn.out.items) × (l.from ≤ length l.out.items)

abbrev pub decreases-loop : goal.decreases-loop
decreases-loop g l = live_count l.table
