use Rattle.std.proofs.Common.{◌≡◌, ◌++◌, map, take, drop}
use Rattle.set_digest.specs.Pool.{moved_down}
use Rattle.set_digest.proofs.pool.move_down.Given as goal

abbrev pub invariant-loop-row : goal.invariant-loop-row
invariant-loop-row l = l.row-items ≡ map (moved_down l.end l.count) (take l.row-index l.initial.row-items) ++ drop l.row-index l.initial.row-items
