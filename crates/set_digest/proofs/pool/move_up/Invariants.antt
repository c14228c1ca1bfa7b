use Rattle.std.proofs.Common.{◌≡◌, ◌++◌, map, take, drop}
use Rattle.set_digest.specs.Pool.{moved_up}
use Rattle.set_digest.proofs.pool.move_up.Given as goal

abbrev pub invariant-loop-row : goal.invariant-loop-row
invariant-loop-row l = l.row-items ≡ map (moved_up l.from) (take l.row-index l.initial.row-items) ++ drop l.row-index l.initial.row-items
