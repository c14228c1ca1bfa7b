use Rattle.std.proofs.Common.{◌*◌, ◌^◌, ◌≤◌}
use Rattle.store_core.specs.Index.{parts_in, sizes_in}
use Rattle.store_core.proofs.Extents.{IsSoFar}
use Rattle.store_core.proofs.index.Index.extent.Given as goal

abbrev pub invariant-loop-number : goal.invariant-loop-number
invariant-loop-number l = (l.bytes ≤ l.number * 2 ^ 32) × IsSoFar (sizes_in (parts_in l.self) l.note.upload) l.note.parts l.number l.bytes
