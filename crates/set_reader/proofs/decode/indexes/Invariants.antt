use Rattle.std.proofs.Common.{◌≡◌, length, take}
use Rattle.set_reader.specs.Rows.{indexes_of}
use Rattle.set_reader.proofs.decode.indexes.Given as goal

abbrev pub invariant-loop-at : goal.invariant-loop-at
invariant-loop-at l = (length l.indexes ≡ 20) × (take l.at l.indexes ≡ indexes_of (take l.at l.members))
