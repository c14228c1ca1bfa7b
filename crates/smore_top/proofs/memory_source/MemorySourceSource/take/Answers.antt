use Rattle.std.proofs.Common.{arith, rules}
use Rattle.smore_top.proofs.Pieces.{left_of-take}
use Rattle.smore_top.proofs.memory_source.MemorySourceSource.take.Goals as goal

pub returns-else-ends-clause-taken : goal.returns-else-ends-clause-taken
returns-else-ends-clause-taken c =
    let s = c.self.inside in
    let bytes = c.deref.result.now in
    rw (← c.self.view_is) (left_of-take s.pieces.items s.front s.at c.copy_front-count.result c.index-piece.result.now bytes c.copy_front-count.new.out (search rules) c.index-piece.ensures c.deref.ensures.value (grind arith) (grind arith) c.copy_front-count.ensures.copied)
