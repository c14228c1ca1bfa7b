use Rattle.std.proofs.Common.{arith}
use Rattle.set_table.proofs.RowLaws.{above_at, above_gap}
use Rattle.set_table.proofs.rows.Rows.above.Goals as goal

pub overflow_add-result : goal.overflow_add-result
overflow_add-result c = omega (arith, c.in-Ok.ensures.found.in_range, c.in-Ok.ensures.few)

pub returns-in-Ok : goal.returns-in-Ok
returns-in-Ok c = above_at c.args.self.now.rows c.in-Ok.ensures.rising c.args.set c.in-Ok.at c.in-Ok.ensures.found

pub returns-in-Err : goal.returns-in-Err
returns-in-Err c = above_gap _ _ _ c.in-Err.ensures.absent
