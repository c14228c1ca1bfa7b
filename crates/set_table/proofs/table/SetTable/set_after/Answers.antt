use Rattle.std.proofs.Common.{subst}
use Rattle.set_table.specs.Table.{Table, IsNextSet}
use Rattle.set_table.proofs.TableLaws.{next_set}
use Rattle.set_table.proofs.table.SetTable.set_after.Goals as goal

pub returns : goal.returns
returns c = subst (λ (t : Table). IsNextSet c.args.set t.sets c.after.result) c.self.view_is (next_set c.self.inside.rows.rows c.args.set c.after.result c.after.ensures)
