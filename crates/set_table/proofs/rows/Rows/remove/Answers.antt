use Rattle.std.proofs.Common.{sym, subst}
use Rattle.std.specs.List.{remove}
use Rattle.set_table.specs.Rows.{RowList, IsAt, TakesRow}
use Rattle.set_table.proofs.RowLaws.{takes_at, takes_none, none_in_gap}
use Rattle.set_table.proofs.rows.Rows.remove.Goals as goal

pub returns-in-Ok-clause-rows : goal.returns-in-Ok-clause-rows
returns-in-Ok-clause-rows c =
    let rows = c.self.inside.rows.items in
    let is : IsAt rows c.args.set c.in-Ok.at = subst (λ (t : RowList). IsAt t.rows c.args.set c.in-Ok.at) (sym c.self.view_is) c.in-Ok.ensures.found in
    let taken = takes_at rows c.self.invariant c.args.set c.in-Ok.at is in
    subst (λ l. TakesRow c.args.set c.args.self.now.rows l) (sym c.remove.ensures.items) (subst (λ (t : RowList). TakesRow c.args.set t.rows (remove rows c.in-Ok.at)) c.self.view_is taken)

pub returns-in_default-clause-rows : goal.returns-in_default-clause-rows
returns-in_default-clause-rows c = takes_none c.args.self.now.rows c.args.set (none_in_gap _ _ _ c.in_default.ensures.absent)
