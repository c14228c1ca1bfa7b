use Rattle.std.proofs.Common.{Some, sym, subst, ap, ◌∙◌}
use Rattle.std.proofs.lemmas.List.{get_or_default}
use Rattle.set_table.specs.Rows.{RowList, row_of, no_row, IsAt}
use Rattle.set_table.proofs.RowLaws.{found_at, none_in_gap}
use Rattle.set_table.proofs.rows.Rows.get.Goals as goal

pub returns-in-Ok : goal.returns-in-Ok
returns-in-Ok c =
    let rows = c.self.inside.rows.items in
    let is : IsAt rows c.args.set c.in-Ok.at = subst (λ (t : RowList). IsAt t.rows c.args.set c.in-Ok.at) (sym c.self.view_is) c.in-Ok.ensures.found in
    ap Some (c.index.ensures ∙ get_or_default rows c.in-Ok.at c.index.result.now no_row is.in_range)
    ∙ sym (found_at rows c.self.invariant c.args.set c.in-Ok.at is)
    ∙ ap (λ (t : RowList). row_of c.args.set t.rows) c.self.view_is

pub returns-in-Err : goal.returns-in-Err
returns-in-Err c = sym (none_in_gap _ _ _ c.in-Err.ensures.absent)
