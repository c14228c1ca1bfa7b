use Rattle.std.proofs.Common.{◌≡◌, ◌<◌, ◌≤◌, ℕ, Option, Some, length, sym, subst, ap, ◌∙◌, arith}
use Rattle.std.proofs.lemmas.List.{get_or_default}
use Rattle.set_table.specs.declared.rows.Row.{Row}
use Rattle.set_table.specs.Rows.{RowList, no_row, set_at, IsAbove, IsLeastAbove}
use Rattle.set_table.proofs.RowLaws.{least_above, none_above}
use Rattle.set_table.proofs.rows.Rows.after.Goals as goal

pub returns-then-at-len : goal.returns-then-at-len
returns-then-at-len c =
    let rows = c.self.inside.rows.items in
    let at = c.above-at.result in
    let above : IsAbove rows c.args.set at = subst (λ (t : RowList). IsAbove t.rows c.args.set at) (sym c.self.view_is) c.above-at.ensures in
    let within : at < length rows = omega (arith, c.if-at-len.true, c.len.ensures, c.self.inside.rows.ok) in
    let is : set_at rows at ≡ c.index.result.now.set = sym (ap (λ (row : Row). row.set) (c.index.ensures ∙ get_or_default rows at c.index.result.now no_row within)) in
    subst (λ (o : Option ℕ). IsLeastAbove c.args.set c.args.self.now.rows o) (ap (λ n. Some n) is)
    (subst (λ (t : RowList). IsLeastAbove c.args.set t.rows (Some (set_at rows at))) c.self.view_is (least_above rows c.self.invariant c.args.set at above within))

pub returns-else-at-len : goal.returns-else-at-len
returns-else-at-len c =
    let rows = c.self.inside.rows.items in
    none_above c.args.self.now.rows c.args.set c.above-at.result c.above-at.ensures
    (subst (λ (t : RowList). length t.rows ≤ c.above-at.result) c.self.view_is (omega (arith, c.if-at-len.false, c.len.ensures, c.self.inside.rows.ok)))
