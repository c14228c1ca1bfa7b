use Rattle.std.proofs.Common.{◌≡◌, ◌⊎◌, ◌+◌, ◌<◌, true, cond, length, is_some, IsSome, is_ok, IsOk, Result, Ok, Err, None, set, inl, inr, refl, sym, subst, ap, ◌∙◌, arith}
use Rattle.std.specs.List.{insert}
use Rattle.std.specs.Vec.{vec_len, vec_capacity}
use Rattle.std.proofs.lemmas.List.{length-set}
use Rattle.std.proofs.lemmas.List.Edits.{length-insert}
use Rattle.set_table.specs.declared.rows.Row.{Row}
use Rattle.set_table.specs.Rows.{RowList, row_of, IsAt, IsGapFor, PutsRow}
use Rattle.set_table.proofs.RowLaws.{found_at, puts_at, puts_in_gap, none_in_gap}
use Rattle.set_table.proofs.rows.Rows.put.Goals as goal
use Rattle.set_table.proofs.rows.Rows.put.Goals.{After-insert}

pub returns-in-Ok-clause-rows : goal.returns-in-Ok-clause-rows
returns-in-Ok-clause-rows c =
    let rows = c.self.inside.rows.items in
    let is : IsAt rows c.args.row.set c.in-Ok.at = subst (λ (t : RowList). IsAt t.rows c.args.row.set c.in-Ok.at) (sym c.self.view_is) c.in-Ok.ensures.found in
    subst (λ (t : RowList). PutsRow c.args.row t.rows (set rows c.in-Ok.at c.args.row)) c.self.view_is (puts_at rows c.self.invariant c.args.row.set c.in-Ok.at is c.args.row refl)

pub returns-in-Ok-clause-length : goal.returns-in-Ok-clause-length
returns-in-Ok-clause-length c =
    let rows = c.self.inside.rows.items in
    let is : IsAt rows c.args.row.set c.in-Ok.at = subst (λ (t : RowList). IsAt t.rows c.args.row.set c.in-Ok.at) (sym c.self.view_is) c.in-Ok.ensures.found in
    let some = ap is_some (found_at rows c.self.invariant c.args.row.set c.in-Ok.at is) in
    let same = ap (λ (t : RowList). length t.rows + cond (is_some (row_of c.args.row.set t.rows)) 0 1) c.self.view_is in
    length-set rows c.in-Ok.at c.args.row ∙ omega arith ∙ ap (λ b. length rows + cond b 0 1) (sym some) ∙ same

-- there is room for one more
room : (rows : RowList) (row : Row) → row_of row.set rows.rows ≡ None → IsSome (row_of row.set rows.rows) ⊎ (length rows.rows < rows.capacity) → length rows.rows < rows.capacity
room rows row none (inl some) = let no : is_some {T = Row} None ≡ true = ap (is_some {T = Row}) (sym none) ∙ some in absurd cc
room rows row none (inr more) = more

record Inserted (c : After-insert) : Type 0 where
  gap : IsGapFor c.self.inside.rows.items c.args.row.set c.in-Err.at
  none : row_of c.args.row.set c.args.self.now.rows ≡ None
  more : vec_len c.self.inside.rows < vec_capacity c.self.inside.rows
  items : c.insert.new.self.items ≡ insert c.self.inside.rows.items c.in-Err.at c.args.row

inserted : (c : After-insert) → Inserted c
inserted c =
    let none = none_in_gap c.args.self.now.rows c.args.row.set c.in-Err.at c.in-Err.ensures.absent in
    let less = room c.args.self.now c.args.row none c.requires in
    let more : vec_len c.self.inside.rows < vec_capacity c.self.inside.rows = omega (arith, subst (λ (t : RowList). length t.rows < t.capacity) (sym c.self.view_is) less, c.self.inside.rows.ok) in
    record {
      gap = subst (λ (t : RowList). IsGapFor t.rows c.args.row.set c.in-Err.at) (sym c.self.view_is) c.in-Err.ensures.absent;
      none = none;
      more = more;
      items = c.insert.ensures.items ∙ when_ok c.insert.result (c.insert.ensures.succeeds more);
    }
  where
    when_ok : {E : Type 0} (r : Result (Unit {0}) E) → IsOk r → cond (is_ok r) (insert c.self.inside.rows.items c.in-Err.at c.args.row) c.self.inside.rows.items ≡ insert c.self.inside.rows.items c.in-Err.at c.args.row
    when_ok (Ok t) ok = refl
    when_ok (Err e) ok = absurd cc

pub returns-in-Err-clause-rows : goal.returns-in-Err-clause-rows
returns-in-Err-clause-rows c =
    let it = inserted c in
    subst (λ l. PutsRow c.args.row c.args.self.now.rows l) (sym it.items)
    (subst (λ (t : RowList). PutsRow c.args.row t.rows (insert c.self.inside.rows.items c.in-Err.at c.args.row)) c.self.view_is (puts_in_gap c.self.inside.rows.items c.args.row.set c.in-Err.at it.gap c.args.row refl))

pub returns-in-Err-clause-capacity : goal.returns-in-Err-clause-capacity
returns-in-Err-clause-capacity c =
    let block = c.insert.ensures.in_place (inserted c).more in
    block.1.0 ∙ ap (λ (t : RowList). t.capacity) c.self.view_is

pub returns-in-Err-clause-length : goal.returns-in-Err-clause-length
returns-in-Err-clause-length c =
    let it = inserted c in
    ap length it.items ∙ length-insert c.self.inside.rows.items c.in-Err.at c.args.row it.gap.in_range ∙ omega arith
    ∙ ap (λ (t : RowList). length t.rows + 1) c.self.view_is
    ∙ ap (λ o. length c.args.self.now.rows + cond (is_some o) 0 1) (sym it.none)
