use Rattle.std.proofs.Common.{◌≡◌, ◌∙◌, ◌+◌, ℕ, length, Bool, not, true, false, sym, ap, subst, arith}
use Rattle.set_table.specs.Table.{Table, is_carried}
use Rattle.set_table.proofs.Counts.{count_few, count_yes, count_no}
use Rattle.set_table.proofs.MissingLaws.{carried_where, not_carried_where}
use Rattle.set_table.proofs.table.SetTable.missing.Goals as goal
use Rattle.set_table.proofs.table.SetTable.missing.Goals.{then-is_none, else-is_none}

pub overflow_add-count : goal.overflow_add-count
overflow_add-count c =
    let test : ℕ → Bool = λ index. not (is_carried c.args.self.now c.args.set index) in
    omega (arith, c.loop-index.invariant, count_few test c.loop-index.index, c.loop-index-test.true, c.self.invariant.within)

pub loop-index-preserved : goal.loop-index-preserved
loop-index-preserved c =
    let test : ℕ → Bool = λ index. not (is_carried c.args.self.now c.args.set index) in
    let i = c.loop-index.index in
    let drives = subst (λ (t : Table). length t.zones ≡ t.geometry.drives) c.self.view_is c.self.invariant.drives in
    elim c.if-is_none.branch [
      | then-is_none w ↦
          let yes : test i ≡ true = ap not (not_carried_where c.args.self.now c.args.set i drives c.carrier.result c.carrier.ensures (c.is_none.ensures ∙ ap not w.if-is_none.true)) in
          w.count-is ∙ ap (λ n. n + 1) c.loop-index.invariant ∙ sym (count_yes test i yes)
      | else-is_none w ↦
          let no : test i ≡ false = ap not (carried_where c.args.self.now c.args.set i drives c.carrier.result c.carrier.ensures (c.is_none.ensures ∙ ap not w.if-is_none.false)) in
          w.count-is ∙ c.loop-index.invariant ∙ sym (count_no test i no)
    ]
