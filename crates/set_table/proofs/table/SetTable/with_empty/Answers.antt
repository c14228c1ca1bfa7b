use Rattle.std.proofs.Common.{◌≡◌, ◌∙◌, ◌+◌, true, false, sym, ap, arith}
use Rattle.std.proofs.lemmas.Bool.{lt-ltb, le-ltb}
use Rattle.set_table.specs.Table.{has_empty}
use Rattle.set_table.proofs.Counts.{count_few, count_yes, count_no}
use Rattle.set_table.proofs.table.SetTable.with_empty.Goals as goal
use Rattle.set_table.proofs.table.SetTable.with_empty.Goals.{then-empty_zones-gt0, else-empty_zones-gt0}

pub overflow_add-drives : goal.overflow_add-drives
overflow_add-drives c = omega (arith, c.loop-device.invariant, count_few (has_empty c.args.self.now) c.loop-device.device, c.loop-device-test.true, c.self.invariant.within)

pub loop-device-preserved : goal.loop-device-preserved
loop-device-preserved c =
    let has = has_empty c.args.self.now in
    let d = c.loop-device.device in
    elim c.if-empty_zones-gt0.branch [
      | then-empty_zones-gt0 w ↦
          let yes : has d ≡ true = lt-ltb 0 _ (omega (arith, w.if-empty_zones-gt0.true, c.empty_zones.ensures)) in
          w.drives-is ∙ ap (λ n. n + 1) c.loop-device.invariant ∙ sym (count_yes has d yes)
      | else-empty_zones-gt0 w ↦
          let no : has d ≡ false = le-ltb 0 _ (omega (arith, w.if-empty_zones-gt0.false, c.empty_zones.ensures)) in
          w.drives-is ∙ c.loop-device.invariant ∙ sym (count_no has d no)
    ]
