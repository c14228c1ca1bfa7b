use Rattle.std.proofs.Common.{◌≡◌, ◌+◌, false, get_or, ◌∙◌, sym, subst, arith}
use Rattle.std.proofs.lemmas.Bool.{both_ways}
use Rattle.set_table.specs.Table.{Table, empty_on}
use Rattle.set_table.proofs.ChoiceLaws.{BestBelow, best_none, best_here, best_before, best_is}
use Rattle.set_table.proofs.table.SetTable.best.Goals as goal
use Rattle.set_table.proofs.table.SetTable.best.Goals.{then-not-chosen-device+then-empty-most, else-not-chosen-device, else-not-chosen-device-via-then-not-chosen-device+else-empty-most, else-not-chosen-device-via-else-not-chosen-device}

pub loop-device-init : goal.loop-device-init
loop-device-init c = best_none c.args.self.now c.args.chosen.now

pub loop-device-preserved : goal.loop-device-preserved
loop-device-preserved c =
    let t = c.args.self.now in
    let chosen = c.args.chosen.now in
    let n = c.loop-device.device in
    elim c.if-not-chosen-device.branch [
      | then-not-chosen-device+then-empty-most w ↦
          let here = best_here t chosen n c.loop-device.best c.loop-device.most c.loop-device.invariant w.if-not-chosen-device.true (omega (arith, w.if-empty-most.true, c.empty_zones-empty.ensures)) in
          subst (λ m. BestBelow t chosen (n + 1) c.if-not-chosen-device.best m) (sym (w.most-is ∙ c.empty_zones-empty.ensures)) (subst (λ b. BestBelow t chosen (n + 1) b (empty_on t n)) (sym w.best-is) here)
      | else-not-chosen-device w ↦
          let before = best_before t chosen n c.loop-device.best c.loop-device.most c.loop-device.invariant (λ left. elim w.else-not-chosen-device.branch [
            | else-not-chosen-device-via-then-not-chosen-device+else-empty-most v ↦ omega (arith, v.if-empty-most.false, c.empty_zones-empty.ensures)
            | else-not-chosen-device-via-else-not-chosen-device v ↦ absurd (both_ways (get_or chosen n false) left v.if-not-chosen-device.false)
          ]) in
          subst (λ m. BestBelow t chosen (n + 1) c.if-not-chosen-device.best m) (sym w.most-is) (subst (λ b. BestBelow t chosen (n + 1) b c.loop-device.most) (sym w.best-is) before)
    ]

pub returns : goal.returns
returns c =
    let t = c.args.self.now in
    let chosen = c.args.chosen.now in
    let all : c.loop-device.device ≡ t.geometry.drives = subst (λ (t : Table). c.loop-device.device ≡ t.geometry.drives) c.self.view_is (omega (arith, c.loop-device-test.false)) in
    best_is t chosen c.loop-device.best c.loop-device.most (subst (λ n. BestBelow t chosen n c.loop-device.best c.loop-device.most) all c.loop-device.invariant)
