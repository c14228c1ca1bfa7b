use Rattle.std.proofs.Common.{List, ◌≡◌, ◌<◌, length, get_or, subst}
use Rattle.array_scan.specs.declared.judge.SetScan.{SetScan}
use Rattle.array_scan.proofs.ValidRecords.{valid_standing, valid_fallen}
use Rattle.array_scan.proofs.records.valid_records.Goals as goal
use Rattle.array_scan.proofs.records.valid_records.Goals.{then-set+in_ok-add_valid, else-set}

pub loop-set-preserved : goal.loop-set-preserved
loop-set-preserved c =
    let sets = c.args.sets.now.list.items in
    let n = c.loop-set.set-index in
    let s = c.set-item.result in
    let below = subst (λ (l : List SetScan). n < length l) c.deref-set-items.ensures.value c.loop-set-test.true in
    let here = subst (λ (l : List SetScan). s ≡ get_or l n s) c.deref-set-items.ensures.value c.set-item.is in
    elim c.if-set.branch [
      | then-set+in_ok-add_valid w ↦
          rw w.records-is
          (valid_standing sets n s c.loop-set.records.items below here c.loop-set.invariant w.add_valid.new.records.items w.if-set.true
          (λ there. record { added = w.in_ok-add_valid.ensures.added; of_set = w.in_ok-add_valid.ensures.of_set }))
      | else-set w ↦ rw w.records-is (valid_fallen sets n s c.loop-set.records.items below here c.loop-set.invariant w.if-set.false)
    ]
