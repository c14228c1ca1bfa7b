use Rattle.std.proofs.Common.{◌<◌, ℕ, true, false, List, sym, ap, ◌∙◌, subst, arith}
use Rattle.std.specs.List.{AllByRecursion}
use Rattle.std.proofs.lemmas.List.{take_all}
use Rattle.array_model.specs.Drives.{outside}
use Rattle.array_scan.proofs.KeptCarriers.{outside_more, outside_within}
use Rattle.array_scan.proofs.enough.outside.Goals as goal
use Rattle.array_scan.proofs.enough.outside.Goals.{then-not-contains+in_ok-push, else-not-contains}

pub loop-drive-preserved : goal.loop-drive-preserved
loop-drive-preserved c =
    let drives = c.args.drives.now in
    let leaving = c.args.leaving.now in
    let n = c.loop-drive.drive-index in
    elim c.if-not-contains.branch [
      | then-not-contains+in_ok-push w ↦ rw w.others-is (w.in_ok-push.ensures.items ∙ outside_more leaving drives n 0 c.loop-drive.others.items false c.loop-drive-test.true (sym c.contains.ensures.value ∙ w.if-not-contains.true) c.loop-drive.invariant)
      | else-not-contains w ↦ rw w.others-is (outside_more leaving drives n 0 c.loop-drive.others.items true c.loop-drive-test.true (sym c.contains.ensures.value ∙ w.if-not-contains.false) c.loop-drive.invariant)
    ]

pub returns-clause-within : goal.returns-clause-within
returns-clause-within c = λ most all.
    subst (λ (l : List ℕ). AllByRecursion (λ d. d < most) l)
    (sym (c.loop-drive.invariant ∙ ap (outside c.args.leaving.now) (take_all c.loop-drive.drive-index c.args.drives.now (omega (arith, c.loop-drive-test.false)))))
    (outside_within c.args.leaving.now most c.args.drives.now all)
