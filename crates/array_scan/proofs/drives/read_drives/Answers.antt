use Rattle.std.proofs.Common.{◌≡◌, ◌<◌, false, Option, Some, None, IfSome, sym, ◌∙◌, subst, arith}
use Rattle.smore_base.specs.Geometry.{IsWithinLimits}
use Rattle.marker_format.specs.declared.label.Label.{Label}
use Rattle.array_model.specs.Drives.{label_on, is_among}
use Rattle.array_scan.specs.Calls.{lost_by}
use Rattle.array_scan.proofs.Calls.{read_then, failed_as}
use Rattle.array_scan.proofs.FoundDrives.{drive_away, drive_labelled, drive_bare}
use Rattle.array_scan.proofs.drives.read_drives.Goals as goal
use Rattle.array_scan.proofs.drives.read_drives.Goals.{in-Some+in_ok-push-in-Some+in_ok-push-in-Some-2, in-None+in_ok-push-in-None}

-- src/drives.rt:118:5
pub loop-drive-preserved-then-contains : goal.loop-drive-preserved-then-contains
loop-drive-preserved-then-contains g c =
    let now = c.loop-drive.drives in
    drive_away (g.B.Bay.state c.args.bay.now) (g.B.Bay.state c.loop-drive.bay) c.args.away.now c.loop-drive.drive-counter now.present.items now.labels.items now.unlabelled.items (sym c.contains.ensures.value ∙ c.if-contains.true) c.loop-drive.invariant

-- src/drives.rt:122:15
pub returns-in_err-label-clause-reads : goal.returns-in_err-label-clause-reads
returns-in_err-label-clause-reads g c =
    let mid = g.B.Bay.state c.loop-drive.bay in
    let after = g.B.Bay.state c.read_label.new.bay in
    read_then (g.B.Bay.state c.args.bay.now) mid after (lost_by c.from_residual.result) c.loop-drive.invariant.read
    (failed_as (Option Label) mid after c.in_err-label.field-0.0 c.from_residual.result c.from_residual.ensures.1 c.in_err-label.ensures.reads)

-- src/drives.rt:118:5
pub loop-drive-preserved : goal.loop-drive-preserved
loop-drive-preserved g c =
    let before = g.B.Bay.state c.args.bay.now in
    let mid = g.B.Bay.state c.loop-drive.bay in
    let after = g.B.Bay.state c.read_label.new.bay in
    let now = c.loop-drive.drives in
    let drive = c.loop-drive.drive-counter in
    let stays : is_among c.args.away.now drive ≡ false = sym c.contains.ensures.value ∙ c.if-contains.false in
    let within : drive < before.shape.devices = omega (arith, c.loop-drive-test.true, c.devices.ensures, c.saturating_sub-drive-end.ensures) in
    let told : (o : Option Label) → c.in_ok-label.field-0 ≡ o → IfSome mid.contents (λ held. o ≡ label_on mid.shape held drive) = λ o is. subst (λ (o : Option Label). IfSome mid.contents (λ held. o ≡ label_on mid.shape held drive)) is c.in_ok-label.ensures.label in
    let told_limits : (l : Label) → c.in_ok-label.field-0 ≡ Some l → IsWithinLimits l.geometry = λ l is. subst (λ (o : Option Label). IfSome o (λ l. IsWithinLimits l.geometry)) is c.in_ok-label.ensures.limits in
    elim c.match-branch-2.branch [
      | in-Some+in_ok-push-in-Some+in_ok-push-in-Some-2 w ↦
          rw (w.drives-is, w.in_ok-push-in-Some.ensures.items, w.in_ok-push-in-Some-2.ensures.items)
          (drive_labelled before mid after c.args.away.now drive now.present.items now.labels.items now.unlabelled.items c.loop-drive.invariant c.in_ok-label.ensures.reads stays w.in-Some.label
          within (told_limits w.in-Some.label w.in-Some.is) (told (Some w.in-Some.label) w.in-Some.is))
      | in-None+in_ok-push-in-None w ↦
          rw (w.drives-is, w.in_ok-push-in-None.ensures.items)
          (drive_bare before mid after c.args.away.now drive now.present.items now.labels.items now.unlabelled.items c.loop-drive.invariant c.in_ok-label.ensures.reads stays (told None w.in-None.is))
    ]
