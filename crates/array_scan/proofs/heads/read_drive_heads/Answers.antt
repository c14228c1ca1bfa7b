use Rattle.std.proofs.Common.{◌≡◌, ◌+◌, ◌<◌, List, Option, Some, None, IfSome, sym, ap, ◌∙◌, subst, append-nil, arith}
use Rattle.marker_format.specs.declared.marker.Marker.{Marker}
use Rattle.array_model.specs.Drives.{Place, head_at}
use Rattle.array_scan.specs.declared.heads.HeadAt.{HeadAt}
use Rattle.array_scan.specs.SetRead.{array_by}
use Rattle.array_scan.proofs.HeadLaws.{DriveRead, drive_more}
use Rattle.array_scan.proofs.heads.read_drive_heads.Goals as goal
use Rattle.array_scan.proofs.heads.read_drive_heads.Goals.{in-Some+in_ok-push, in_default}

pub loop-zone-preserved : goal.loop-zone-preserved
loop-zone-preserved g c =
    let before = g.B.Bay.state c.args.bay.now in
    let mid = g.B.Bay.state c.loop-zone.bay in
    let after = g.B.Bay.state c.read_head.new.bay in
    let array = array_by c.args.label.now in
    let first = c.args.heads.now.items in
    let heads = c.loop-zone.heads.items in
    let zone = c.loop-zone.zone in
    let here : Place = record { device = c.args.device; zone = zone } in
    let within : zone < before.shape.zones = omega (arith, c.loop-zone-test.true, c.zones-zone-end.ensures) in
    elim c.match-branch-2.branch [
      | in-Some+in_ok-push w ↦
          subst (λ (l : List HeadAt). DriveRead array c.args.device before after first l (zone + 1)) (sym (ap (λ v. v.items) w.heads-is ∙ w.in_ok-push.ensures.items))
          (drive_more array c.args.device before mid after first heads zone (Some w.in-Some.head) c.requires.device c.loop-zone.invariant within c.in_ok-head.ensures.reads
          (subst (λ (o : Option Marker). IfSome mid.contents (λ held. o ≡ head_at array held here)) w.in-Some.is c.in_ok-head.ensures.head))
      | in_default w ↦
          subst (λ (l : List HeadAt). DriveRead array c.args.device before after first l (zone + 1)) (append-nil heads ∙ sym (ap (λ v. v.items) w.heads-is))
          (drive_more array c.args.device before mid after first heads zone None c.requires.device c.loop-zone.invariant within c.in_ok-head.ensures.reads
          (subst (λ (o : Option Marker). IfSome mid.contents (λ held. o ≡ head_at array held here)) w.in_default.is c.in_ok-head.ensures.head))
    ]
