use Rattle.std.proofs.Common.{ℕ, List, sym, subst}
use Rattle.std.proofs.lemmas.List.{take_more}
use Rattle.array_scan.specs.SetRead.{array_by}
use Rattle.array_scan.proofs.HeadLaws.{DrivesRead, drives_more}
use Rattle.array_scan.proofs.heads.read_heads.Goals as goal

pub loop-drive-preserved : goal.loop-drive-preserved
loop-drive-preserved g c =
    let before = g.B.Bay.state c.args.bay.now in
    let mid = g.B.Bay.state c.loop-drive.bay in
    let after = g.B.Bay.state c.read_drive_heads.new.bay in
    let array = array_by c.args.label.now in
    let e = take_more c.args.drives.now c.loop-drive.drive-index 0 c.loop-drive-test.true in
    subst (λ (ds : List ℕ). DrivesRead array before after ds c.read_drive_heads.new.heads.items) (sym e)
    (drives_more array before mid after _ _ c.loop-drive.heads.items c.read_drive_heads.new.heads.items c.loop-drive.invariant c.in_ok-read_drive_heads.ensures.reads c.in_ok-read_drive_heads.ensures.within c.in_ok-read_drive_heads.ensures.heads)
