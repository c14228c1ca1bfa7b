use Rattle.std.proofs.Common.{◌+◌, get_or, sym, subst}
use Rattle.gf_kernel.specs.Rows.{kept}
use Rattle.gf_kernel.specs.Lanes.{HasLanes}
use Rattle.gf_kernel.proofs.LaneLemmas.{HasLanes-splat}
use Rattle.gf_kernel.proofs.lanes.load_kept.Goals as goal
use Rattle.gf_kernel.proofs.lanes.load_kept.Goals.{then-keep, else-keep}

pub returns : goal.returns
returns c =
    let row = c.args.row.now in
    let at = c.args.at in
    elim c.if-keep.branch [
      | then-keep w ↦
          subst (λ keep. HasLanes 32 c.if-keep.result (λ k. kept keep (get_or row (at + k) 0))) (sym w.if-keep.true)
          (subst (λ v. HasLanes 32 v (λ k. get_or row (at + k) 0)) (sym w.result-is) w.load.ensures)
      | else-keep w ↦
          subst (λ keep. HasLanes 32 c.if-keep.result (λ k. kept keep (get_or row (at + k) 0))) (sym w.if-keep.false)
          (subst (λ v. HasLanes 32 v (λ k. 0)) (sym w.result-is) (HasLanes-splat 32 0))
    ]
