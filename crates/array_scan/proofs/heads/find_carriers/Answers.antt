use Rattle.std.proofs.Common.{◌+◌, List, sym, ap, ◌∙◌, subst}
use Rattle.array_scan.specs.declared.set_read.Carrier.{Carrier}
use Rattle.array_scan.proofs.HeadLaws.{Found, found_more, found_past}
use Rattle.array_scan.proofs.heads.find_carriers.Goals as goal
use Rattle.array_scan.proofs.heads.find_carriers.Goals.{in-Some+in_ok-push, in_default}

pub loop-index-preserved : goal.loop-index-preserved
loop-index-preserved c =
    let heads = c.args.heads.now in
    let set = c.args.set in
    let index = c.loop-index.index in
    elim c.match-find_place.branch [
      | in-Some+in_ok-push w ↦
          subst (λ (l : List Carrier). Found heads set (index + 1) l) (sym (ap (λ v. v.items) w.carriers-is ∙ w.in_ok-push.ensures.items))
          (found_more heads set index c.loop-index.carriers.items w.in-Some.place (sym c.find_place.ensures.found ∙ w.in-Some.is) c.loop-index.invariant)
      | in_default w ↦
          subst (λ (l : List Carrier). Found heads set (index + 1) l) (sym (ap (λ v. v.items) w.carriers-is))
          (found_past heads set index c.loop-index.carriers.items (sym c.find_place.ensures.found ∙ w.in_default.is) c.loop-index.invariant)
    ]
