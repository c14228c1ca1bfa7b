use Rattle.std.proofs.Common.{arith, sym, subst, ap, ◌∙◌}
use Rattle.crossbeam_queue.specs.Passes.{view}
use Rattle.job_queue.specs.Lists.{MayPut}
use Rattle.job_queue.proofs.Moves.{pushes}
use Rattle.job_queue.proofs.links.Links.put.Goals as goal

pub push_as-requires-clause-rule : goal.push_as-requires-clause-rule
push_as-requires-clause-rule g c =
    let may = subst (λ j. MayPut (view c.loop.pass).put j) (sym c.loop.invariant.2) (subst (λ v. MayPut v.put c.args.job) (sym c.loop.invariant.1) c.requires.behind) in
    let laps = c.args.self.now.queue.sized.2 in
    (pushes _ _ _ _ (omega arith) (ap (λ v. v.first) c.loop.invariant.1 ∙ c.requires.first) may, λ items views k at. tt)
