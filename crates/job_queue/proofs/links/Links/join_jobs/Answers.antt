use Rattle.std.proofs.Common.{◌∙◌}
use Rattle.crossbeam_queue.specs.Passes.{view}
use Rattle.job_queue.proofs.Moves.{merges, learns_order}
use Rattle.job_queue.proofs.Counts.{sound_join}
use Rattle.job_queue.proofs.links.Links.join_jobs.Goals as goal

pub absorb-requires-clause-rule : goal.absorb-requires-clause-rule
absorb-requires-clause-rule g c = merges _ _ _ _

pub invariant_of-pass : goal.invariant_of-pass
invariant_of-pass g c =
    let s = sound_join (view c.args.pass.now.pass) (view c.args.other.pass) (view c.learn_as.new.pass) c.args.pass.now.ahead c.args.other.ahead (let p = c.args.pass.now in record { counted = p.counted; takes = p.takes; apart = p.apart; none_made = p.none_made }) (let p = c.args.other in record { counted = p.counted; takes = p.takes; apart = p.apart; none_made = p.none_made }) (c.learn_as.ensures.queue.1 ∙ c.absorb.ensures.rule) in
    record { counted = s.counted; takes = s.takes; apart = s.apart; none_made = s.none_made }

pub learn_as-requires-clause-rule : goal.learn_as-requires-clause-rule
learn_as-requires-clause-rule g c = learns_order _ _
