use Rattle.std.proofs.Common.{sym, ◌∙◌}
use Rattle.crossbeam_queue.specs.Passes.{view}
use Rattle.job_queue.proofs.Counts.{sound_some, sound_none}
use Rattle.job_queue.proofs.links.Links.take_link.Goals as goal

pub invariant_of-pass : goal.invariant_of-pass
invariant_of-pass g c =
    let s = sound_some (view c.args.pass.now.pass) (view c.take-job.new.pass) c.take-job.result c.args.pass.now.ahead (let p = c.args.pass.now in record { counted = p.counted; takes = p.takes; apart = p.apart; none_made = p.none_made }) (sym c.is_some.ensures ∙ c.if-is_some.true) c.take-job.ensures.taken in
    record { counted = s.counted; takes = s.takes; apart = s.apart; none_made = s.none_made }

pub invariant_of-pass-else-is_some : goal.invariant_of-pass-else-is_some
invariant_of-pass-else-is_some g c =
    let s = sound_none (view c.args.pass.now.pass) (view c.take-job.new.pass) c.take-job.result c.args.pass.now.ahead (let p = c.args.pass.now in record { counted = p.counted; takes = p.takes; apart = p.apart; none_made = p.none_made }) (sym c.is_some.ensures ∙ c.if-is_some.false) c.take-job.ensures.taken in
    record { counted = s.counted; takes = s.takes; apart = s.apart; none_made = s.none_made }
