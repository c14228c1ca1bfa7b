use Rattle.crossbeam_queue.specs.Passes.{view}
use Rattle.job_queue.proofs.Counts.{sound_mark}
use Rattle.job_queue.proofs.links.Links.close_jobs.Goals as goal

pub invariant_of-pass : goal.invariant_of-pass
invariant_of-pass g c =
    let p = c.loop.pass in
    let s = sound_mark (view p.pass) (view c.put.new.pass) p.ahead (record { counted = p.counted; takes = p.takes; apart = p.apart; none_made = p.none_made }) c.put.ensures.put in
    record { counted = s.counted; takes = s.takes; apart = s.apart; none_made = s.none_made }
