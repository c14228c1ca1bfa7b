use Rattle.crossbeam_queue.specs.Passes.{view}
use Rattle.job_queue.proofs.Counts.{sound_put}
use Rattle.job_queue.proofs.links.Links.put_link.Goals as goal

pub invariant_of-pass : goal.invariant_of-pass
invariant_of-pass g c =
    let s = sound_put (view c.args.pass.now.pass) (view c.put.new.pass) (c.args.place, c.args.link) c.args.pass.now.ahead (let p = c.args.pass.now in record { counted = p.counted; takes = p.takes; apart = p.apart; none_made = p.none_made }) c.put.ensures.put in
    record { counted = s.counted; takes = s.takes; apart = s.apart; none_made = s.none_made }
