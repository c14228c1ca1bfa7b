use Rattle.std.proofs.Common.{◌≡◌}
use Rattle.crossbeam_queue.specs.Passes.{view, IsPassOf}
use Rattle.job_queue.specs.Hands.{closes}
use Rattle.job_queue.proofs.links.Links.close_jobs.Given as goal

abbrev pub invariant-loop : goal.invariant-loop
invariant-loop g l = IsPassOf l.self.queue l.pass.pass × (view l.pass.pass ≡ closes (view l.initial.pass.pass) l.counter)
