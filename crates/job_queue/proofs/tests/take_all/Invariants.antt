use Rattle.std.proofs.Common.{◌≡◌}
use Rattle.job_queue.specs.Hands.{passes_in}
use Rattle.job_queue.specs.Passes.{hand_of, IsJobPassOf}
use Rattle.job_queue.proofs.tests.take_all.Given as goal

abbrev pub invariant-loop : goal.invariant-loop
invariant-loop g l = IsJobPassOf l.links l.pass × (passes_in (hand_of l.pass) ≡ passes_in (hand_of l.initial.pass))
