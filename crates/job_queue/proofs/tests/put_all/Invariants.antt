use Rattle.std.proofs.Common.{◌≡◌, true}
use Rattle.job_queue.specs.Lists.{marks_of}
use Rattle.job_queue.specs.Hands.{passes_in}
use Rattle.job_queue.specs.Passes.{hand_of, IsJobPassOf}
use Rattle.job_queue.proofs.tests.put_all.Given as goal

abbrev pub invariant-loop-place : goal.invariant-loop-place
invariant-loop-place g l = IsJobPassOf l.links l.pass × ((hand_of l.pass).first ≡ true) × (marks_of (hand_of l.pass).put ≡ 0) × (passes_in (hand_of l.pass) ≡ 1)
