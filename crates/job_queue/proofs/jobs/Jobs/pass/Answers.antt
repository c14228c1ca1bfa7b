use Rattle.std.proofs.Common.{ap}
use Rattle.job_queue.proofs.Moves.{forks}
use Rattle.job_queue.proofs.jobs.Jobs.pass.Goals as goal

pub another-pass-requires-clause-rule : goal.another-pass-requires-clause-rule
another-pass-requires-clause-rule g c = forks _ _ (ap (λ v. v.owner) c.args.self.now.owns)
