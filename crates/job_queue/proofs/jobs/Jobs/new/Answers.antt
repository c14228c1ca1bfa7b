use Rattle.job_queue.proofs.Moves.{begins}
use Rattle.job_queue.proofs.jobs.Jobs.new.Goals as goal

pub ruled-requires-clause-rule : goal.ruled-requires-clause-rule
ruled-requires-clause-rule g c = begins
