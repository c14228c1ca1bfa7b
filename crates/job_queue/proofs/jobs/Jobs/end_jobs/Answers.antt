use Rattle.std.proofs.Common.{arith}
use Rattle.job_queue.proofs.Moves.{merges, learns}
use Rattle.job_queue.proofs.Counts.{all_in, ending}
use Rattle.job_queue.proofs.jobs.Jobs.end_jobs.Goals as goal

pub absorb-requires-clause-rule : goal.absorb-requires-clause-rule
absorb-requires-clause-rule g c = merges _ _ _ _

pub learn_as-requires-clause-rule : goal.learn_as-requires-clause-rule
learn_as-requires-clause-rule g c = let h = all_in _ _ _ c.absorb.ensures.rule c.args.pass.none_made c.args.self.owns c.requires.all c.args.pass.takes in learns _ _ h.0 h.1 h.2

pub returns : goal.returns
returns g c = ending _ _ _ c.learn_as.ensures.rule.0 _ c.absorb.ensures.rule c.args.self.owns c.learn_as.ensures.rule.1 (omega arith) c.args.pass.counted
