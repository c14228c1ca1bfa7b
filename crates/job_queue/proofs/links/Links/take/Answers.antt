use Rattle.std.proofs.Common.{sym, subst, ◌<◌, length}
use Rattle.job_queue.proofs.Moves.{pops}
use Rattle.job_queue.proofs.links.Links.take.Goals as goal

pub pop_as-requires-clause-rule : goal.pop_as-requires-clause-rule
pop_as-requires-clause-rule g c = (pops _ _ (subst (λ v. 0 < length v.taken) (sym c.loop.invariant.1) c.requires.takes), λ items views k at. tt)
