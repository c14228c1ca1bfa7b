-- What clauses say of the passes of a queue.
use Rattle.crossbeam_queue.specs.Passes.{view, IsPassOf}
use Rattle.job_queue.specs.declared.hand.Hand.{Hand}
use Rattle.job_queue.specs.declared.links.Links.{Links}
use Rattle.job_queue.specs.declared.pass.JobPass.{JobPass}

module _ {L : Type 0} where
  -- what a pass knows
  abbrev pub hand_of : JobPass L → Hand L
  hand_of p = view p.pass

  -- it is a pass of this queue
  abbrev pub IsJobPassOf : Links L → JobPass L → Type 0
  IsJobPassOf links p = IsPassOf links.queue p.pass
