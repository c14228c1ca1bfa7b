-- What clauses say of a queue.
use Rattle.std.specs.Prelude.{ℕ}
use Rattle.crossbeam_queue.specs.Passes.{view, ruled_capacity}
use Rattle.job_queue.specs.declared.jobs.Jobs.{Jobs}
use Rattle.job_queue.specs.declared.links.Links.{Links}

module _ {L : Type 0} where
  -- how many links and closing marks have room in it
  abbrev pub capacity_of : Jobs L → ℕ
  capacity_of jobs = ruled_capacity jobs.links.queue

  -- how many passes were made
  abbrev pub made_by : Jobs L → ℕ
  made_by jobs = (view jobs.owner).made

  -- what threads share of it
  abbrev pub shared_of : Jobs L → Links L
  shared_of jobs = jobs.links
