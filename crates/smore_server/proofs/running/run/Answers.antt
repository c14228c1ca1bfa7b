use Rattle.std.proofs.Common.{sym, ap, ◌∙◌}
use Rattle.smore_top.specs.End.{status_of, end_of}
use Rattle.smore_server.proofs.running.run.Goals as goal

pub returns-clause-words : goal.returns-clause-words
returns-clause-words g c = (
  λ is. c.run_batch-outcome.ensures.words.0 (ap end_of is),
  λ none. sym c.run_batch-outcome.ensures.known ∙ ap status_of (c.run_batch-outcome.ensures.words.1 none),
)
