use Rattle.array_model.proofs.Settled.{cut_reads_the_same, closed_reads_the_same}
use Rattle.array_model.proofs.reading_laws.settled_sets_agree.Goals as goal

pub returns-clause-cut : goal.returns-clause-cut
returns-clause-cut c = cut_reads_the_same

pub returns-clause-closed : goal.returns-clause-closed
returns-clause-closed c = closed_reads_the_same
