use Rattle.set_digest.proofs.LineLaws.{lines_are_apart}
use Rattle.set_digest.proofs.ListLaws.{lists_are_apart}
use Rattle.set_digest.proofs.laws.spellings_are_apart.Goals as goal

pub returns-clause-lines : goal.returns-clause-lines
returns-clause-lines c = lines_are_apart

pub returns-clause-lists : goal.returns-clause-lists
returns-clause-lists c = lists_are_apart 0 0
