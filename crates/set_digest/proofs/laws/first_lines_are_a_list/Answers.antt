use Rattle.set_digest.proofs.ListLaws.{first_are_list}
use Rattle.set_digest.proofs.laws.first_lines_are_a_list.Goals as goal

pub returns : goal.returns
returns c = first_are_list 0 0
