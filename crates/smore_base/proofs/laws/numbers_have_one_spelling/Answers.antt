use Rattle.smore_base.proofs.BigEndianLaws.{exact8, exact16, exact32, exact64}
use Rattle.smore_base.proofs.laws.numbers_have_one_spelling.Goals as goal

pub returns-clause-one : goal.returns-clause-one
returns-clause-one c = exact8

pub returns-clause-two : goal.returns-clause-two
returns-clause-two c = exact16

pub returns-clause-four : goal.returns-clause-four
returns-clause-four c = exact32

pub returns-clause-eight : goal.returns-clause-eight
returns-clause-eight c = exact64
