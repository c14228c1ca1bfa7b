use Rattle.set_tests.proofs.WrittenLaws.{written_stands, written_is_read_back}
use Rattle.set_tests.proofs.laws.written_records_are_read_back.Goals as goal

pub returns-clause-stands : goal.returns-clause-stands
returns-clause-stands c = written_stands

pub returns-clause-payload : goal.returns-clause-payload
returns-clause-payload c = written_is_read_back
