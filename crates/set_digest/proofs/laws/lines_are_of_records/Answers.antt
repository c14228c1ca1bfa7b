use Rattle.set_digest.proofs.RecordLaws.{record_has_line, records_are_listed}
use Rattle.set_digest.proofs.laws.lines_are_of_records.Goals as goal

pub returns-clause-record_has : goal.returns-clause-record_has
returns-clause-record_has c = record_has_line

pub returns-clause-listed : goal.returns-clause-listed
returns-clause-listed c = records_are_listed
