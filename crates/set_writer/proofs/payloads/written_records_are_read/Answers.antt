use Rattle.set_writer.proofs.AgreedRead.{agreed_is_read}
use Rattle.set_writer.proofs.CutRead.{records_are_coded, cut_zone_begins, written_is_read}
use Rattle.set_writer.proofs.RecordsRead.{carriers_give_records}
use Rattle.set_writer.proofs.payloads.written_records_are_read.Goals as goal

pub returns-clause-carriers : goal.returns-clause-carriers
returns-clause-carriers c = carriers_give_records

pub returns-clause-coded : goal.returns-clause-coded
returns-clause-coded c = records_are_coded

pub returns-clause-cut : goal.returns-clause-cut
returns-clause-cut c = cut_zone_begins

pub returns-clause-written : goal.returns-clause-written
returns-clause-written c = written_is_read

pub returns-clause-agreed : goal.returns-clause-agreed
returns-clause-agreed c = agreed_is_read
