use Rattle.set_writer.proofs.WriterImages.{have_all, closed_has_feet, whole_has_records}
use Rattle.set_writer.proofs.ClosingImages.{closed_agree_on_all, records_of_closed}
use Rattle.set_writer.proofs.images.whole_sets_are_left.Goals as goal

pub returns-clause-all : goal.returns-clause-all
returns-clause-all c = have_all

pub returns-clause-feet : goal.returns-clause-feet
returns-clause-feet c = closed_has_feet

pub returns-clause-records : goal.returns-clause-records
returns-clause-records c = whole_has_records

pub returns-clause-closed : goal.returns-clause-closed
returns-clause-closed c = closed_agree_on_all

pub returns-clause-digest : goal.returns-clause-digest
returns-clause-digest c = records_of_closed
