use Rattle.set_writer.proofs.AgreedRecords.{members_have_records, agreed_are_those}
use Rattle.set_writer.proofs.laws.members_agree_on_the_records.Goals as goal

pub returns-clause-members : goal.returns-clause-members
returns-clause-members c = members_have_records

pub returns-clause-agreed : goal.returns-clause-agreed
returns-clause-agreed c = agreed_are_those
