use Rattle.set_writer.proofs.WriterImages.{firm_members_have_all, append_keeps_firm, firm_is_of_grown, firm_is_of_closed}
use Rattle.set_writer.proofs.images.firm_records_stay.Goals as goal

pub returns-clause-members : goal.returns-clause-members
returns-clause-members g c = λ bay. firm_members_have_all (g.B.Bay.state bay)

pub returns-clause-append : goal.returns-clause-append
returns-clause-append g c = λ old new w es m body t t' held drives count. append_keeps_firm w es m body t t' held (g.B.Bay.state old) (g.B.Bay.state new) drives count

pub returns-clause-closed : goal.returns-clause-closed
returns-clause-closed g c = firm_is_of_closed

pub returns-clause-grown : goal.returns-clause-grown
returns-clause-grown g c = firm_is_of_grown
