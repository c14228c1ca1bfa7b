use Rattle.set_writer.proofs.ShownFirst.{shown_has_first}
use Rattle.set_writer.proofs.StandReads.{fewer_are_firm, firm_heads_are_carriers}
use Rattle.set_writer.proofs.stands.members_are_found.Goals as goal

pub returns-clause-fewer : goal.returns-clause-fewer
returns-clause-fewer c = fewer_are_firm

pub returns-clause-heads : goal.returns-clause-heads
returns-clause-heads c = firm_heads_are_carriers

pub returns-clause-shown : goal.returns-clause-shown
returns-clause-shown c = shown_has_first
