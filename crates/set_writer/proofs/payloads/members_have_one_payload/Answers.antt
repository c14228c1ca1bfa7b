use Rattle.set_writer.proofs.CodeLaws.{fragments_are_of_payload}
use Rattle.set_writer.proofs.ReadBack.{carriers_have_one_payload, carriers_have_payloads}
use Rattle.set_writer.proofs.payloads.members_have_one_payload.Goals as goal

pub returns-clause-code : goal.returns-clause-code
returns-clause-code c = fragments_are_of_payload

pub returns-clause-one : goal.returns-clause-one
returns-clause-one c = carriers_have_one_payload

pub returns-clause-all : goal.returns-clause-all
returns-clause-all c = carriers_have_payloads
