use Rattle.array_model.proofs.Fragments.{carriers_give_payload}
use Rattle.array_model.proofs.Payloads.{payload_is_read}
use Rattle.array_model.proofs.reading_laws.payloads_are_read.Goals as goal

pub returns-clause-any : goal.returns-clause-any
returns-clause-any c = payload_is_read

pub returns-clause-carriers : goal.returns-clause-carriers
returns-clause-carriers c = carriers_give_payload
