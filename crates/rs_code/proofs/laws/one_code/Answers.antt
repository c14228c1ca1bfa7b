use Rattle.rs_code.proofs.Payloads as payloads
use Rattle.rs_code.proofs.laws.one_code.Goals as goal

pub returns : goal.returns
returns c = payloads.one_code
