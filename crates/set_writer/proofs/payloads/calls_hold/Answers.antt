use Rattle.set_writer.proofs.SetsRead.{held_by_call}
use Rattle.set_writer.proofs.payloads.calls_hold.Goals as goal

pub returns : goal.returns
returns g c = λ bay. held_by_call (g.B.Bay.state bay)
