use Rattle.set_writer.proofs.StandSets.{firm_is_left}
use Rattle.set_writer.proofs.stands.firm_sets_are_left.Goals as goal

pub returns : goal.returns
returns g c = λ bay. firm_is_left (g.B.Bay.state bay)
