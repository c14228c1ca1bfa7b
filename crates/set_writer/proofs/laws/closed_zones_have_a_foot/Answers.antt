use Rattle.set_writer.proofs.ClosedZones.{closed_zone}
use Rattle.set_writer.proofs.laws.closed_zones_have_a_foot.Goals as goal

pub returns : goal.returns
returns c = λ w es index below is wrote. let it = closed_zone w es index below is wrote in (it.0, it.1)
