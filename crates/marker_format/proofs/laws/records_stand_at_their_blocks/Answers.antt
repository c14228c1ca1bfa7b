use Rattle.marker_format.proofs.ZoneLaws.{placed-stand, begun-few}
use Rattle.marker_format.proofs.laws.records_stand_at_their_blocks.Goals as goal

pub returns-clause-stand : goal.returns-clause-stand
returns-clause-stand c = placed-stand

pub returns-clause-few : goal.returns-clause-few
returns-clause-few c = begun-few
