use Rattle.marker_format.proofs.ZoneLaws.{begun-cut, Begin-cut}
use Rattle.marker_format.proofs.laws.cut_zones_have_the_first_records.Goals as goal

pub returns-clause-prefix : goal.returns-clause-prefix
returns-clause-prefix c = begun-cut

pub returns-clause-kept : goal.returns-clause-kept
returns-clause-kept c = Begin-cut
