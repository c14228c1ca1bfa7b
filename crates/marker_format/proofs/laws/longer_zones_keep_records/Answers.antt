use Rattle.marker_format.proofs.ZoneLaws.{begun-more, begun-full, Fill-appended}
use Rattle.marker_format.proofs.laws.longer_zones_keep_records.Goals as goal

pub returns-clause-kept : goal.returns-clause-kept
returns-clause-kept c = begun-more

pub returns-clause-all : goal.returns-clause-all
returns-clause-all c = λ array bytes ms fill. begun-full array bytes ms fill.begin fill.full

pub returns-clause-added : goal.returns-clause-added
returns-clause-added c = Fill-appended
