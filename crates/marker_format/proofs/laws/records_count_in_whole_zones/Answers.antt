use Rattle.marker_format.proofs.ZoneLaws.{whole_records-first, whole_records-ended, whole_records-none}
use Rattle.marker_format.proofs.laws.records_count_in_whole_zones.Goals as goal

pub returns-clause-first : goal.returns-clause-first
returns-clause-first c = whole_records-first

pub returns-clause-ended : goal.returns-clause-ended
returns-clause-ended c = whole_records-ended

pub returns-clause-none : goal.returns-clause-none
returns-clause-none c = whole_records-none
