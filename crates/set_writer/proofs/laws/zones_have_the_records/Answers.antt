use Rattle.set_writer.proofs.ZoneRecords.{zone_has_records}
use Rattle.set_writer.proofs.AgreedRecords.{cut_zone_has_first}
use Rattle.set_writer.proofs.laws.zones_have_the_records.Goals as goal

pub returns-clause-all : goal.returns-clause-all
returns-clause-all c = zone_has_records

pub returns-clause-first : goal.returns-clause-first
returns-clause-first c = cut_zone_has_first
