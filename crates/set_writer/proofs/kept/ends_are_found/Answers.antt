use Rattle.set_writer.proofs.KeptZones.{written_are_kept, opened_are_kept}
use Rattle.set_writer.proofs.KeptShown.{zones_are_kept}
use Rattle.set_writer.proofs.kept.ends_are_found.Goals as goal

pub returns-clause-written : goal.returns-clause-written
returns-clause-written c = written_are_kept

pub returns-clause-opened : goal.returns-clause-opened
returns-clause-opened c = opened_are_kept

pub returns-clause-seen : goal.returns-clause-seen
returns-clause-seen c = zones_are_kept
