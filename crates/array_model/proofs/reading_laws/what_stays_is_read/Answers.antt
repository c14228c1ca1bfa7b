use Rattle.array_model.proofs.Carriers.{present_stay}
use Rattle.array_model.proofs.SameZones.{left_is_held_before}
use Rattle.array_model.proofs.reading_laws.what_stays_is_read.Goals as goal

pub returns-clause-present : goal.returns-clause-present
returns-clause-present c = present_stay

pub returns-clause-read : goal.returns-clause-read
returns-clause-read c = left_is_held_before
