use Rattle.array_model.proofs.SameZones.{reading_rises}
use Rattle.array_model.proofs.reading_laws.sets_rise.Goals as goal

pub returns : goal.returns
returns c = reading_rises
