use Rattle.array_model.proofs.Cleaning.{shelf_has_all}
use Rattle.array_model.proofs.need_laws.shelf_has_all.Goals as goal

pub returns : goal.returns
returns c = shelf_has_all
