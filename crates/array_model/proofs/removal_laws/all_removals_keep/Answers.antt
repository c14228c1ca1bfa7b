use Rattle.array_model.proofs.Remains.{holds_of_remains}
use Rattle.array_model.proofs.removal_laws.all_removals_keep.Goals as goal

pub returns : goal.returns
returns g c = λ value array shape lost image. holds_of_remains array shape lost image (g.P.Property.holds value array shape)
