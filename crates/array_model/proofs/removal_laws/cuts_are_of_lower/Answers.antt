use Rattle.array_model.proofs.CutsRead.{cuts_read_are_of_lower}
use Rattle.array_model.proofs.removal_laws.cuts_are_of_lower.Goals as goal

pub returns : goal.returns
returns c = cuts_read_are_of_lower
