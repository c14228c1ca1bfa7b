use Rattle.rs_code.proofs.Codes.{any_fragments_give_all}
use Rattle.rs_code.proofs.laws.any_fragments.Goals as goal

pub returns : goal.returns
returns c = any_fragments_give_all
