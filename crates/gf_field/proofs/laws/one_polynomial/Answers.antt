use Rattle.gf_field.proofs.Polynomial.{at_most_one_polynomial}
use Rattle.gf_field.proofs.laws.one_polynomial.Goals as goal

pub returns : goal.returns
returns c = at_most_one_polynomial
