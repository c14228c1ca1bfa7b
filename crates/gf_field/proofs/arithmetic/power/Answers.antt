use Rattle.gf_field.proofs.TableFacts.{power_in_table}
use Rattle.gf_field.proofs.arithmetic.power.Goals as goal

pub returns : goal.returns
returns c = power_in_table c.args.exponent c.requires
