use Rattle.gf_field.proofs.TableFacts.{logarithm_small, power_of_logarithm}
use Rattle.gf_field.proofs.arithmetic.logarithm.Goals as goal

pub returns-clause-small : goal.returns-clause-small
returns-clause-small c = logarithm_small c.args.a c.ranges.a.fits

pub returns-clause-value : goal.returns-clause-value
returns-clause-value c = power_of_logarithm c.args.a c.ranges.a.fits c.requires
