use Rattle.std.proofs.Common.{◌∙◌, ap}
use Rattle.gf_field.specs.Product.{product}
use Rattle.gf_field.proofs.Field.{inverse_by_powers}
use Rattle.gf_field.proofs.arithmetic.inv.Goals as goal

pub returns : goal.returns
returns c =
    ap (product c.args.a) c.power.ensures
    ∙ inverse_by_powers c.logarithm.result c.args.a c.logarithm.ensures.small c.logarithm.ensures.value
