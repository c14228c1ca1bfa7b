use Rattle.std.proofs.Common.{◌∙◌, sym, ap}
use Rattle.gf_field.specs.Product.{product}
use Rattle.gf_field.proofs.Linear.{product-zero_left}
use Rattle.gf_field.proofs.Field.{quotient_by_powers}
use Rattle.gf_field.proofs.arithmetic.div.Goals as goal

pub returns-then-a-eq0 : goal.returns-then-a-eq0
returns-then-a-eq0 c = product-zero_left c.args.b ∙ sym c.if-a-eq0.true

pub returns : goal.returns
returns c =
    ap (λ t. product t c.args.b) c.power.ensures
    ∙ quotient_by_powers c.logarithm.result c.logarithm-2.result c.args.a c.args.b c.logarithm-2.ensures.small c.logarithm.ensures.value c.logarithm-2.ensures.value c.ranges.a.fits
