use Rattle.std.proofs.Common.{◌∙◌, sym, ap, inl, inr}
use Rattle.gf_field.specs.Product.{product}
use Rattle.gf_field.proofs.Linear.{product-zero_left, product-zero_right}
use Rattle.gf_field.proofs.Field.{product_of_powers}
use Rattle.gf_field.proofs.arithmetic.mul.Goals as goal

pub returns-then-a-eq0 : goal.returns-then-a-eq0
returns-then-a-eq0 c =
    elim c.then-a-eq0.either [
      | inl e ↦ sym (ap (λ t. product t c.args.b) e ∙ product-zero_left c.args.b)
      | inr e ↦ sym (ap (product c.args.a) e.1 ∙ product-zero_right c.args.a)
    ]

pub returns : goal.returns
returns c =
    c.power.ensures ∙ product_of_powers c.logarithm.result c.logarithm-2.result c.args.a c.args.b c.logarithm.ensures.value c.logarithm-2.ensures.value
