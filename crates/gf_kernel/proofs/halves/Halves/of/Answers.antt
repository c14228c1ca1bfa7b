use Rattle.std.proofs.Common.{◌≡◌, ◌+◌, ◌/◌, ◌%◌, get_or, ap, ap₂, ◌∙◌, arith}
use Rattle.std.specs.List.{range_with_len}
use Rattle.std.specs.Int.Bits.{bit_xor}
use Rattle.std.proofs.lemmas.Simd.{pick_l_left, pick_l-range_with_len, get_or-chunk}
use Rattle.gf_field.specs.Product.{product}
use Rattle.gf_kernel.specs.declared.halves.TheConstants.{HALF_BYTES}
use Rattle.gf_kernel.proofs.Products.{from_halves}
use Rattle.gf_kernel.proofs.halves.Halves.of.Goals as goal

pub returns : goal.returns
returns c = λ b h.
    let v = c.products_of-products.result in
    let holds = c.products_of-products.ensures in
    let long = holds.long in
    ap₂ bit_xor
    (ap (λ xs. get_or xs (b % 16) 0) (pick_l_left 0 v v 32 (range_with_len 0 16) long tt ∙ pick_l-range_with_len 0 v 0 16 (omega arith))
    ∙ get_or-chunk 0 16 v (b % 16) 0 (omega arith) ∙ holds.each (0 + b % 16) (omega arith)
    ∙ ap (λ k. product c.args.c (get_or HALF_BYTES k 0)) (let e : 0 + b % 16 ≡ b % 16 = omega arith in e))
    (ap (λ xs. get_or xs (b / 16) 0) (pick_l_left 0 v v 32 (range_with_len 16 16) long tt ∙ pick_l-range_with_len 0 v 16 16 (omega arith))
    ∙ get_or-chunk 16 16 v (b / 16) 0 (omega arith) ∙ holds.each (16 + b / 16) (omega arith))
    ∙ from_halves c.args.c b h
