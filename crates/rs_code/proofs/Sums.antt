-- One more row in a sum of rows.
use Rattle.std.proofs.Common.{◌≡◌, ℕ, ◌+◌, ◌-◌, ◌*◌, ◌<◌, List, get_or, take, drop, sym, ap, ap₂, ◌∙◌, arith}
use Rattle.std.proofs.Math.Numerals.{add-one}
use Rattle.std.proofs.lemmas.List.{get_or-take, get_or-drop}
use Rattle.std.specs.Int.Bits.{bit_xor}
use Rattle.gf_field.specs.Product.{product}
use Rattle.rs_code.specs.Factor.{sum_of, weighted_byte}

pub first_weighted : (factors rows : List ℕ) (f c byte : ℕ) → c < f → byte ≡ product (get_or factors 0 0) (get_or (take f rows) c 0)
    → byte ≡ sum_of (weighted_byte factors rows f c) 1
first_weighted factors rows f c byte h e =
    e ∙ ap (product (get_or factors 0 0)) (get_or-take f rows c 0 h ∙ ap (λ n. get_or rows n 0) (let p : c ≡ 0 * f + c = omega arith in p))

pub one_more_weighted : (factors rows : List ℕ) (f c i before after : ℕ) → c < f → before ≡ sum_of (weighted_byte factors rows f c) i
    → after ≡ bit_xor before (product (get_or factors i 0) (get_or (take (i * f + f - i * f) (drop (i * f) rows)) c 0))
    → after ≡ sum_of (weighted_byte factors rows f c) (i + 1)
one_more_weighted factors rows f c i before after h b a =
    a
    ∙ ap₂ bit_xor b (ap (product (get_or factors i 0)) (get_or-take (i * f + f - i * f) (drop (i * f) rows) c 0 (omega arith) ∙ get_or-drop (i * f) rows c 0))
    ∙ ap (sum_of (weighted_byte factors rows f c)) (sym (add-one i))
