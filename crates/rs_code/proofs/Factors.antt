-- One more point in the numerator and the denominator of a factor.
use Rattle.std.proofs.Common.{◌≡◌, ◌≢◌, ℕ, suc, ◌+◌, ◌<◌, List, [], ◌∷◌, length, get_or, drop, nat_eq, sym, ap, ◌∙◌, subst}
use Rattle.std.proofs.lemmas.Bool.{eq-eqb, ne_eqb, cond-true, cond-false}
use Rattle.std.proofs.lemmas.List.{at_drop_more, get_or-drop}
use Rattle.std.specs.Int.Bits.{bit_xor, xor_lt}
use Rattle.gf_field.specs.Product.{product}
use Rattle.gf_field.specs.Field.{IsByte, AreBytes}
use Rattle.gf_field.proofs.Field.{product_assoc}
use Rattle.rs_code.specs.Factor.{differences}
use Rattle.rs_code.proofs.Interpolation.{differences_is_byte}

pub bytes_by_index : (points : List ℕ) → ((k : ℕ) → IsByte (get_or points k 0)) → AreBytes points
bytes_by_index [] h = tt
bytes_by_index (m ∷ points) h = (h 0, bytes_by_index points (λ k. h (suc k)))

bytes_from : (points : List ℕ) (i : ℕ) → ((k : ℕ) → IsByte (get_or points k 0)) → AreBytes (drop i points)
bytes_from points i h = bytes_by_index (drop i points) (λ k. subst IsByte (sym (get_or-drop i points k 0)) (h (i + k)))

pub one_taken : (points : List ℕ) (own x i a : ℕ) → ((k : ℕ) → IsByte (get_or points k 0)) → i < length points → IsByte x → IsByte a → get_or points i 0 ≢ own
    → product (product a (bit_xor x (get_or points i 0))) (differences (drop (i + 1) points) own x) ≡ product a (differences (drop i points) own x)
one_taken points own x i a h lt hx ha ne =
    let m = get_or points i 0 in
    let rest = differences (drop (i + 1) points) own x in
    product_assoc a (bit_xor x m) rest ha (xor_lt 8 x m hx (h i)) (differences_is_byte (drop (i + 1) points) own x (bytes_from points (i + 1) h) hx)
    ∙ ap (product a)
    (sym (at_drop_more (λ ps. differences ps own x) points i 0 lt
    ∙ cond-false (nat_eq own m) rest (product (bit_xor x m) rest) (ne_eqb own m (λ e. ne (sym e)))))

pub one_passed : (points : List ℕ) (own x i a : ℕ) → i < length points → get_or points i 0 ≡ own
    → product a (differences (drop (i + 1) points) own x) ≡ product a (differences (drop i points) own x)
one_passed points own x i a lt e =
    let m = get_or points i 0 in
    let rest = differences (drop (i + 1) points) own x in
    ap (product a) (sym (at_drop_more (λ ps. differences ps own x) points i 0 lt ∙ cond-true (nat_eq own m) rest (product (bit_xor x m) rest) (eq-eqb own m (sym e))))
