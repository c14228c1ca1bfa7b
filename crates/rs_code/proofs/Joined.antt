-- Bytes as their pieces, one behind the other.
use Rattle.std.proofs.Common.{◌≡◌, ℕ, zero, suc, ◌+◌, ◌-◌, ◌*◌, ◌<◌, List, ◌++◌, length, take, drop, sym, ap, ap₂, ◌∙◌, arith}
use Rattle.std.specs.List.{flat_map, range_with_len}
use Rattle.std.proofs.lemmas.List.{drop-drop, length-drop, nil_from_length, take-append-drop}
use Rattle.rs_code.specs.Fragments.{piece}

-- bytes are what their pieces are
pub joined_pieces : (k f from : ℕ) (g : ℕ → List ℕ) (bytes : List ℕ) → length bytes ≡ k * f → ((i : ℕ) → i < k → piece bytes f i ≡ g (from + i)) → bytes ≡ flat_map g (range_with_len from k)
joined_pieces zero f from g bytes size each = nil_from_length bytes (let e : 0 * f ≡ 0 = omega arith in size ∙ e)
joined_pieces (suc k) f from g bytes size each =
    let first : take f bytes ≡ g from =
    ap (λ j. take f (drop j bytes)) (let e : 0 ≡ 0 * f = omega arith in e) ∙ each 0 (omega arith) ∙ ap g (let e : from + 0 ≡ from = omega arith in e) in
    let left : length (drop f bytes) ≡ k * f = length-drop f bytes ∙ ap (λ j. j - f) size ∙ (let e : suc k * f - f ≡ k * f = grind arith in e) in
    let rest : drop f bytes ≡ flat_map g (range_with_len (from + 1) k) = joined_pieces k f (from + 1) g (drop f bytes) left (λ i below.
    ap (take f) (drop-drop (i * f) f bytes ∙ ap (λ j. drop j bytes) (let e : f + i * f ≡ suc i * f = omega arith in e))
    ∙ each (suc i) (omega (arith, below))
    ∙ ap g (let e : from + suc i ≡ from + 1 + i = omega arith in e)) in
    sym (take-append-drop f bytes) ∙ ap₂ (λ (a b : List ℕ). a ++ b) first rest
