-- The sum of fragments by their factors is the wanted one.
use Rattle.std.proofs.Common.{◌≡◌, ℕ, zero, suc, ◌<◌, ◌≤◌, List, length, get_or, drop, refl, sym, ap, ap₂, ◌∙◌, arith}
use Rattle.std.proofs.Math.Numerals.{add-one}
use Rattle.std.proofs.lemmas.List.{drop_all}
use Rattle.std.specs.Int.Bits.{bit_xor, xor_zero_r}
use Rattle.gf_field.specs.Product.{product}
use Rattle.gf_field.specs.Field.{IsByte}
use Rattle.rs_code.specs.Factor.{AreFactors, sum_of, weighted_byte}
use Rattle.rs_code.specs.Fragments.{GivesFragment, AreIndexes}
use Rattle.rs_code.proofs.Interpolation.{factor_of, factor_is, combined}
use Rattle.rs_code.proofs.Codes.{byte_of, byte_from_points, fragment_is, indexes_are_bytes, get_or-piece}
use Rattle.rs_code.proofs.Sources.{one_added}

module _ (points : List ℕ) (y : ℕ → ℕ) (x : ℕ) (value : ℕ → ℕ)
    (weighted : (i : ℕ) → i < length points → value i ≡ product (factor_of points (get_or points i 0) x) (y (get_or points i 0))) where
  -- what was added, and what is still to be added
  added_so_far : (i : ℕ) → i ≤ length points → bit_xor (sum_of value i) (combined points y x (drop i points)) ≡ combined points y x points
  added_so_far zero h = refl
  added_so_far (suc i) h =
      ap₂ bit_xor (ap (bit_xor (sum_of value i)) (weighted i h)) (ap (λ n. combined points y x (drop n points)) (sym (add-one i)))
      ∙ one_added points y x i (sum_of value i) h
      ∙ added_so_far i (omega arith)

  sum_is_combined : sum_of value (length points) ≡ combined points y x points
  sum_is_combined =
      sym (xor_zero_r (sum_of value (length points)))
      ∙ ap (λ rest. bit_xor (sum_of value (length points)) (combined points y x rest)) (sym (drop_all (length points) points (omega arith)))
      ∙ added_so_far (length points) (omega arith)

-- A row whose bytes are these sums is the wanted fragment.
pub given_by_sums : (k n f : ℕ) (points rows factors out : List ℕ) (want : ℕ) → n ≤ 256 → AreIndexes k n points → want < n
    → AreFactors points want factors → length factors ≡ k → length out ≡ f
    → ((c : ℕ) → c < length out → get_or out c 0 ≡ sum_of (weighted_byte factors rows f c) (length factors))
    → GivesFragment k n f points rows want out
unfolding byte_of
given_by_sums k n f points rows factors out want small indexes within are all room sums = λ fragments code held.
    let count = indexes.count in
    let points_are_bytes = indexes_are_bytes k n points small indexes in
    let want_is_byte : IsByte want = omega arith in
    fragment_is k n f fragments want out code within room
    (λ c hc.
    sums c (omega arith)
    ∙ ap (sum_of (weighted_byte factors rows f c)) (all ∙ sym count)
    ∙ sum_is_combined points (byte_of fragments c) want (weighted_byte factors rows f c)
    (λ i hi.
    let own_is_byte : IsByte (get_or points i 0) = let below = indexes.below i 0 hi in omega arith in
    ap₂ product
    (factor_is points (get_or points i 0) want (get_or factors i 0) points_are_bytes own_is_byte want_is_byte (are i hi).is_byte (are i hi).quotient)
    (sym (get_or-piece f i c rows hc) ∙ ap (λ row. get_or row c 0) (held i hi)))
    ∙ byte_from_points k n f points fragments want c small indexes code within hc)
