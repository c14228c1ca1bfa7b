-- The first k indexes, and one more row in a sum of rows.
use Rattle.std.proofs.Common.{◌≡◌, ℕ, ◌+◌, ◌<◌, ◌≤◌, List, length, get_or, take, drop, nat_eq, sym, ap, ◌∙◌, arith}
use Rattle.std.specs.List.{range_with_len}
use Rattle.std.proofs.lemmas.Bool.{ne_eqb}
use Rattle.std.proofs.lemmas.List.{map-id, at_drop_more}
use Rattle.std.proofs.lemmas.List.FromFn.{length-range_with_len, get_or-range_with_len, take-map-range_with_len}
use Rattle.std.proofs.lemmas.Map.Keys.{IsDistinct-from_apart}
use Rattle.std.specs.Int.Bits.{bit_xor, xor_assoc}
use Rattle.gf_field.specs.Product.{product}
use Rattle.rs_code.specs.declared.code.TheConstants.{INDEXES}
use Rattle.rs_code.specs.Fragments.{AreIndexes, sources}
use Rattle.rs_code.proofs.Interpolation.{factor_of, combined}

pub first_indexes : (k : ℕ) → k ≤ 20 → take k INDEXES ≡ sources k
first_indexes k h = take-map-range_with_len (λ i. i) 0 20 k h ∙ map-id (range_with_len 0 k)

-- neighbouring indexes
pub range_is_indexes : (a k n : ℕ) → a + k ≤ n → AreIndexes k n (range_with_len a k)
range_is_indexes a k n h =
    let l = length-range_with_len a k in
    record {
      count = l;
      distinct =
          IsDistinct-from_apart nat_eq (range_with_len a k)
          (λ i j d lt within. ne_eqb (get_or (range_with_len a k) i d) (get_or (range_with_len a k) j d)
          (λ e. let p = get_or-range_with_len a k i d (omega arith) in let q = get_or-range_with_len a k j d (omega arith) in omega arith));
      below = λ i d within. let e = get_or-range_with_len a k i d (omega arith) in omega arith;
    }

pub sources_are_indexes : (k n : ℕ) → k ≤ n → AreIndexes k n (sources k)
sources_are_indexes k n h = range_is_indexes 0 k n (omega arith)

-- what was added, with one more value times its factor, and what is still to be added
pub one_added : (points : List ℕ) (y : ℕ → ℕ) (x i added : ℕ) → i < length points
    → bit_xor (bit_xor added (product (factor_of points (get_or points i 0) x) (y (get_or points i 0)))) (combined points y x (drop (i + 1) points))
    ≡ bit_xor added (combined points y x (drop i points))
one_added points y x i added h =
    let own = get_or points i 0 in
    xor_assoc added (product (factor_of points own x) (y own)) (combined points y x (drop (i + 1) points))
    ∙ ap (bit_xor added) (sym (at_drop_more (combined points y x) points i 0 h))
