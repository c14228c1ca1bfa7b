use Rattle.std.proofs.Common.{◌≡◌, ◌+◌, ◌/◌, ◌%◌, ◌^◌, get_or, replicate, refl, sym, ap, ◌∙◌, arith, subst}
use Rattle.std.specs.Int.Bits.{bit_xor}
use Rattle.std.proofs.lemmas.Nat.{and_mask}
use Rattle.gf_field.specs.Product.{product}
use Rattle.gf_field.specs.Power.{power_of_two}
use Rattle.gf_field.proofs.Linear.{product-zero_left}
use Rattle.gf_kernel.specs.Lanes.{HasLanes}
use Rattle.gf_kernel.specs.declared.halves.TheConstants.{HALF_BYTES}
use Rattle.gf_kernel.proofs.LaneLemmas.{HasLanes-own, HasLanes-splat, HasLanes-zip2, HasLanes-same}
use Rattle.gf_kernel.proofs.Products.{doubled_not_at_all, doubled_once_more, bit_is_one, bit_is_zero, half_is_byte}
use Rattle.gf_kernel.proofs.halves.products_of.Goals as goal
use Rattle.gf_kernel.proofs.halves.products_of.Goals.{then-c-place-eq1, else-c-place-eq1}

pub loop-place-init : goal.loop-place-init
loop-place-init c = record {
  within = omega arith;
  doubled =
      HasLanes-same 32 HALF_BYTES (λ k. get_or HALF_BYTES k 0) (λ k. product (power_of_two 0) (get_or HALF_BYTES k 0)) (HasLanes-own 32 HALF_BYTES refl)
      (λ k l. sym (doubled_not_at_all (get_or HALF_BYTES k 0) (half_is_byte k l)));
  summed =
      HasLanes-same 32 (replicate 32 0) (λ k. 0) (λ k. product (c.args.c % 2 ^ 0) (get_or HALF_BYTES k 0)) (HasLanes-splat 32 0)
      (λ k l. sym (ap (λ n. product n (get_or HALF_BYTES k 0)) (let e : c.args.c % 2 ^ 0 ≡ 0 = omega arith in e) ∙ product-zero_left (get_or HALF_BYTES k 0)));
}

pub loop-place-preserved : goal.loop-place-preserved
loop-place-preserved c =
    let s = c.loop-place in
    let i = s.place in
    let kept = s.invariant in
    let lt = c.loop-place-test.true in
    let twice = c.double-doubled.ensures in
    record {
      within = omega arith;
      doubled =
          HasLanes-same 32 c.double-doubled.result (λ k. product 2 (get_or s.doubled k 0)) (λ k. product (power_of_two (i + 1)) (get_or HALF_BYTES k 0)) twice
          (λ k l. ap (product 2) (kept.doubled.each k l) ∙ doubled_once_more i (get_or HALF_BYTES k 0) (half_is_byte k l));
      summed = elim c.if-c-place-eq1.branch [
        | then-c-place-eq1 w ↦
            subst (λ v. HasLanes 32 v (λ k. product (c.args.c % 2 ^ (i + 1)) (get_or HALF_BYTES k 0))) (sym w.sum-is)
            (HasLanes-same 32 _ (λ k. bit_xor (product (c.args.c % 2 ^ i) (get_or HALF_BYTES k 0)) (product (power_of_two i) (get_or HALF_BYTES k 0))) (λ k. product (c.args.c % 2 ^ (i + 1)) (get_or HALF_BYTES k 0))
            (HasLanes-zip2 32 bit_xor s.sum s.doubled (λ k. product (c.args.c % 2 ^ i) (get_or HALF_BYTES k 0)) (λ k. product (power_of_two i) (get_or HALF_BYTES k 0)) kept.summed kept.doubled)
            (λ k l. sym (bit_is_one c.args.c (get_or HALF_BYTES k 0) i lt (sym (and_mask (c.args.c / 2 ^ i) 1) ∙ w.if-c-place-eq1.true))))
        | else-c-place-eq1 w ↦
            subst (λ v. HasLanes 32 v (λ k. product (c.args.c % 2 ^ (i + 1)) (get_or HALF_BYTES k 0))) (sym w.sum-is)
            (HasLanes-same 32 s.sum (λ k. product (c.args.c % 2 ^ i) (get_or HALF_BYTES k 0)) (λ k. product (c.args.c % 2 ^ (i + 1)) (get_or HALF_BYTES k 0)) kept.summed
            (λ k l. sym (bit_is_zero c.args.c (get_or HALF_BYTES k 0) i (let e = and_mask (c.args.c / 2 ^ i) 1 in let n = w.if-c-place-eq1.false in omega arith))))
      ];
    }

pub returns : goal.returns
returns c =
    let s = c.loop-place in
    let kept = s.invariant in
    let all : c.args.c % 2 ^ s.place ≡ c.args.c =
    ap (λ n. c.args.c % 2 ^ n) (let e : s.place ≡ 8 = omega (arith, kept.within, c.loop-place-test.false) in e) ∙ (let f = c.ranges.c.fits in omega arith)
    in
    subst (λ n. HasLanes 32 s.sum (λ k. product n (get_or HALF_BYTES k 0))) all kept.summed
