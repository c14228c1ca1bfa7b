use Rattle.std.proofs.Common.{◌≡◌, length, get_or, ap, ◌∙◌, arith}
use Rattle.rs_code.specs.Factor.{sum_of, weighted_byte}
use Rattle.rs_code.proofs.Sums.{first_weighted, one_more_weighted}
use Rattle.rs_code.proofs.combine.combine_both.Goals as goal

pub loop-i-init : goal.loop-i-init
loop-i-init c =
    let made = c.mul_into_both.ensures in
    let same = c.mul_into_both.auto in
    let needs = c.requires in
    record {
      first = λ x h. first_weighted c.args.factors.now c.args.rows.now c.args.f x _ h (made.first x (omega (arith, same.first, needs.first)));
      second = λ x h. first_weighted c.args.others.now c.args.rows.now c.args.f x _ h (made.second x (omega (arith, same.second, needs.second)));
    }

pub loop-i-preserved : goal.loop-i-preserved
loop-i-preserved c =
    let s = c.loop-i in
    let sums = s.invariant in
    let made = c.mul_add_both.ensures in
    let before = c.mul_into_both.auto in
    let after = c.mul_add_both.auto in
    let needs = c.requires in
    record {
      first = λ x h.
          one_more_weighted c.args.factors.now c.args.rows.now c.args.f x s.i (get_or s.first x 0) _ h (sums.first x h)
          (made.first x (omega (arith, before.first, s.auto.first, after.first, needs.first)));
      second = λ x h.
          one_more_weighted c.args.others.now c.args.rows.now c.args.f x s.i (get_or s.second x 0) _ h (sums.second x h)
          (made.second x (omega (arith, before.second, s.auto.second, after.second, needs.second)));
    }

pub returns : goal.returns
returns c =
    let s = c.loop-i in
    let sums = s.invariant in
    let before = c.mul_into_both.auto in
    let needs = c.requires in
    let all : s.i ≡ length c.args.factors.now = omega (arith, c.loop-i-test.false, s.auto.i-end, needs.some) in
    let as_many : s.i ≡ length c.args.others.now = omega (arith, needs.others, all) in
    record {
      first = λ x h. sums.first x (omega (arith, before.first, s.auto.first, needs.first)) ∙ ap (sum_of (weighted_byte c.args.factors.now c.args.rows.now c.args.f x)) all;
      second = λ x h. sums.second x (omega (arith, before.second, s.auto.second, needs.second)) ∙ ap (sum_of (weighted_byte c.args.others.now c.args.rows.now c.args.f x)) as_many;
    }
