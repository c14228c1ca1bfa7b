use Rattle.std.proofs.Common.{◌≡◌, ℕ, ◌+◌, ◌<◌, ◌≤◌, List, length, get_or, drop, sym, ap, ◌∙◌, arith, subst}
use Rattle.std.proofs.lemmas.List.{drop_all}
use Rattle.gf_field.specs.Product.{product}
use Rattle.gf_field.specs.Field.{IsByte}
use Rattle.gf_field.proofs.Field.{product-one_left, product-one_right}
use Rattle.rs_code.specs.Factor.{differences}
use Rattle.rs_code.proofs.Interpolation.{differences_is_byte, differences-own_nonzero}
use Rattle.rs_code.proofs.Factors.{bytes_by_index, one_taken, one_passed}
use Rattle.rs_code.proofs.factor.factor.Goals as goal
use Rattle.rs_code.proofs.factor.factor.Goals.{then-m-own, else-m-own}

pub loop-m-init : goal.loop-m-init
loop-m-init c =
    let h : (k : ℕ) → IsByte (get_or c.args.points.now k 0) = λ k. let f = c.type_inv.points k in omega arith in
    let bytes = bytes_by_index c.args.points.now h in
    let own : IsByte c.args.own = let f = c.ranges.own in omega arith in
    let want : IsByte c.args.want = let f = c.ranges.want in omega arith in
    record {
      above_is_byte = omega arith;
      below_is_byte = omega arith;
      above = product-one_left (differences c.args.points.now c.args.own c.args.want) (differences_is_byte c.args.points.now c.args.own c.args.want bytes want);
      below = product-one_left (differences c.args.points.now c.args.own c.args.own) (differences_is_byte c.args.points.now c.args.own c.args.own bytes own);
    }

pub loop-m-preserved : goal.loop-m-preserved
loop-m-preserved c =
    let points = c.args.points.now in
    let i = c.loop-m.m-index in
    let h : (k : ℕ) → IsByte (get_or points k 0) = λ k. let f = c.type_inv.points k in omega arith in
    let lt : i < length points = c.loop-m-test.true in
    let own : IsByte c.args.own = let f = c.ranges.own in omega arith in
    let want : IsByte c.args.want = let f = c.ranges.want in omega arith in
    let kept = c.loop-m.invariant in
    elim c.if-m-own.branch [
      | then-m-own w ↦ record {
        above_is_byte = omega arith;
        below_is_byte = omega arith;
        above =
            ap (λ a. product a (differences (drop (i + 1) points) c.args.own c.args.want)) (w.above-is ∙ w.mul-above.ensures)
            ∙ one_taken points c.args.own c.args.want i c.loop-m.above h lt want kept.above_is_byte w.if-m-own.true ∙ kept.above;
        below =
            ap (λ a. product a (differences (drop (i + 1) points) c.args.own c.args.own)) (w.below-is ∙ w.mul-below.ensures)
            ∙ one_taken points c.args.own c.args.own i c.loop-m.below h lt own kept.below_is_byte w.if-m-own.true ∙ kept.below;
      }
      | else-m-own w ↦ record {
        above_is_byte = subst IsByte (sym w.above-is) kept.above_is_byte;
        below_is_byte = subst IsByte (sym w.below-is) kept.below_is_byte;
        above =
            ap (λ a. product a (differences (drop (i + 1) points) c.args.own c.args.want)) w.above-is
            ∙ one_passed points c.args.own c.args.want i c.loop-m.above lt w.if-m-own.false ∙ kept.above;
        below =
            ap (λ a. product a (differences (drop (i + 1) points) c.args.own c.args.own)) w.below-is
            ∙ one_passed points c.args.own c.args.own i c.loop-m.below lt w.if-m-own.false ∙ kept.below;
      }
    ]

-- the value of the product over no points
over_none : (points : List ℕ) (i own x a : ℕ) → length points ≤ i → IsByte a → product a (differences (drop i points) own x) ≡ a
over_none points i own x a h ha = ap (λ ps. product a (differences ps own x)) (drop_all i points h) ∙ product-one_right a ha

pub div-requires : goal.div-requires
div-requires c =
    let points = c.args.points.now in
    let h : (k : ℕ) → IsByte (get_or points k 0) = λ k. let f = c.type_inv.points k in omega arith in
    let own : IsByte c.args.own = let f = c.ranges.own in omega arith in
    let below = c.loop-m.invariant.below in
    let none = over_none points c.loop-m.m-index c.args.own c.args.own c.loop-m.below (omega arith) c.loop-m.invariant.below_is_byte in
    λ e. differences-own_nonzero points c.args.own (bytes_by_index points h) own (sym below ∙ none ∙ e)

pub returns : goal.returns
returns c =
    let points = c.args.points.now in
    let kept = c.loop-m.invariant in
    let above = over_none points c.loop-m.m-index c.args.own c.args.want c.loop-m.above (omega arith) kept.above_is_byte in
    let below = over_none points c.loop-m.m-index c.args.own c.args.own c.loop-m.below (omega arith) kept.below_is_byte in
    ap (product c.div.result) (sym kept.below ∙ below) ∙ c.div.ensures ∙ sym above ∙ kept.above
