use Rattle.std.proofs.Common.{◌≡◌, length, get_or, ap, ◌∙◌, arith}
use Rattle.rs_code.specs.Factor.{sum_of, weighted_byte}
use Rattle.rs_code.proofs.Sums.{first_weighted, one_more_weighted}
use Rattle.rs_code.proofs.combine.combine.Goals as goal

pub loop-i-init : goal.loop-i-init
loop-i-init c = λ x h.
    let room = c.requires.room in
    let same = c.mul_into.auto.out in
    first_weighted c.args.factors.now c.args.rows.now c.args.f x _ h (c.mul_into.ensures x (omega arith))

pub loop-i-preserved : goal.loop-i-preserved
loop-i-preserved c = λ x h.
    let s = c.loop-i in
    let room = c.requires.room in
    let same = c.mul_into.auto.out in
    let kept = s.auto.out in
    let after = c.mul_add.auto.out in
    one_more_weighted c.args.factors.now c.args.rows.now c.args.f x s.i (get_or s.out x 0) _ h (s.invariant x h) (c.mul_add.ensures x (omega arith))

pub returns : goal.returns
returns c = λ x h.
    let s = c.loop-i in
    let room = c.requires.room in
    let same = c.mul_into.auto.out in
    let kept = s.auto.out in
    let some = c.requires.some in
    let all : s.i ≡ length c.args.factors.now = let ended = c.loop-i-test.false in let within = s.auto.i-end in omega arith in
    s.invariant x (omega arith) ∙ ap (sum_of (weighted_byte c.args.factors.now c.args.rows.now c.args.f x)) all
