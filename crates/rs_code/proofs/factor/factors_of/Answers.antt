use Rattle.std.proofs.Common.{◌≢◌, ◌<◌, length, get_or, arith, below_more, get_or-set_other, get_or-set_same}
use Rattle.std.proofs.Math.ListN.{set, length-set}
use Rattle.rs_code.specs.Factor.{IsFactor}
use Rattle.rs_code.proofs.factor.factors_of.Goals as goal

pub loop-i-preserved : goal.loop-i-preserved
loop-i-preserved c =
    let s = c.loop-i in
    let points = c.args.points.now in
    let i = s.i in
    let few = c.requires in
    let lt = c.loop-i-test.true in
    let whole = s.invariant.whole in
    let within : i < length s.factors = omega arith in
    record {
      whole = omega (arith, length-set s.factors i c.factor.result);
      so_far =
          below_more
          (λ k. IsFactor points (get_or points k 0) c.args.want (get_or (set s.factors i c.factor.result) k 0))
          i
          (λ k h. let ne : k ≢ i = omega arith in rw get_or-set_other (s.invariant.so_far k h))
          (rw get_or-set_same (record { is_byte = let fits = c.factor.type_inv in omega arith; quotient = c.factor.ensures }));
    }
