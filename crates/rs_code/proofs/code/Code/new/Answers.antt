use Rattle.std.proofs.Common.{◌≢◌, ◌+◌, ◌<◌, [], length, get_or, take, subst, arith, below_more, get_or-set_other, get_or-set_same}
use Rattle.std.proofs.Math.ListN.{set, length-set}
use Rattle.rs_code.specs.Factor.{AreFactors}
use Rattle.rs_code.specs.declared.code.TheConstants.{INDEXES}
use Rattle.rs_code.proofs.Sources.{first_indexes}
use Rattle.rs_code.proofs.code.Code.new.Goals as goal

pub loop-j-preserved : goal.loop-j-preserved
loop-j-preserved c =
    let s = c.loop-j in
    let j = s.j in
    let few = c.requires.few in
    let lt = c.loop-j-test.true in
    let source = c.requires.source in
    let whole = s.invariant.whole in
    let within : j < length s.factors = omega arith in
    record {
      whole = omega (arith, length-set s.factors j c.factors_of.result);
      so_far =
          below_more (λ m. AreFactors (take c.args.k INDEXES) (c.args.k + m) (get_or (set s.factors j c.factors_of.result) m [])) j
          (λ m h. let ne : m ≢ j = omega arith in rw get_or-set_other (s.invariant.so_far m h))
          (rw get_or-set_same c.factors_of.ensures.factors);
    }

pub invariant_of-result-clause-parity_factors : goal.invariant_of-result-clause-parity_factors
invariant_of-result-clause-parity_factors c = λ j h.
    let s = c.loop-j in
    let few = c.requires.few in
    subst (λ points. AreFactors points (c.args.k + j) (get_or s.factors j [])) (first_indexes c.args.k (omega arith))
    (s.invariant.so_far j (omega (arith, c.loop-j-test.false)))
