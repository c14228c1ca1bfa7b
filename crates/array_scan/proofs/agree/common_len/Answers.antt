use Rattle.std.proofs.Common.{◌≡◌, ℕ, sym, ◌∙◌, subst, arith}
use Rattle.std.proofs.lemmas.Bool.{false≢true}
use Rattle.array_scan.proofs.Common.{AgreeTo, agree_more, agree_ends, agree_all}
use Rattle.array_scan.proofs.agree.common_len.Goals as goal

pub returns-then-not-agree-clause-common : goal.returns-then-not-agree-clause-common
returns-then-not-agree-clause-common c = λ one_are other_are.
    agree_ends c.args.one.now c.args.other.now c.loop-i.i c.index-one-i.result c.index-other-i.result (omega arith) (omega arith) one_are other_are
    (λ same. false≢true (sym c.if-not-agree.true ∙ c.agree.ensures.1 same))
    c.loop-i.invariant

pub loop-i-preserved : goal.loop-i-preserved
loop-i-preserved c =
    agree_more c.args.one.now c.args.other.now c.loop-i.i c.index-one-i.result c.index-other-i.result (omega arith) (omega arith)
    (c.agree.ensures.0 c.if-not-agree.false)
    c.loop-i.invariant

pub returns-clause-common : goal.returns-clause-common
returns-clause-common c = λ one_are other_are.
    let all : c.loop-i.i ≡ c.min-most.result = omega arith in
    agree_all c.args.one.now c.args.other.now c.min-most.result c.min-most.ensures (subst (λ (n : ℕ). AgreeTo c.args.one.now c.args.other.now n) all c.loop-i.invariant)
