use Rattle.std.proofs.Common.{◌+◌, length, take, arith, length-take-le, get_or, get_or-take, sym, subst, ◌∙◌}
use Rattle.rs_code.specs.Factor.{IsFactor}
use Rattle.rs_code.proofs.Codes.{code_through}
use Rattle.rs_code.proofs.Combination.{given_by_sums}
use Rattle.rs_code.proofs.code.Code.fragment_into.Goals as goal

pub returns-in-Some-clause-code : goal.returns-in-Some-clause-code
returns-in-Some-clause-code c =
    let code = c.args.self.now in
    let few = code.few in
    code_through code.k (code.k + code.p) c.args.f c.args.have.now c.args.fragments.now (omega arith) c.requires.have
    (λ i. let fits = c.type_inv.fragments i in omega arith) c.requires.size

pub returns-in_default-clause-fragment : goal.returns-in_default-clause-fragment
returns-in_default-clause-fragment c =
    let code = c.args.self.now in
    let few = code.few in
    let have = c.args.have.now in
    let made = c.combine.auto.out in
    let room = c.requires.room in
    let count = c.requires.have.count in
    let factors = c.factors_of-factors.result in
    given_by_sums code.k (code.k + code.p) c.args.f have c.args.fragments.now (take (length have) factors) c.combine.new.out c.args.want
    (omega arith) c.requires.have c.requires.wanted
    (λ i h. subst (IsFactor have (get_or have i 0) c.args.want) (sym (get_or-take (length have) factors i 0 h)) (c.factors_of-factors.ensures.factors i h))
    (length-take-le (length have) factors (let all = c.factors_of-factors.ensures.all in omega arith) ∙ count) (omega arith) c.combine.ensures

pub returns-in_default-clause-code : goal.returns-in_default-clause-code
returns-in_default-clause-code c =
    let code = c.args.self.now in
    let few = code.few in
    code_through code.k (code.k + code.p) c.args.f c.args.have.now c.args.fragments.now (omega arith) c.requires.have
    (λ i. let fits = c.type_inv.fragments i in omega arith) c.requires.size
