use Rattle.std.proofs.Common.{◌+◌, arith}
use Rattle.rs_code.specs.Fragments.{sources}
use Rattle.rs_code.proofs.Codes.{code_through}
use Rattle.rs_code.proofs.Combination.{given_by_sums}
use Rattle.rs_code.proofs.Sources.{sources_are_indexes}
use Rattle.rs_code.proofs.code.Code.parity_into.Goals as goal

pub returns-clause-fragment : goal.returns-clause-fragment
returns-clause-fragment c =
    let code = c.args.self.now in
    let few = code.few in
    let made = c.combine.auto.out in
    let room = c.requires.room in
    given_by_sums code.k (code.k + code.p) c.args.f (sources code.k) c.args.shards.now c.parity_factors.result.now c.combine.new.out (code.k + c.args.j)
    (omega arith) (sources_are_indexes code.k (code.k + code.p) (omega arith)) (omega arith)
    c.parity_factors.ensures.factors c.parity_factors.ensures.all (omega arith) c.combine.ensures

pub returns-clause-code : goal.returns-clause-code
returns-clause-code c =
    let code = c.args.self.now in
    let few = code.few in
    code_through code.k (code.k + code.p) c.args.f (sources code.k) c.args.shards.now (omega arith) (sources_are_indexes code.k (code.k + code.p) (omega arith))
    (λ i. let fits = c.type_inv.shards i in omega arith) c.requires.size
