use Rattle.std.proofs.Common.{◌+◌, [], get_or, get_or-take, sym, subst, arith}
use Rattle.std.proofs.lemmas.List.FromFn.{length-range_with_len}
use Rattle.rs_code.specs.Factor.{IsFactor}
use Rattle.rs_code.specs.Fragments.{sources}
use Rattle.rs_code.proofs.code.Code.parity_factors.Goals as goal

pub returns-clause-factors : goal.returns-clause-factors
returns-clause-factors c = λ i h.
    let code = c.args.self.now in
    let points = sources code.k in
    let own = get_or points i 0 in
    let factors = get_or code.factors c.args.j [] in
    let count = length-range_with_len 0 code.k in
    subst (IsFactor points own (code.k + c.args.j)) (sym (get_or-take code.k factors i 0 (omega arith))) (code.parity_factors c.args.j c.requires i h)
