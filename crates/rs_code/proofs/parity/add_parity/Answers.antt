use Rattle.std.proofs.Common.{◌++◌, refl, arith}
use Rattle.rs_code.proofs.Pieces.{pieces_are_code}
use Rattle.rs_code.proofs.Payloads.{front_is_bytes}
use Rattle.rs_code.proofs.parity.add_parity.Goals as goal

pub returns-clause-code : goal.returns-clause-code
returns-clause-code c =
    let code = c.args.code.now in
    let few = code.few in
    let fragments = c.split_at_mut-fragments.result.0.now in
    let parity = c.parities_into.new.out in
    let total = c.requires in
    let back = c.split_at_mut-fragments.ensures.back_len in
    let same = c.parities_into.auto.out in
    pieces_are_code code.k code.p c.args.f (fragments ++ parity) fragments parity (omega arith)
    (front_is_bytes fragments parity (λ i. let fits = c.type_inv.bytes i in omega arith))
    c.split_at_mut-fragments.ensures.front_len (omega arith) refl c.parities_into.ensures.fragments
