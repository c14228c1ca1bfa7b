use Rattle.std.proofs.Common.{◌+◌, ℕ, List, map, take, ap, ap₂, sym, subst, ◌∙◌}
use Rattle.rs_code.specs.Fragments.{AreIndexes}
use Rattle.array_model.specs.Payload.{payload_from}
use Rattle.array_scan.specs.declared.set_read.Carrier.{Carrier}
use Rattle.array_scan.specs.Payloads.{given_of, fragments_held}
use Rattle.array_scan.proofs.Calls.{told_at, told_from}
use Rattle.array_scan.proofs.DecodedPayloads.{same_payload, carriers_indexes}
use Rattle.array_scan.proofs.payload.read_payload.Goals as goal

pub decode-requires-clause-have : goal.decode-requires-clause-have
decode-requires-clause-have g c =
    let code = c.args.code.now in
    let carriers = c.args.set.now.carriers.items in
    subst (λ (l : List ℕ). AreIndexes code.k (code.k + code.p) l) (sym (c.in_ok-given.ensures.have ∙ ap (λ (l : List Carrier). map (λ (c : Carrier). c.index) (take code.k l)) c.deref.ensures.value))
    (carriers_indexes code.k (code.k + code.p) carriers c.requires.fits.rising c.requires.enough)

pub returns-clause-payload : goal.returns-clause-payload
returns-clause-payload g c =
    let bay = g.B.Bay.state c.args.bay.now in
    let code = c.args.code.now in
    let at = c.args.at.now in
    let carriers = c.args.set.now.carriers.items in
    let f = c.div_ceil-f.result in
    told_from bay.contents _ (λ held is.
    c.in_ok-decode.ensures
    ∙ ap₂ (λ (have bytes : List ℕ). payload_from code.k (given_of f have bytes) at.marker.payload)
    (c.in_ok-given.ensures.have ∙ ap (λ (l : List Carrier). map (λ (c : Carrier). c.index) (take code.k l)) c.deref.ensures.value)
    (told_at bay.contents _ held is c.in_ok-given.ensures.fragments ∙ ap (λ (l : List Carrier). fragments_held held at f (take code.k l)) c.deref.ensures.value)
    ∙ same_payload held at f code.k carriers c.div_ceil-f.ensures)
