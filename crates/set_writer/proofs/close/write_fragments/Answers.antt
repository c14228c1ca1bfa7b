use Rattle.std.proofs.Common.{◌≡◌, ◌-◌, ◌*◌, ◌++◌, length, replicate, refl, ap, ◌∙◌, arith, length-append}
use Rattle.std.proofs.lemmas.List.{take_at}
use Rattle.rs_code.specs.Fragments.{padded}
use Rattle.rs_code.proofs.Pieces.{pieces_are_code}
use Rattle.rs_code.proofs.Payloads.{front_is_bytes, keeps_fragments}
use Rattle.set_writer.proofs.close.write_fragments.Goals as goal

pub returns-clause-fragments : goal.returns-clause-fragments
returns-clause-fragments c =
    let code = c.args.code.now in
    let few = code.few in
    let source = c.write_padded.new.out in
    let parity = c.parities_into.new.out in
    let payload = c.args.payload.now in
    let f = c.args.fragment in
    let total = c.requires.size in
    let back = c.split_at_mut-source.ensures.back_len in
    let front = c.split_at_mut-source.ensures.front_len in
    let same = c.parities_into.auto.out in
    let kept = c.write_padded.auto.out in
    let rows : length source ≡ code.k * f = omega (arith, kept, front) in
    let others : length parity ≡ code.p * f = omega (arith, same, back, total, front) in
    let is : source ≡ padded code.k payload = c.write_padded.ensures ∙ ap (λ n. payload ++ replicate (n - length payload) 0) (front ∙ ap (λ n. code.k * n) c.requires.fragment) in
    keeps_fragments code.k code.p f payload (source ++ parity) code.has_source c.requires.fragment
    (omega (arith, rows, others, length-append source parity))
    (pieces_are_code code.k code.p f (source ++ parity) source parity (omega (arith, few)) (front_is_bytes source parity (λ i. let fits = c.type_inv.out i in omega arith)) rows others refl c.parities_into.ensures.fragments)
    (take_at source parity (code.k * f) rows ∙ is)
