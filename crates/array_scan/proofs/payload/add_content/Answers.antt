use Rattle.std.proofs.Common.{◌≡◌, ◌+◌, ◌-◌, ◌*◌, length, min, ◌∙◌, arith}
use Rattle.std.proofs.lemmas.List.{length-take-le}
use Rattle.array_scan.proofs.Calls.{told_at, told_from, same_held}
use Rattle.array_scan.proofs.ReadPayloads.{content_none, content_some, front_read}
use Rattle.array_scan.proofs.payload.add_content.Goals as goal

pub returns-then-written-at-clause-content : goal.returns-then-written-at-clause-content
returns-then-written-at-clause-content g c =
    let bay = g.B.Bay.state c.args.bay.now in
    told_from bay.contents _ (λ held is.
    let long = told_at bay.contents _ held is c.in_ok-written.ensures.bytes in
    content_none (held c.args.place.device c.args.place.zone) c.args.out.now.items c.args.block (omega (arith, long, c.from-written.ensures, c.if-written-at.true)))

pub returns-clause-content : goal.returns-clause-content
returns-clause-content g c =
    let bay = g.B.Bay.state c.args.bay.now in
    told_from bay.contents _ (λ held is.
    let zone = held c.args.place.device c.args.place.zone in
    let long = told_at bay.contents _ held is c.in_ok-written.ensures.bytes in
    let len : c.min-len.result ≡ min 511 (length zone - (512 * c.args.block + 1)) = omega (arith, long, c.from-written.ensures, c.min-len.ensures) in
    let mid = same_held bay (g.B.Bay.state c.written.new.bay) _ c.in_ok-written.ensures.reads ∙ is in
    let read = told_at _ _ held mid c.in_ok-read_into.ensures.bytes in
    content_some zone c.args.out.now.items _ _ c.args.block c.min-len.result len
    (front_read zone c.read_into.new.out _ (512 * c.args.block + 1) c.min-len.result (c.in_ok-read_into.ensures.len ∙ length-take-le c.min-len.result _ (omega (arith, c.min-len.ensures))) read)
    c.in_ok-extend_from_slice.ensures.items)
