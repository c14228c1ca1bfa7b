use Rattle.std.proofs.Common.{◌≡◌, ◌+◌, ◌*◌, length, ◌∙◌, arith}
use Rattle.std.proofs.lemmas.List.{length-take-le}
use Rattle.marker_format.specs.Fragment.{blocks_of}
use Rattle.marker_format.proofs.FragmentLaws.{fragment_at-part}
use Rattle.set_reader.proofs.Told.{told_at, told_from}
use Rattle.set_reader.proofs.rows.read_row.Goals as goal

pub returns-in-Ok-clause-fragment : goal.returns-in-Ok-clause-fragment
returns-in-Ok-clause-fragment g c =
    let bay = g.B.Bay.state c.args.bay.now in
    let f = length c.args.out.now in
    told_from bay.contents _ (λ held is.
    let zone = held c.args.member.device c.args.member.zone in
    let read = told_at bay.contents _ held is c.in-Ok.ensures.bytes in
    let within = told_at bay.contents _ held is c.requires.written in
    let long : length c.read.new.out ≡ 512 * blocks_of f = omega (arith, c.read.auto.out, c.blocks_of.ensures, c.requires.room, length-take-le (512 * c.blocks_of.result) c.args.buffer.now (omega (arith, c.blocks_of.ensures, c.requires.room))) in
    c.read_fragment.ensures ∙ fragment_at-part zone c.read.new.out (512 * (c.args.block + 1)) (c.args.block + 1) f (omega arith) read long within)
