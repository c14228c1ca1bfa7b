use Rattle.std.proofs.Common.{◌≡◌, ◌+◌, ◌*◌, length, arith, refl, length-take}
use Rattle.marker_format.specs.Fragment.{blocks_of}
use Rattle.store_core.proofs.ToldFragments.{part_told}
use Rattle.store_core.proofs.zone_calls.read_record.Goals as goal

pub returns-clause-fragment : goal.returns-clause-fragment
returns-clause-fragment g c =
    let bytes = length c.args.out.now in
    let long : length c.read.new.out ≡ 512 * blocks_of bytes = omega (arith, c.read.auto.out, length-take (512 * c.div_ceil-bytes.result) c.args.buffer.now, c.div_ceil-bytes.ensures, c.requires.room) in
    part_told (g.B.Bay.state c.args.bay.now).contents c.read.new.out c.read_fragment.new.out _ (c.args.block + 1) bytes refl long c.read_fragment.ensures c.requires.written c.in_ok-read.ensures.bytes
