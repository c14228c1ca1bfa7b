use Rattle.std.proofs.Common.{arith}
use Rattle.marker_format.specs.declared.tag.Tag.TheVariants as tags
use Rattle.marker_format.proofs.BlockLaws.{block_of-parts}
use Rattle.marker_format.proofs.block.write_data_block.Goals as goal

pub returns : goal.returns
returns c =
    block_of-parts tags.Data c.number.result c.write_u8-at.result _ c.args.out.now c.write_u8-at.new.out c.args.piece.now _ c.write_zeros.new.out c.write_u8-at.ensures.written c.number.ensures c.write_zeros.ensures c.write_bytes-at.ensures.written.prefix
    (omega arith)
