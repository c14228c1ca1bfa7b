use Rattle.std.proofs.Common.{arith}
use Rattle.marker_format.specs.declared.tag.Tag.TheVariants as tags
use Rattle.marker_format.specs.Label.{spelling_of}
use Rattle.marker_format.proofs.BlockLaws.{block_of-parts, take-middle, zeros_left}
use Rattle.marker_format.proofs.LabelLaws.{length-spelling}
use Rattle.marker_format.proofs.block.write_label_block.Goals as goal

pub returns : goal.returns
returns c =
    let first = c.write_u8-at.new.out in
    let text = spelling_of c.args.label.now in
    let len = length-spelling c.args.label.now (omega arith) in
    let middle = take-middle c.write_u8-at.result 39 first c.write_label.new.out text c.write_label.ensures len (omega arith) in
    let left = zeros_left c.write_u8-at.result 39 first c.write_label.new.out text c.write_label.ensures len (omega arith) c.write_u8-at.ensures.end (omega arith) in
    block_of-parts tags.Label c.number.result c.write_u8-at.result _ c.args.out.now first text _ c.write_zeros.new.out c.write_u8-at.ensures.written c.number.ensures c.write_zeros.ensures middle left
