use Rattle.std.proofs.Common.{◌≡◌, ◌+◌, ◌-◌, ◌*◌, ◌++◌, length, take, drop, arith, ap, ◌∙◌}
use borrow.Rule.Slice.PartMut.{put_mid}
use Rattle.marker_format.specs.Fragment.{blocks_from}
use Rattle.marker_format.proofs.FragmentLaws.{length-put_mid, written_more}
use Rattle.marker_format.proofs.fragment.write_fragment.Goals as goal

pub loop-i-preserved : goal.loop-i-preserved
loop-i-preserved c =
    let i = c.loop-i.i in
    let width : 512 * i + 512 - 512 * i ≡ 512 = omega arith in
    let size : length c.write_data_block.new.out ≡ 512 * i + 512 - 512 * i = omega (arith, c.write_data_block.auto.out) in
    record {
      long = length-put_mid (512 * i) (512 * i + 512 - 512 * i) c.loop-i.out c.write_data_block.new.out (omega (arith, c.loop-i.invariant.long)) size ∙ c.loop-i.invariant.long;
      written =
          ap (λ k. take (512 * (i + 1)) (put_mid (512 * i) k c.loop-i.out c.write_data_block.new.out) ++ blocks_from (c.div_ceil-count.result - (i + 1)) (drop (511 * (i + 1)) c.args.fragment.now)) width
          ∙ written_more c.args.fragment.now c.loop-i.out c.write_data_block.new.out _ c.div_ceil-count.result i c.min-to.result c.loop-i-test.true c.loop-i.invariant.long c.min-to.ensures c.write_data_block.ensures c.loop-i.invariant.written;
    }
