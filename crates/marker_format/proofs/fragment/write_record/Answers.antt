use Rattle.std.proofs.Common.{◌≡◌, ◌+◌, ◌-◌, ◌*◌, ◌++◌, List, ℕ, length, drop, refl, ap, ◌∙◌, arith, length-take}
use Rattle.marker_format.specs.Block.{marker_block}
use Rattle.marker_format.proofs.BlockLaws.{length-marker_block}
use Rattle.marker_format.specs.Fragment.{fragment_blocks}
use Rattle.marker_format.proofs.FragmentLaws.{length-blocks_from, record_written}
use Rattle.marker_format.proofs.fragment.write_record.Goals as goal

pub slice_bounds-write_marker_block-end-2 : goal.slice_bounds-write_marker_block-end-2
slice_bounds-write_marker_block-end-2 c = omega (arith, length-take 512 c.args.out.now, c.requires.room)

pub write_marker_block-requires-clause-long : goal.write_marker_block-requires-clause-long
write_marker_block-requires-clause-long c = omega (arith, length-take 512 c.args.out.now, c.requires.room)

pub returns-clause-written : goal.returns-clause-written
returns-clause-written c =
    let fragment = c.args.fragment.now in
    let m = c.args.marker.now in
    let k = 512 * c.div_ceil.result in
    let size : length c.write_fragment.new.out ≡ 512 + k - 512 = omega (arith, ap length c.write_fragment.ensures, length-blocks_from c.div_ceil.result fragment, c.div_ceil.ensures, ap (λ n. length (fragment_blocks fragment)) c.div_ceil.ensures) in
    record_written c.args.out.now (marker_block m) c.write_marker_block.new.out c.write_fragment.new.out (512 + k - 512) k c.write_marker_block.ensures (ap length c.write_marker_block.ensures ∙ length-marker_block m c.requires.marker) refl size (omega (arith, c.requires.room, c.div_ceil.ensures))
    ∙ ap (λ (l : List ℕ). (marker_block m ++ l) ++ drop (512 + k) c.args.out.now) c.write_fragment.ensures
