use Rattle.std.proofs.Common.{length, ◌∙◌, arith}
use Rattle.gf_kernel.specs.Lanes.{looked_up}
use Rattle.gf_kernel.specs.Rows.{made_byte}
use Rattle.gf_kernel.proofs.RowLemmas.{made_more, made_whole}
use Rattle.gf_kernel.proofs.long_rows.make_long_rows.Goals as goal

pub loop-step-preserved : goal.loop-step-preserved
loop-step-preserved c =
    let s = c.loop-step in
    let kept = s.invariant in
    let same = s.auto.first in
    let same_second = s.auto.second in
    record {
      first = made_more c.args.keep (looked_up c.args.one.lower c.args.one.upper) c.args.first.now s.first c.args.src.now _ s.step kept.first c.made_lanes-made.ensures (omega arith);
      second = made_more c.args.keep (looked_up c.args.other.lower c.args.other.upper) c.args.second.now s.second c.args.src.now _ s.step kept.second c.made_lanes-made_second.ensures (omega arith);
    }

pub returns : goal.returns
returns c =
    let s = c.loop-step in
    let kept = s.invariant in
    let src = c.args.src.now in
    let ended = c.loop-step-test.false in
    record {
      first =
          made_whole s.step (made_byte c.args.keep (looked_up c.args.one.lower c.args.one.upper) c.args.first.now src) c.args.first.now s.first _ (length src)
          kept.first c.made_lanes-first_end.ensures (s.auto.first ∙ c.requires.first) c.requires.long ended;
      second =
          made_whole s.step (made_byte c.args.keep (looked_up c.args.other.lower c.args.other.upper) c.args.second.now src) c.args.second.now s.second _ (length src)
          kept.second c.made_lanes-second_end.ensures (s.auto.second ∙ c.requires.second) c.requires.long ended;
    }
