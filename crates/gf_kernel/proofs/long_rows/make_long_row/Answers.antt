use Rattle.std.proofs.Common.{length, ◌∙◌, arith}
use Rattle.gf_kernel.specs.Lanes.{looked_up}
use Rattle.gf_kernel.specs.Rows.{made_byte}
use Rattle.gf_kernel.proofs.RowLemmas.{made_more, made_whole}
use Rattle.gf_kernel.proofs.long_rows.make_long_row.Goals as goal

pub loop-step-preserved : goal.loop-step-preserved
loop-step-preserved c =
    let s = c.loop-step in
    let same = s.auto.out in
    made_more c.args.keep (looked_up c.args.halves.lower c.args.halves.upper) c.args.out.now s.out c.args.src.now _ s.step s.invariant c.made_lanes-made.ensures (omega arith)

pub returns : goal.returns
returns c =
    let s = c.loop-step in
    let times = looked_up c.args.halves.lower c.args.halves.upper in
    made_whole s.step (made_byte c.args.keep times c.args.out.now c.args.src.now) c.args.out.now s.out _ (length c.args.src.now)
    s.invariant c.made_lanes-end.ensures (s.auto.out ∙ c.requires.same) c.requires.long c.loop-step-test.false
