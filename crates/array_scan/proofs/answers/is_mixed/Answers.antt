use Rattle.array_scan.proofs.MixedLabels.{says_more}
use Rattle.array_scan.proofs.answers.is_mixed.Goals as goal

pub loop-label-preserved : goal.loop-label-preserved
loop-label-preserved c = says_more c.in-Some.first.now _ c.args.labels.now c.loop-label.label-index c.loop-label-test.true (c.says_same.ensures.0 c.if-not-says_same.false) c.loop-label.invariant
