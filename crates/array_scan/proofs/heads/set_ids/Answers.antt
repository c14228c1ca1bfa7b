use Rattle.std.proofs.Common.{◌∙◌}
use Rattle.array_scan.proofs.HeadLaws.{ids_more}
use Rattle.array_scan.proofs.heads.set_ids.Goals as goal

pub loop-i-preserved : goal.loop-i-preserved
loop-i-preserved c = c.in_ok-insert.ensures.keys ∙ ids_more c.args.heads.now c.loop-i.ids.keys c.loop-i.i _ c.loop-i-test.true c.loop-i.invariant
