use Rattle.std.proofs.Common.{◌+◌, ◌-◌, length, drop, arith}
use Rattle.array_scan.specs.Judged.{noted}
use Rattle.array_scan.proofs.JudgedSets.{from_last, least_more}
use Rattle.array_scan.proofs.judge.note_cuts.Goals as goal

-- src/judge.rt:84:5
pub loop-i-preserved : goal.loop-i-preserved
loop-i-preserved c = λ payload target.
    let records = c.args.records.now in
    let r = c.index-records-count.result in
    least_more target payload (drop (length records - (c.loop-i.i + 1)) records) (drop (length records - c.loop-i.i) records) r
    (noted c.note_cut.new.kept target) (noted c.loop-i.kept target) (noted c.args.kept.now target)
    (c.in_ok-note_cut.ensures payload target) (c.loop-i.invariant payload target)
    (from_last records c.loop-i.i r _ (omega (arith, c.loop-i-test.true)) c.index-records-count.is)
