use Rattle.std.proofs.Common.{List, ◌+◌, sym, subst, refl, arith}
use Rattle.array_scan.specs.declared.records.ValidRecord.{ValidRecord}
use Rattle.array_scan.proofs.ValidRecords.{AddedSoFar, added_more}
use Rattle.array_scan.proofs.records.add_valid.Goals as goal

pub loop-position-preserved : goal.loop-position-preserved
loop-position-preserved c =
    let n = c.loop-position.position in
    subst (λ (l : List ValidRecord). AddedSoFar c.args.set.now c.args.records.now.items l (n + 1)) (sym c.in_ok-push.ensures.items)
    (added_more c.args.set.now c.args.records.now.items c.loop-position.records.items _ n _ (omega (arith, c.requires, c.loop-position-test.true)) refl refl c.index.ensures c.loop-position.invariant)
