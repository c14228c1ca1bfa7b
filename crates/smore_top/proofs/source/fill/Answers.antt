use Rattle.std.proofs.Common.{◌-◌, length, arith}
use Rattle.zone_bay.specs.declared.failed.Failed.{Failed}
use Rattle.zone_bay.proofs.Causes.{cause_later}
use Rattle.smore_base.proofs.Told.{Told-then}
use Rattle.smore_top.proofs.FillSteps.{length-put_mid, taken_further}
use Rattle.smore_top.proofs.source.fill.Goals as goal

pub loop-filled-preserved : goal.loop-filled-preserved
loop-filled-preserved g c =
    let out = c.loop-filled.out in
    let counted = cause_later {E = Failed} _ _ _ _ _ c.loop-filled.invariant.cause c.in_ok-count.ensures.cause in
    record {
      within = omega (arith, c.in_ok-count.ensures.within, length-put_mid c.loop-filled.filled (length out - c.loop-filled.filled) out c.take.new.out (omega arith) (omega arith));
      taken = Told-then _ _ _ _ _ _ c.loop-filled.invariant.taken c.in_ok-count.ensures.taken (λ before mid after first then. taken_further out c.take.new.out before mid after c.loop-filled.filled _ c.in_ok-count.count c.loop-filled.invariant.within c.in_ok-count.ensures.within first then);
      cause = record { keeps = counted.keeps; ok = counted.ok; err = tt };
    }
