-- Calls that only read, on any devices.
use Rattle.std.proofs.Common.{ℕ, Result, Ok, Err, arith}
use Rattle.std.specs.Result.{IsErr}
use Rattle.zone_bay.specs.Outside.{Rose}
use Rattle.zone_bay.specs.Bay.{BayState}
use Rattle.zone_bay.specs.Stretch.{OnlyReads}
use Rattle.zone_bay.proofs.Stretch.{reads_nothing, reads_join, reads_weaker}
use Rattle.store_core.specs.DeviceCalls.{ReadsAny}
use Rattle.zone_bay.specs.OneDevice.{ReadsOn}

-- no call
pub any_none : (bay : BayState) (P : Type 0) → (P → ⊥) → ReadsAny P bay bay
any_none bay P not = record { only = reads_nothing bay _; cause = λ p. absurd (not p) }

-- those on one device
pub any_on : {T E : Type 0} (device : ℕ) (old new : BayState) (r : Result T E) → ReadsOn device old new r → ReadsAny (IsErr r) old new
any_on device old new r reads = record {
  only = reads_weaker old new _ _ (λ d m since failed. failed.0) reads.only;
  cause = λ failed. (device, rose r failed reads);
}
  where
    rose : {T E : Type 0} (r : Result T E) → IsErr r → ReadsOn device old new r → Rose (old.faults device) (new.faults device)
    rose (Ok x) failed reads = absurd cc
    rose (Err e) failed reads = reads.cause.err

-- told by other words
pub any_told : (P Q : Type 0) (old new : BayState) → (P → Q) → (Q → P) → ReadsAny P old new → ReadsAny Q old new
any_told P Q old new to from reads = record {
  only = reads_weaker old new _ _ (λ d m since p. to p) reads.only;
  cause = λ q. reads.cause (from q);
}

-- more calls, once those so far were answered
pub any_then : (P Q : Type 0) (old mid new : BayState) → (P → ⊥) → ReadsAny P old mid → ReadsAny Q mid new → ReadsAny Q old new
any_then P Q old mid new not so_far more = record {
  only = reads_join old mid new _ (reads_weaker old mid _ _ (λ d m since p. absurd (not p)) so_far.only) more.only;
  cause = λ q. let it = more.cause q in (it.0, λ below. let later = it.1 below in omega (arith, later, so_far.only.goes_on.no_fewer it.0));
}

-- calls that were all answered
pub any_answered : (old new : BayState) (Q : ℕ → ℕ → Type 0) → ((d m : ℕ) → Q d m → ⊥) → OnlyReads old new Q → ReadsAny ⊥ old new
any_answered old new Q none only = record { only = reads_weaker old new _ _ (λ d m since q. none d m q) only; cause = λ no. absurd no }
