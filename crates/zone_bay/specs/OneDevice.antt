-- What calls on one device do beside their work.
use Rattle.std.specs.Prelude.{◌≡◌, ℕ, Result, IsErr, OnErr, ⊤}
use Rattle.zone_bay.specs.Outside.{HasCause}
use Rattle.zone_bay.specs.Bay.{BayState}
use Rattle.zone_bay.specs.Stretch.{GoesOn, OnlyReads, FailsReading}

-- Any number of calls on the device: only a failed one makes the answer a failure, and then its count rose.
pub record CallsOn {T E : Type 0} (device : ℕ) (old new : BayState) (result : Result T E) : Type 0 where
  pub goes_on : GoesOn old new (λ _ _. ⊤) (λ d _. IsErr result × (d ≡ device))
  pub cause : HasCause result (old.faults device) (new.faults device)

-- The same of calls that only read. One that failed did so over what was held at first.
pub record ReadsOn {T E : Type 0} (device : ℕ) (old new : BayState) (result : Result T E) : Type 0 where
  pub only : OnlyReads old new (λ d _. IsErr result × (d ≡ device))
  pub cause : HasCause result (old.faults device) (new.faults device)
  pub over : OnErr result (FailsReading device old new)
