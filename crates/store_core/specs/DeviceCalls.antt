-- What calls on one device do beside their work.
use Rattle.std.specs.Prelude.{◌≡◌, ℕ, List, take, Result, IsErr, OnOk, OnErr, ⊤}
use Rattle.zone_bay.specs.Outside.{Rose, HasCause}
use Rattle.zone_bay.specs.Contents.{appended}
use Rattle.zone_bay.specs.Images.{flushed}
use Rattle.zone_bay.specs.Bay.{BayState, Becomes, held_in}
use Rattle.zone_bay.specs.Stretch.{GoesOn, OnlyReads, FailsReading, GoesToward, FailsToward}
use Rattle.store_core.specs.declared.store.TheConstants.{DRIVE, ZONE}

-- Calls that only read, on any devices. One of them failed only where the answer says so, and then its device's count rose.
pub record ReadsAny (IsTold : Type 0) (old new : BayState) : Type 0 where
  pub only : OnlyReads old new (λ _ _. IsTold)
  pub cause : IsTold → (d : ℕ) × Rose (old.faults d) (new.faults d)

-- Bytes were to be put at the end of zone 2 of drive 0, and made firm. Where a call failed, it did so on the way there.
pub record Appends {T E : Type 0} (bytes : List ℕ) (old new : BayState) (result : Result T E) : Type 0 where
  pub done : OnOk result (Becomes (appended DRIVE ZONE bytes) old new)
  pub firm : OnOk result (new.firm ≡ flushed DRIVE (held_in new) old.firm)
  pub part : OnErr result ((n : ℕ) × Becomes (appended DRIVE ZONE (take n bytes)) old new)
  pub toward : GoesToward (appended DRIVE ZONE bytes) old new (λ d _. IsErr result × (d ≡ DRIVE))
  pub failed : OnErr result (FailsToward (appended DRIVE ZONE bytes) DRIVE old new)
  pub cause : HasCause result (old.faults DRIVE) (new.faults DRIVE)
