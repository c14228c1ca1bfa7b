-- What reading does to a bay.
use Rattle.std.specs.Prelude.{◌≡◌, ℕ, Option, Some, None, Result, Ok, Err, IfSome}
use Rattle.zone_bay.specs.Outside.{Rose}
use Rattle.zone_bay.specs.Bay.{BayState}
use Rattle.zone_bay.specs.Stretch.{OnlyReads, FailsReading}
use Rattle.array_scan.specs.declared.refusal.ScanRefusal.{ScanRefusal}
use Rattle.array_scan.specs.declared.refusal.ScanRefusal.TheVariants.{Memory, Lost}

-- Calls only read. Where this device is told, its count of faults rose, and a call on it failed over what was held; no other
-- device failed.
pub record OnlyRead (old new : BayState) (failed : Option ℕ) : Type 0 where
  pub only : OnlyReads old new (λ d _. failed ≡ Some d)
  pub rose : IfSome failed (λ d. Rose (old.faults d) (new.faults d))
  pub over : IfSome failed (λ d. FailsReading d old new)

-- the device that failed, where that is the answer
abbrev pub lost_by : {T : Type 0} → Result T ScanRefusal → Option ℕ
lost_by (Ok x) = None
lost_by (Err Memory) = None
lost_by (Err (Lost device)) = Some device
