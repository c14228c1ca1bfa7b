-- What reading does to a bay and to the table of its devices.
use Rattle.std.specs.Prelude.{◌≡◌, ◌⊎◌, ℕ, ◌+◌, ◌-◌, ◌≤◌, true, not, length, filter, Option, Some, None, IfSome, Result, Ok, Err}
use Rattle.zone_bay.specs.Outside.{Rose}
use Rattle.zone_bay.specs.Bay.{BayState}
use Rattle.zone_bay.specs.Stretch.{OnlyReads, FailsReading, ReadsAtMost}
use Rattle.set_table.specs.Table.{Table, is_live, Loses}

-- how many devices are live
abbrev pub live_count : Table → ℕ
live_count t = length (filter not t.lost)

-- how many were lost
abbrev pub losses : Table → Table → ℕ
losses t t' = live_count t - live_count t'

-- devices were lost, and nothing else changed, as reads do
pub record OnlyLoses (t t' : Table) : Type 0 where
  pub table : t' ≡ record t { lost = t'.lost }
  pub stays_lost : (d : ℕ) → is_live t' d ≡ true → is_live t d ≡ true

-- Calls only read. A device on which one failed is lost, and no other; it was live before, and its failure is told as one over
-- what was held. Of the table nothing else changed.
pub record OnlyReadsBy (t t' : Table) (old new : BayState) : Type 0 where
  pub table : t' ≡ record t { lost = t'.lost }
  pub devices : length t'.lost ≡ length t.lost
  pub stays_lost : (d : ℕ) → is_live t' d ≡ true → is_live t d ≡ true
  pub bay : OnlyReads old new (λ d _. Loses t t' d)
  pub rose : (d : ℕ) → Loses t t' d → Rose (old.faults d) (new.faults d)
  pub over : (d : ℕ) → Loses t t' d → FailsReading d old new

-- No more than so many calls were made, and no more than so many of them read a drive.
pub record CallsAtMost (n : ℕ) (old new : BayState) : Type 0 where
  pub calls : new.moment ≤ old.moment + n
  pub reads : ReadsAtMost n old new

-- The device failed in the last of the calls, and in none before it.
pub record FailsLast (device : ℕ) (old new : BayState) : Type 0 where
  pub moment : ℕ
  pub since : old.moment ≤ moment
  pub before : moment ≤ new.moment
  pub failed : new.failed device moment
  pub last : new.moment ≤ moment + 1
  -- failures that are told since are those of this call, or of moments behind it
  pub alone : (d m : ℕ) → new.failed d m → old.failed d m ⊎ (new.moment ≤ m + 1)

-- Calls only read, and are so many at most. Where this device is told, its count of faults rose, and a call on it failed over
-- what was held, behind which no call was made; no other device failed.
pub record ReadsUntil (calls : ℕ) (failed : Option ℕ) (old new : BayState) : Type 0 where
  pub bay : OnlyReads old new (λ d _. failed ≡ Some d)
  pub rose : IfSome failed (λ d. Rose (old.faults d) (new.faults d))
  pub over : IfSome failed (λ d. FailsReading d old new)
  pub last : IfSome failed (λ d. FailsLast d old new)
  pub few : CallsAtMost calls old new

-- the device that failed
abbrev pub failed_by : {T : Type 0} → Result T ℕ → Option ℕ
failed_by (Ok x) = None
failed_by (Err device) = Some device
