-- What each object of the outside tells: a count of its faults.
use Rattle.std.specs.Prelude.{◌≡◌, ℕ, ◌+◌, ◌-◌, ◌^◌, ◌<◌, ◌≤◌, min, Result, OnOk, OnErr}

-- the last value of a count: it has 64 bits
abbrev pub last : ℕ
last = 2 ^ 64 - 1

-- one more, or the last value
abbrev pub counted : ℕ → ℕ
counted n = min (n + 1) last

-- the count rose, or stands at its last value
abbrev pub Rose : ℕ → ℕ → Type 0
Rose before after = after < last → before < after

-- A count of faults after a call: it never falls, it stays where the call is answered, and a failure is counted.
pub record HasCause {T E : Type 0} (result : Result T E) (before after : ℕ) : Type 0 where
  pub keeps : before ≤ after
  pub ok : OnOk result (after ≡ before)
  pub err : OnErr result (Rose before after)
