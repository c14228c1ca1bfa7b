-- How many calls go to the members of a set, and which devices fail in them.
use Rattle.std.specs.Prelude.{◌≡◌, ℕ, ◌+◌, ◌<◌, ◌≤◌, true, List, [], ◌∷◌, length}
use Rattle.zone_bay.specs.Outside.{Rose}
use Rattle.zone_bay.specs.Bay.{BayState}
use Rattle.set_table.specs.Table.{Table, is_live, Loses}
use Rattle.set_table.specs.Points.{Point, point_at, last_point}
use Rattle.set_writer.specs.Fit.{live_of}

-- One round: no more than a call for each member that was live before it. A device that was lost in it failed in it, and no other
-- device did. Of the table nothing else changed.
pub record Round (set : ℕ) (failed : ℕ → ℕ → Type 0) (before after : Point) : Type 0 where
  pub table : after.table ≡ record before.table { lost = after.table.lost }
  pub stays_lost : (d : ℕ) → is_live after.table d ≡ true → is_live before.table d ≡ true
  pub later : before.moment ≤ after.moment
  pub few : after.moment ≤ before.moment + live_of before.table set
  pub no_fewer : (d : ℕ) → before.faults d ≤ after.faults d
  pub rose : (d : ℕ) → Loses before.table after.table d → Rose (before.faults d) (after.faults d)
  -- a device whose count rose was lost, and failed at a moment of the round
  pub failed_in : (d : ℕ) → before.faults d < after.faults d → Loses before.table after.table d × ((m : ℕ) × (before.moment ≤ m) × (m ≤ after.moment) × failed d m)

-- one round behind the other, to these points
abbrev pub EachRound : ℕ → (ℕ → ℕ → Type 0) → Point → List Point → Type 0
EachRound set failed at [] = Unit {0}
EachRound set failed at (next ∷ points) = Round set failed at next × EachRound set failed next points

-- So many rounds, one behind the other. A member that was lost in one isn't called in a later one: that counts the members that are
-- live before it.
pub record Rounds (set rounds : ℕ) (failed : ℕ → ℕ → Type 0) (before after : Point) : Type 0 where
  pub points : List Point
  pub count : length points ≡ rounds
  pub each : EachRound set failed before points
  pub ends : last_point before points ≡ after

-- the calls of a stretch were made in so many rounds
abbrev pub InRounds : ℕ → ℕ → Table → Table → BayState → BayState → Type 0
InRounds set rounds t t' old new = Rounds set rounds new.failed (point_at t old) (point_at t' new)
