-- How the calls of a read follow each other: in attempts, each of which ends at the call that fails.
use Rattle.std.specs.Prelude.{◌≡◌, ◌≢◌, ℕ, ◌+◌, ◌≤◌, true, List, [], ◌∷◌, IfSome}
use Rattle.std.specs.List.{slice_set}
use Rattle.smore_base.specs.declared.place.Place.{Place}
use Rattle.zone_bay.specs.Contents.{Contents}
use Rattle.zone_bay.specs.Outside.{Rose}
use Rattle.zone_bay.specs.Bay.{BayState}
use Rattle.marker_format.specs.declared.marker.Marker.{Marker}
use Rattle.set_table.specs.Table.{Table, is_live}
use Rattle.set_table.specs.Points.{Point, point_at, last_point}
use Rattle.set_reader.specs.Record.{StandsAt}

-- An attempt of so many calls at most, all of which were answered. No device was lost.
pub record Answered (calls : ℕ) (before after : Point) : Type 0 where
  pub table : after.table ≡ before.table
  pub later : before.moment ≤ after.moment
  pub few : after.moment ≤ before.moment + calls
  pub faults : (d : ℕ) → after.faults d ≡ before.faults d

-- An attempt of so many calls at most, the last of which failed. Its device was live before, and is lost. No other device failed or
-- was lost, and of the table nothing else changed.
pub record Failed (calls : ℕ) (failed : ℕ → ℕ → Type 0) (before after : Point) : Type 0 where
  pub device : ℕ
  pub live : is_live before.table device ≡ true
  pub table : after.table ≡ record before.table { lost = slice_set before.table.lost device true }
  pub few : after.moment ≤ before.moment + calls
  pub rose : Rose (before.faults device) (after.faults device)
  pub others : (d : ℕ) → d ≢ device → after.faults d ≡ before.faults d
  -- the moment of the failed call, behind which no call was made
  pub moment : ℕ
  pub since : before.moment ≤ moment
  pub told : failed device moment
  pub earlier : moment ≤ after.moment
  pub last : after.moment ≤ moment + 1

-- attempts that failed, one behind the other, to these points
abbrev pub EachFailed : ℕ → (ℕ → ℕ → Type 0) → Point → List Point → Type 0
EachFailed calls failed at [] = Unit {0}
EachFailed calls failed at (next ∷ points) = Failed calls failed at next × EachFailed calls failed next points

-- Attempts of so many calls at most, one behind the other: each but the last failed, at these points, and the last one was answered.
-- A call on a device that was lost before isn't among them: were it to fail, the device would have to be live.
pub record Attempts (calls : ℕ) (failed : ℕ → ℕ → Type 0) (before after : Point) : Type 0 where
  pub points : List Point
  pub each : EachFailed calls failed before points
  pub answered : Answered calls (last_point before points) after

-- the record that stands at the place has a payload of no bytes
abbrev pub HasNoPayload : Table → Place → Contents → Type 0
HasNoPayload t place held = (m : Marker) × StandsAt t place.set place.block m held × (m.payload ≡ 0)

-- The calls of a read of a record: attempts of one call, until the marker is read, and from there attempts of k calls, until k
-- fragments are read. Of a payload of no bytes no fragment is read.
pub record ReadsInAttempts (t t' : Table) (place : Place) (old new : BayState) : Type 0 where
  pub between : Point
  pub marker : Attempts 1 new.failed (point_at t old) between
  pub fragments : Attempts t.geometry.k new.failed between (point_at t' new)
  pub no_payload : IfSome old.contents (λ held. HasNoPayload t place held → point_at t' new ≡ between)
