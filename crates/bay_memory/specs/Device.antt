-- What a device tells: its zones, how often it failed and when, and whether it is lost.
use Rattle.std.specs.Prelude.{◌≡◌, ◌⊎◌, ℕ, ◌≤◌, ◌&&◌, ◌==◌, Bool, false, List, [], length, map, slice_index_or, Contains, Option, None, IsSomeAnd, Result, is_ok, OnOk, OnErr, ⊤, if◌then◌else◌}
use Rattle.zone_bay.specs.Bay.{Call, Append, Reset, Flush, Replace, device_of}
use Rattle.bay_memory.specs.declared.device.Device.{Device}
use Rattle.bay_memory.specs.Past.{State, Track, IsSteady, Goes, with_more, all_gone, all_firm, blank_track}
use Rattle.bay_memory.specs.Zone.{track_of}

pub record View : Type 0 where
  pub tracks : List Track
  pub faults : ℕ
  -- the moments of its failed calls, but for those for which no memory was found
  pub failed : List ℕ
  -- the first of those
  pub unnoted : Option ℕ
  pub lost : Bool

abbrev pub view_of : Device → View
view_of device = record { tracks = map track_of device.zones.items; faults = device.faults; failed = device.failed.items; unnoted = device.unnoted; lost = device.lost }

-- a device that works, and of which no call was made
abbrev pub view_with : List Track → View
view_with tracks = record { tracks = tracks; faults = 0; failed = []; unnoted = None; lost = false }

abbrev pub track_in : List Track → ℕ → Track
track_in tracks zone = slice_index_or tracks zone blank_track

abbrev pub AreSteady : ℕ → List Track → Type 0
AreSteady moment tracks = (z : ℕ) → IsSteady moment (track_in tracks z)

-- what an answered call makes of each zone of its device
abbrev pub zone_after : Call → ℕ → State → State
zone_after (Append device zone bytes) z state = if z == zone then with_more bytes state else state
zone_after (Reset device zone) z state = if z == zone then all_gone state else state
zone_after (Flush device) z state = all_firm state
zone_after (Replace device) z state = all_gone state
zone_after call z state = state

-- whether a device is lost after a call: a replacement of it that is answered finds it, and nothing else changes that
abbrev pub lost_after : Call → Bool → ℕ → Bool → Bool
lost_after (Replace device) answered d lost = if answered && (d == device) then false else lost
lost_after call answered d lost = lost

-- Only an append needs memory: it takes the room to note what may come after it.
abbrev pub NeedsMemory : Call → Type 0
NeedsMemory (Append device zone bytes) = ⊤
NeedsMemory call = ⊥

-- a call made at the moment changes each zone in its way
pub record ZonesGo (moment : ℕ) (change : ℕ → State → State) (old new : List Track) : Type 0 where
  pub count : length new ≡ length old
  pub each : (z : ℕ) → Goes moment (change z) (track_in old z) (track_in new z)

-- A call on it failed at the moment. Where no memory was found to note a failure, each later moment is told.
abbrev pub HasFailedAt : View → ℕ → Type 0
HasFailedAt view moment = Contains view.failed moment ⊎ IsSomeAnd view.unnoted (λ first. first ≤ moment)

-- no call failed
pub record KeepsFailures (old new : View) : Type 0 where
  pub faults : new.faults ≡ old.faults
  pub failed : new.failed ≡ old.failed
  pub unnoted : new.unnoted ≡ old.unnoted

-- a call that is made on the device at the moment
pub record DeviceMakes {T E : Type 0} (moment : ℕ) (call : Call) (old new : View) (result : Result T E) : Type 0 where
  pub ok : OnOk result (ZonesGo moment (zone_after call) old.tracks new.tracks)
  pub err : OnErr result ((new.tracks ≡ old.tracks) × NeedsMemory call)
  pub failures : KeepsFailures old new
  pub lost : new.lost ≡ lost_after call (is_ok result) (device_of call) old.lost

-- one more failed call
pub record NotesFailure (moment : ℕ) (old new : View) : Type 0 where
  pub keeps : (m : ℕ) → HasFailedAt old m → HasFailedAt new m
  pub told : HasFailedAt new moment
  pub only : (m : ℕ) → HasFailedAt new m → HasFailedAt old m ⊎ (moment ≤ m)
