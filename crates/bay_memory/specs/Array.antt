-- What the devices of an array tell, and what a call does to that.
use Rattle.std.specs.Prelude.{◌≡◌, ◌≢◌, ℕ, ◌*◌, ◌<◌, ◌≤◌, ◌==◌, Bool, List, [], length, slice_index_or, Result, is_ok, OnOk, OnErr, if◌then◌else◌}
use Rattle.smore_base.specs.declared.limits.TheConstants.{BLOCK_BYTES}
use Rattle.zone_bay.specs.Outside.{counted}
use Rattle.zone_bay.specs.Contents.{Contents, Lengths}
use Rattle.zone_bay.specs.Bay.{Call, device_of}
use Rattle.bay_memory.specs.Past.{State, Track, IsSteady, Goes, now}
use Rattle.bay_memory.specs.Device.{View, view_with, track_in, zone_after, lost_after, NeedsMemory, HasFailedAt, NotesFailure, KeepsFailures}

abbrev pub view_at : List View → ℕ → View
view_at views device = slice_index_or views device (view_with [])

abbrev pub track_at : List View → ℕ → ℕ → Track
track_at views device zone = track_in (view_at views device).tracks zone

abbrev pub contents_in : List View → Contents
contents_in views device zone = (now (track_at views device zone)).bytes

abbrev pub firm_in : List View → Lengths
firm_in views device zone = (now (track_at views device zone)).firm

-- Each device has so many zones. No zone holds more than its blocks, or has more bytes firm than it holds.
pub record IsWhole (zones blocks : ℕ) (views : List View) : Type 0 where
  pub few : length views < 256
  pub zones_held : (d : ℕ) → d < length views → length (view_at views d).tracks ≡ zones
  pub fits : (d z : ℕ) → length (contents_in views d z) ≤ BLOCK_BYTES * blocks
  pub firm_held : (d z : ℕ) → firm_in views d z ≤ length (contents_in views d z)

abbrev pub AllSteady : ℕ → List View → Type 0
AllSteady moment views = (d z : ℕ) → IsSteady moment (track_at views d z)

-- what an answered call makes of each zone
abbrev pub state_after : Call → ℕ → ℕ → State → State
state_after call d z state = if d == device_of call then zone_after call z state else state

-- a call made at the moment changes each zone in its way
pub record ArrayGoes (moment : ℕ) (call : Call) (old new : List View) : Type 0 where
  pub count : length new ≡ length old
  pub zones : (d : ℕ) → length (view_at new d).tracks ≡ length (view_at old d).tracks
  pub each : (d z : ℕ) → Goes moment (state_after call d z) (track_at old d z) (track_at new d z)

-- no zone changes
pub record KeepsTracks (old new : List View) : Type 0 where
  pub count : length new ≡ length old
  pub tracks : (d : ℕ) → (view_at new d).tracks ≡ (view_at old d).tracks

-- no call failed
abbrev pub AllKeepFailures : List View → List View → Type 0
AllKeepFailures old new = (d : ℕ) → KeepsFailures (view_at old d) (view_at new d)

-- a call on the device failed at the moment
abbrev pub failed_in : List View → ℕ → ℕ → Type 0
failed_in views device moment = HasFailedAt (view_at views device) moment

abbrev pub lost_in : List View → ℕ → Bool
lost_in views device = (view_at views device).lost

abbrev pub with_lost : ℕ → Bool → List View → ℕ → Bool
with_lost device lost views d = if d == device then lost else lost_in views d

-- which devices are lost after a call
abbrev pub lost_then : Call → Bool → List View → ℕ → Bool
lost_then call answered views d = lost_after call answered d (lost_in views d)

-- a call that is made at the moment
pub record ArrayMakes {T E : Type 0} (moment : ℕ) (call : Call) (old new : List View) (result : Result T E) : Type 0 where
  pub ok : OnOk result (ArrayGoes moment call old new)
  pub err : OnErr result (KeepsTracks old new × NeedsMemory call)
  pub failures : AllKeepFailures old new
  pub lost : lost_in new ≡ lost_then call (is_ok result) old

-- A call on the device failed at the moment: that is counted and noted, and no zone changes.
pub record NotesFault (device moment : ℕ) (old new : List View) : Type 0 where
  pub tracks : KeepsTracks old new
  pub faults : (view_at new device).faults ≡ counted (view_at old device).faults
  pub no_fewer : (view_at old device).faults ≤ (view_at new device).faults
  pub noted : NotesFailure moment (view_at old device) (view_at new device)
  pub others : (d : ℕ) → d ≢ device → KeepsFailures (view_at old d) (view_at new d)
  pub lost : lost_in new ≡ lost_in old

-- no call was made on any device, and all that its zones hold they have held from the start, firm
pub record AreFresh (views : List View) : Type 0 where
  pub devices : (d : ℕ) → view_at views d ≡ view_with (view_at views d).tracks
  pub zones : (d z : ℕ) → (track_at views d z).past ≡ []
  pub all_firm : (d z : ℕ) → firm_in views d z ≡ length (contents_in views d z)
