-- Copies of zones and devices, as a crash leaves them.
use Rattle.std.specs.Prelude.{◌≡◌, ℕ, ◌<◌, List, length}
use Rattle.zone_bay.specs.Contents.{Contents}
use Rattle.bay_memory.specs.Past.{Track, IsFresh}
use Rattle.bay_memory.specs.Device.{View, view_with, track_in}
use Rattle.bay_memory.specs.Array.{view_at}

-- each zone of the device has held what is left of it from the start, all of it firm
pub record AreCopies (left : Contents) (device zones : ℕ) (tracks : List Track) : Type 0 where
  pub count : length tracks ≡ zones
  pub each : (z : ℕ) → z < zones → IsFresh (left device z) (track_in tracks z)

-- so has each of this device, on which no call was made
pub record IsCopy (left : Contents) (device zones : ℕ) (view : View) : Type 0 where
  pub fresh : view ≡ view_with view.tracks
  pub copied : AreCopies left device zones view.tracks

pub record AreDeviceCopies (left : Contents) (devices zones : ℕ) (views : List View) : Type 0 where
  pub count : length views ≡ devices
  pub each : (d : ℕ) → d < devices → IsCopy left d zones (view_at views d)
