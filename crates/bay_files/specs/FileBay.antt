-- A bay over a folder as it is made.
use Rattle.std.specs.Prelude.{◌≡◌, ℕ, ◌+◌, ◌<◌, ◌≤◌}
use Rattle.smore_base.specs.declared.geometry.Geometry.{Geometry}
use Rattle.zone_bay.specs.Outside.{last}
use Rattle.zone_bay.specs.Contents.{Shape}
use Rattle.zone_bay.specs.Bay.{BayState}

-- the shape of an array of this geometry: the flash is one device more
abbrev pub shape_of : Geometry → Shape
shape_of geometry = record { devices = geometry.drives + 1; zones = geometry.zones; blocks = geometry.blocks }

-- the shape of a bay that has nothing
abbrev pub no_devices : Shape
no_devices = record { devices = 0; zones = 0; blocks = 0 }

-- A bay of this shape of which no call was made.
pub record IsFresh (shape : Shape) (bay : BayState) : Type 0 where
  pub has_shape : bay.shape ≡ shape
  pub no_calls : bay.moment ≡ 0
  pub no_reads : bay.reads ≡ 0
  pub no_faults : (d : ℕ) → bay.faults d ≡ 0
  -- of no device it is told that it failed, but of the last moment
  pub none_failed : (d m : ℕ) → d < shape.devices → bay.failed d m → last ≤ m
