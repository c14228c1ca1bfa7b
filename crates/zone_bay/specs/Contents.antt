-- What the zones of an array hold, and what may be made of it.
use Rattle.std.specs.Prelude.{◌≡◌, ℕ, ◌+◌, ◌&&◌, ◌==◌, List, [], ◌++◌, length, take, drop, if◌then◌else◌}
use Rattle.smore_base.specs.declared.geometry.Geometry.{Geometry}

-- how many devices, zones of each device and blocks of each zone
pub record Shape : Type 0 where
  pub devices : ℕ
  pub zones : ℕ
  pub blocks : ℕ

-- the geometry is the bay's: the last device is the flash
pub record IsOfBay (g : Geometry) (shape : Shape) : Type 0 where
  pub devices : g.drives + 1 ≡ shape.devices
  pub zones : g.zones ≡ shape.zones
  pub blocks : g.blocks ≡ shape.blocks

-- the bytes of each zone, by device and zone
abbrev pub Contents : Type 0
Contents = ℕ → ℕ → List ℕ

-- a number of bytes of each zone, by device and zone
abbrev pub Lengths : Type 0
Lengths = ℕ → ℕ → ℕ

-- the same, but for one zone, which holds these bytes
abbrev pub with_zone : ℕ → ℕ → List ℕ → Contents → Contents
with_zone device zone bytes held d z = if (d == device) && (z == zone) then bytes else held d z

-- the bytes stand at the end of the zone
abbrev pub appended : ℕ → ℕ → List ℕ → Contents → Contents
appended device zone bytes held = with_zone device zone (held device zone ++ bytes) held

-- the zone holds nothing
abbrev pub emptied : ℕ → ℕ → Contents → Contents
emptied device zone = with_zone device zone []

-- the device holds nothing
abbrev pub blanked : ℕ → Contents → Contents
blanked device held d z = if d == device then [] else held d z

-- each zone holds what it held, and perhaps more behind it
abbrev pub Extends : Contents → Contents → Type 0
Extends held more = (d z : ℕ) → (behind : List ℕ) × (more d z ≡ held d z ++ behind)

-- these are the zone's bytes from there on
abbrev pub Reads : List ℕ → ℕ → List ℕ → Type 0
Reads zone at out = out ≡ take (length out) (drop at zone)
