-- Labels of devices: which device of which array each is, and the one spelling.
use Rattle.std.specs.Prelude.{◌≡◌, ℕ, ◌+◌, ◌^◌, ◌<◌, List, [], ◌∷◌, ◌++◌, length, take, drop, codes}
use Rattle.std.specs.Int.{w8, w16, w32}
use Rattle.smore_base.specs.BigEndian.{number_at, Fields, spelled}
use Rattle.smore_base.specs.Geometry.{IsWithinLimits}
use Rattle.marker_format.specs.declared.label.Label.{Label}

-- each field has its width
pub record IsLabel (l : Label) : Type 0 where
  pub version : l.version < 2 ^ 8
  pub device : l.device < 2 ^ 8
  pub drives : l.geometry.drives < 2 ^ 8
  pub k : l.geometry.k < 2 ^ 8
  pub p : l.geometry.p < 2 ^ 8
  pub zones : l.geometry.zones < 2 ^ 16
  pub blocks : l.geometry.blocks < 2 ^ 32
  pub shard : l.geometry.shard < 2 ^ 32
  pub array : length l.array ≡ 16

-- the numbers of a label, in their widths
abbrev pub fields_of : Label → Fields
fields_of l =
    (w8, l.version) ∷ (w8, l.device) ∷ (w8, l.geometry.drives) ∷ (w8, l.geometry.k) ∷ (w8, l.geometry.p)
    ∷ (w16, l.geometry.zones) ∷ (w32, l.geometry.blocks) ∷ (w32, l.geometry.shard) ∷ []

-- the one spelling: 39 bytes
unfoldable pub spelling_of : Label → List ℕ
spelling_of l = codes "SMORELB1" ++ (spelled (fields_of l) ++ l.array)

-- the label whose fields stand in these bytes
abbrev pub label_at : List ℕ → Label
label_at bytes = record {
  version = number_at w8 bytes 8;
  device = number_at w8 bytes 9;
  geometry = record {
    drives = number_at w8 bytes 10;
    k = number_at w8 bytes 11;
    p = number_at w8 bytes 12;
    zones = number_at w16 bytes 13;
    blocks = number_at w32 bytes 15;
    shard = number_at w32 bytes 19;
  };
  array = take 16 (drop 23 bytes);
}

-- A label of a device of this bay, which has so many devices, zones and blocks. The last device is the flash.
pub record IsLabelOfBay (devices zones blocks device : ℕ) (l : Label) : Type 0 where
  pub version : l.version ≡ 1
  pub within : IsWithinLimits l.geometry
  pub number : l.device ≡ device
  pub devices_are : l.geometry.drives + 1 ≡ devices
  pub zones_are : l.geometry.zones ≡ zones
  pub blocks_are : l.geometry.blocks ≡ blocks
