-- Feet of zones, and the one spelling of each.
use Rattle.std.specs.Prelude.{ℕ, ◌^◌, ◌<◌, List, [], ◌∷◌, ◌++◌, codes}
use Rattle.std.specs.Int.{w8, w16, w32, w64}
use Rattle.smore_base.specs.BigEndian.{number_at, Fields, spelled}
use Rattle.marker_format.specs.declared.foot.Foot.{Foot}

-- each field has its width
pub record IsFoot (f : Foot) : Type 0 where
  pub set : f.set < 2 ^ 64
  pub index : f.index < 2 ^ 8
  pub position : f.position < 2 ^ 16
  pub block : f.block < 2 ^ 32
  pub count : f.count < 2 ^ 32

-- the numbers of a foot, in their widths
abbrev pub fields_of : Foot → Fields
fields_of f = (w64, f.set) ∷ (w8, f.index) ∷ (w16, f.position) ∷ (w32, f.block) ∷ (w32, f.count) ∷ []

-- the one spelling: 27 bytes
unfoldable pub spelling_of : Foot → List ℕ
spelling_of f = codes "SMOREFT1" ++ spelled (fields_of f)

-- the foot whose fields stand in these bytes
abbrev pub foot_at : List ℕ → Foot
foot_at bytes = record {
  set = number_at w64 bytes 8;
  index = number_at w8 bytes 16;
  position = number_at w16 bytes 17;
  block = number_at w32 bytes 19;
  count = number_at w32 bytes 23;
}
