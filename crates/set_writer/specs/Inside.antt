-- What a writer keeps.
use Rattle.std.specs.Prelude.{◌≡◌, ℕ, ◌+◌, ◌*◌, ◌/◌, ◌<◌, ◌≤◌, Bool, true, false}
use Rattle.smore_base.specs.declared.geometry.Geometry.{Geometry}
use Rattle.smore_base.specs.declared.limits.TheConstants.{BLOCK_BYTES, CONTENT_BYTES, LINE_BYTES, MAX_RECORDS}
use Rattle.smore_base.specs.Geometry.{IsWithinLimits}
use Rattle.smore_base.specs.Room.{closing, digest_records}
use Rattle.marker_format.specs.declared.marker.TheConstants.{COUNTER_END}
use Rattle.set_writer.specs.Members.{IsOfCode}

-- how many bytes its buffers have
pub record Buffers : Type 0 where
  pub out : ℕ
  pub pieces : ℕ
  -- for how many lines there is room, and how many bytes of them were found
  pub room : ℕ
  pub capacity : ℕ

-- its set, the blocks and the records of it, and how many bytes of lines
pub record Amounts : Type 0 where
  pub set : ℕ
  pub used : ℕ
  pub records : ℕ
  pub lines : ℕ
  pub is_closed : Bool

-- There is room for the blocks of a record, for the fragments of a digest record, and for the lines of two records at least.
pub record HasBuffers (g : Geometry) (b : Buffers) : Type 0 where
  pub out_is : b.out ≡ BLOCK_BYTES * (1 + g.shard / CONTENT_BYTES)
  pub pieces_is : b.pieces ≡ (g.k + g.p) * g.shard
  pub two : 2 ≤ b.room
  pub found : LINE_BYTES * b.room ≤ b.capacity

-- a set that isn't closed can be closed, and has a line for each record
abbrev pub CanClose : Geometry → Amounts → Bool → Type 0
CanClose g a true = (a.used ≤ g.blocks) × (a.records ≤ MAX_RECORDS)
CanClose g a false = (a.used + closing g a.records ≤ g.blocks) × (a.records + digest_records g a.records ≤ MAX_RECORDS) × (a.lines ≡ LINE_BYTES * a.records)

pub record KeepsWriter (g : Geometry) (k p : ℕ) (b : Buffers) (a : Amounts) : Type 0 where
  pub within : IsWithinLimits g
  pub code : IsOfCode g k p
  pub set_from : 1 ≤ a.set
  pub set_to : a.set < COUNTER_END
  pub buffers : HasBuffers g b
  pub can : CanClose g a a.is_closed
