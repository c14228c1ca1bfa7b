-- The bytes of an object, as they lie in a zone.
use Rattle.std.specs.Prelude.{◌≡◌, ℕ, zero, suc, ◌+◌, ◌*◌, ◌≤◌, List, [], ◌++◌, length, Option, Some, None}
use Rattle.std.specs.FinMap as finmap
use Rattle.smore_base.specs.declared.limits.TheConstants.{BLOCK_BYTES}
use Rattle.marker_format.specs.Fragment.{fragment_at, blocks_of}
use Rattle.store_core.specs.declared.index.Part.{Part}
use Rattle.store_core.specs.Index.{Parts}

-- the bytes of a part
abbrev pub part_in : List ℕ → Option Part → List ℕ
part_in zone None = []
part_in zone (Some part) = fragment_at zone (part.block + 1) part.bytes

-- those of so many parts of an upload, from this one on
abbrev pub parts_at : Parts → List ℕ → ℕ → ℕ → ℕ → List ℕ
parts_at parts zone upload part zero = []
parts_at parts zone upload part (suc more) = part_in zone (finmap.get parts (upload, part)) ++ parts_at parts zone upload (part + 1) more

-- a part lies within so many blocks, and its own take no more than so many bytes
pub record CanBeRead (blocks space : ℕ) (part : Part) : Type 0 where
  pub within : part.block + 1 + blocks_of part.bytes ≤ blocks
  pub fits : BLOCK_BYTES * blocks_of part.bytes ≤ space

-- so does each part of the upload
abbrev pub AllCanBeRead : ℕ → ℕ → Parts → ℕ → Type 0
AllCanBeRead blocks space parts upload = (number : ℕ) (part : Part) → finmap.get parts (upload, number) ≡ Some part → CanBeRead blocks space part

-- each of them lies within the bytes
abbrev pub AllLieIn : List ℕ → Parts → ℕ → Type 0
AllLieIn zone parts upload = (number : ℕ) (part : Part) → finmap.get parts (upload, number) ≡ Some part → BLOCK_BYTES * (part.block + 1 + blocks_of part.bytes) ≤ length zone
