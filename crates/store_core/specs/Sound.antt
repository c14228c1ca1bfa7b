-- What holds of each index, also where a bay tells nothing of what it holds.
use Rattle.std.specs.Prelude.{◌≡◌, ℕ, ◌+◌, ◌<◌, ◌≤◌, true, List, Some, IsSome}
use Rattle.std.specs.FinMap as finmap
use Rattle.smore_base.specs.Name.{IsName}
use Rattle.marker_format.specs.declared.marker.Marker.{Marker}
use Rattle.marker_format.specs.declared.kind.Kind.TheVariants.{Part as PartKind, Put as PutKind}
use Rattle.marker_format.specs.Zone as zone
use Rattle.store_core.specs.declared.index.Note.{Note}
use Rattle.store_core.specs.declared.index.Part.{Part}
use Rattle.store_core.specs.declared.index.Index.{Index}
use Rattle.marker_format.specs.Fragment.{blocks_of}
use Rattle.store_core.specs.Index.{notes_in, parts_in}

-- a part of an upload below this stamp lies within so many blocks, and has a shard's bytes at most
pub record IsSoundPart (blocks shard stamp upload : ℕ) (part : Part) : Type 0 where
  pub past : upload < stamp
  pub within : part.block + 1 + blocks_of part.bytes ≤ blocks
  pub small : part.bytes ≤ shard

-- names are names, notes are of uploads below this stamp, and the parts have their place
pub record IsSoundIndex (blocks shard stamp : ℕ) (index : Index) : Type 0 where
  pub names : (name : List ℕ) → IsSome (finmap.get (notes_in index) name) → IsName name
  pub notes : (name : List ℕ) (note : Note) → finmap.get (notes_in index) name ≡ Some note → note.upload < stamp
  pub parts : (upload number : ℕ) (part : Part) → finmap.get (parts_in index) (upload, number) ≡ Some part → IsSoundPart blocks shard stamp upload part

-- a record whose marker stands at this block has its place too
pub record HasPlace (blocks shard stamp block : ℕ) (m : Marker) : Type 0 where
  pub past : zone.has_kind PartKind m ≡ true → m.upload < stamp
  pub noted : zone.has_kind PutKind m ≡ true → m.upload < stamp
  pub within : block + zone.blocks_of m ≤ blocks
  pub small : m.payload ≤ shard
  pub one_source : m.k ≡ 1
