-- The fragments of a record, one behind the other.
use Rattle.std.specs.Prelude.{◌≡◌, ℕ, ◌+◌, ◌*◌, ◌<◌, ◌≤◌, Bool, List, length, map, if◌then◌else◌}
use Rattle.std.specs.List.{flat_map, range_with_len, slice_index}
use Rattle.smore_base.specs.declared.limits.TheConstants.{BLOCK_BYTES}
use Rattle.zone_bay.specs.Contents.{Shape, Contents}
use Rattle.marker_format.specs.Fragment.{blocks_of, fragment_at}
use Rattle.array_model.specs.Payload.{Fragment, fragment_from}
use Rattle.set_table.specs.declared.members.Member.{Member}

-- the bay has the zone of the member
pub record IsInBay (shape : Shape) (m : Member) : Type 0 where
  pub device : m.device < shape.devices
  pub zone : m.zone < shape.zones

-- the zone has the blocks of a fragment of so many bytes, behind a marker at this block
abbrev pub HasBlocks : Contents → ℕ → ℕ → Member → Type 0
HasBlocks held block f m = BLOCK_BYTES * (block + 1 + blocks_of f) ≤ length (held m.device m.zone)

-- the fragment of so many bytes behind a marker at this block
abbrev pub fragment_on : Contents → ℕ → ℕ → Member → List ℕ
fragment_on held block f m = fragment_at (held m.device m.zone) (block + 1) f

-- those of these members
abbrev pub rows_of : Contents → ℕ → ℕ → List Member → List ℕ
rows_of held block f members = flat_map (fragment_on held block f) members

-- the fragments of these members, with their indexes
abbrev pub given_by : Contents → ℕ → ℕ → List Member → List Fragment
given_by held block f members = map (λ m. record { index = m.index; bytes = fragment_on held block f m }) members

-- the indexes of members
abbrev pub indexes_of : List Member → List ℕ
indexes_of members = map (λ m. m.index) members

-- their devices
abbrev pub devices_of : List Member → List ℕ
devices_of members = map (λ m. m.device) members

-- the first k fragments, of f bytes each, from the given ones
abbrev pub sources_from : ℕ → ℕ → List Fragment → List ℕ
sources_from k f given = flat_map (fragment_from given f) (range_with_len 0 k)

-- they are the source fragments, in order
abbrev pub AreSources : List Member → Type 0
AreSources members = (i : ℕ) → i < length members → slice_index (indexes_of members) i ≡ i

-- The room that reading takes: for the source fragments, for others that are read in their place, and for the blocks of one.
abbrev pub space_of : Bool → ℕ → ℕ → ℕ
space_of plain size f = (if plain then size else 2 * size) + BLOCK_BYTES * blocks_of f
