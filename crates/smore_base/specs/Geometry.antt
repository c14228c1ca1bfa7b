-- The limits of a geometry.
use Rattle.std.specs.Prelude.{◌≡◌, ℕ, ◌+◌, ◌*◌, ◌%◌, ◌≤◌, ◌<◌, Bool, ◌&&◌, nat_le, nat_lt, ◌==◌, Option, Some, None, if◌then◌else◌}
use Rattle.smore_base.specs.declared.geometry.Geometry.{Geometry}
use Rattle.smore_base.specs.declared.geometry.GeometryFault.{GeometryFault}

-- Each field's limit, as a test.
-- one source fragment at least, and room for a parity fragment beside them
abbrev pub fits_k : Geometry → Bool
fits_k g = nat_le 1 g.k && nat_lt g.k 20

-- one parity fragment at least, and no more than 20 fragments in all
abbrev pub fits_p : Geometry → Bool
fits_p g = nat_le 1 g.p && nat_le (g.k + g.p) 20

-- a drive for each fragment of a record, and no more than 24
abbrev pub fits_drives : Geometry → Bool
fits_drives g = nat_le (g.k + g.p) g.drives && nat_le g.drives 24

abbrev pub fits_zones : Geometry → Bool
fits_zones g = nat_le 4 g.zones && nat_le g.zones 4096

abbrev pub fits_blocks : Geometry → Bool
fits_blocks g = nat_le 128 g.blocks && nat_le g.blocks 524288

-- whole blocks of content, and no more than a quarter of what a zone has
abbrev pub fits_shard : Geometry → Bool
fits_shard g = nat_le 511 g.shard && nat_le g.shard 65408 && (g.shard % 511 == 0) && nat_le (4 * g.shard) (511 * g.blocks)

abbrev pub fault : ℕ → ℕ → GeometryFault
fault field value = record { field = field; value = value }

-- the first field that breaks its limit, in the order in which they are judged
abbrev pub first_fault : Geometry → Option GeometryFault
first_fault g =
    if fits_k g then
    if fits_p g then
    if fits_drives g then
    if fits_zones g then
    if fits_blocks g then
    if fits_shard g then None
    else Some (fault 6 g.shard)
    else Some (fault 5 g.blocks)
    else Some (fault 4 g.zones)
    else Some (fault 1 g.drives)
    else Some (fault 3 g.p)
    else Some (fault 2 g.k)

-- every field is within its limit
pub record IsWithinLimits (g : Geometry) : Type 0 where
  pub k_from : 1 ≤ g.k
  pub k_to : g.k < 20
  pub p_from : 1 ≤ g.p
  pub fragments : g.k + g.p ≤ 20
  pub drives_from : g.k + g.p ≤ g.drives
  pub drives_to : g.drives ≤ 24
  pub zones_from : 4 ≤ g.zones
  pub zones_to : g.zones ≤ 4096
  pub blocks_from : 128 ≤ g.blocks
  pub blocks_to : g.blocks ≤ 524288
  pub shard_from : 511 ≤ g.shard
  pub shard_to : g.shard ≤ 65408
  pub shard_whole : g.shard % 511 ≡ 0
  pub shard_share : 4 * g.shard ≤ 511 * g.blocks
