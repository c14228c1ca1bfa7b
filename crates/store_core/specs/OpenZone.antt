-- Zones to which records are added.
use Rattle.std.specs.Prelude.{Bool, if◌then◌else◌, not, ◌&&◌, ◌==◌, nat_le, ◌≡◌, ℕ, ◌+◌, ◌<◌, ◌≤◌, true, false}
use Rattle.marker_format.specs.declared.kind.Kind.TheVariants.{Head, Digest}
use Rattle.marker_format.specs.declared.marker.Marker.{Marker}
use Rattle.marker_format.specs.declared.marker.TheConstants.{COUNTER_END}
use Rattle.marker_format.specs.Marker.{is_well_formed}
use Rattle.marker_format.specs.Zone.{has_kind}
use Rattle.store_core.specs.declared.zone.Load.{Load}
use Rattle.store_core.specs.declared.zone.OpenZone.{OpenZone}

-- the zone behind more records
abbrev pub behind : OpenZone → Load → OpenZone
behind zone load = record zone { blocks = zone.blocks + load.blocks; records = zone.records + load.records }

-- the zone behind one record more of so many blocks: the first one says which set and index it is of
abbrev pub with_record : OpenZone → Marker → ℕ → OpenZone
with_record zone m blocks = record {
  set = if zone.records == 0 then m.set else zone.set;
  index = if zone.records == 0 then m.index else zone.index;
  blocks = zone.blocks + blocks;
  records = zone.records + 1;
  is_torn = zone.is_torn;
}

-- its set and its index are those of a set of k 1 and p 1
pub record IsOfSet (zone : OpenZone) : Type 0 where
  pub set_from : 1 ≤ zone.set
  pub set_to : zone.set < COUNTER_END
  pub index : zone.index < 2

-- a record of a set of k 1 and p 1 with parts of so many bytes at most: none of a digest, and no head of a rebuilt zone
pub record IsOpenRecord (shard : ℕ) (m : Marker) : Type 0 where
  pub well : is_well_formed m ≡ true
  pub one_source : m.k ≡ 1
  pub one_parity : m.n ≡ 2
  pub small : m.payload ≤ shard
  pub no_digest : has_kind Digest m ≡ false
  pub first : (has_kind Head m && (m.part == 1)) ≡ false

-- the same as a test
abbrev pub is_open_record : ℕ → Marker → Bool
is_open_record shard m = is_well_formed m && (m.k == 1) && (m.n == 2) && nat_le m.payload shard && not (has_kind Digest m) && not (has_kind Head m && (m.part == 1))
