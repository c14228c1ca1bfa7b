-- A walk over the records of a zone.
use Rattle.std.specs.Prelude.{ℕ, ◌+◌, ◌*◌, ◌/◌, Bool, false, ◌&&◌, ◌==◌, nat_le, List, [], ◌∷◌, length, replicate, Option, Some, None, option_map, if◌then◌else◌}
use Rattle.std.specs.Str.{bytes_eq}
use Rattle.smore_base.specs.declared.limits.TheConstants.{BLOCK_BYTES}
use Rattle.marker_format.specs.declared.kind.Kind.TheVariants.{Digest, Trailer}
use Rattle.marker_format.specs.declared.marker.Marker.{Marker}
use Rattle.marker_format.specs.declared.foot.Foot.{Foot}
use Rattle.marker_format.specs.Kind.{code_of}
use Rattle.marker_format.specs.Block.{marker_in_block, foot_block}
use Rattle.marker_format.specs.Zone.{Array, blocks_of, has_kind, belongs, shares_zone, stands_at, block_at, records_from}
use Rattle.zone_parse.specs.declared.walk.Last.{Last}
use Rattle.zone_parse.specs.declared.walk.FirstDigest.{FirstDigest}
use Rattle.zone_parse.specs.declared.walk.Walk.{Walk}

-- what a walk keeps of a record
abbrev pub last_of : Marker → Last
last_of m = record { kind = m.kind; index = m.index; set = m.set; position = m.position; part = m.part; parts = m.parts }

-- a record of which only this is known
abbrev pub as_marker : Last → Marker
as_marker l = record {
  kind = l.kind;
  index = l.index;
  k = 0;
  n = 0;
  set = l.set;
  position = l.position;
  fragment = 0;
  stamp = 0;
  upload = 0;
  part = l.part;
  parts = l.parts;
  length = 0;
  payload = 0;
  array = [];
  name = None;
}

-- the record before the walk's place
abbrev pub before_of : Walk → Option Marker
before_of w = option_map as_marker w.last

-- the first digest record, where this record is the next one
abbrev pub digest_with : Option FirstDigest → ℕ → Marker → Option FirstDigest
digest_with (Some first) block m = Some first
digest_with None block m = if has_kind Digest m then Some (record { position = m.position; block = block }) else None

-- a walk that begins
abbrev pub start : Walk
start = record { last = None; digest = None; block = 0 }

-- the walk behind one more record
abbrev pub behind : Walk → Marker → Walk
behind w m = record { last = Some (last_of m); digest = digest_with w.digest w.block m; block = w.block + blocks_of m }

-- the walk behind these records
abbrev pub behind_all : Walk → List Marker → Walk
behind_all w [] = w
behind_all w (m ∷ ms) = behind_all (behind w m) ms

-- the records that the walk comes to
unfoldable pub records_behind : Array → List ℕ → Walk → List Marker
records_behind array bytes w = records_from (length bytes / BLOCK_BYTES) array bytes (before_of w) w.block

-- the foot that may follow the walk's records
abbrev pub foot_seen : Option FirstDigest → Option Last → Option Foot
foot_seen None last = None
foot_seen (Some first) None = None
foot_seen (Some first) (Some last) =
    if (last.kind == code_of Digest) && (last.part + 1 == last.parts)
    then Some (record { set = last.set; index = last.index; position = first.position; block = first.block; count = last.parts })
    else None

-- a block of the bytes, or zeros where they don't have all of it
unfoldable pub shown : List ℕ → ℕ → List ℕ
shown bytes block = if nat_le (BLOCK_BYTES * (block + 1)) (length bytes) then block_at bytes block else replicate BLOCK_BYTES 0

-- the walk behind all records that it comes to
abbrev pub end_of : Array → List ℕ → Walk → Walk
end_of array bytes w = behind_all w (records_behind array bytes w)

-- the block holds this foot
abbrev pub holds_foot : Option Foot → List ℕ → Bool
holds_foot None block = false
holds_foot (Some foot) block = bytes_eq block (foot_block foot)

-- the foot of the walk's records stands right behind them
abbrev pub foot_at : List ℕ → Walk → Bool
foot_at bytes w = stands_at bytes w.block (foot_seen w.digest w.last)

-- the marker is that of a trailer behind a zone's last record
abbrev pub ends_zone : Array → Option Last → Option Marker → Bool
ends_zone array None m = false
ends_zone array (Some last) None = false
ends_zone array (Some last) (Some m) = has_kind Trailer m && belongs array m && (m.position == last.position + 1) && shares_zone (as_marker last) m

-- the block behind the walk's records, or behind their foot
abbrev pub place_behind : Walk → Bool → ℕ
place_behind w foot = if foot then w.block + 1 else w.block

-- a trailer stands behind the walk's records, or behind their foot
abbrev pub trailer_at : Array → List ℕ → Walk → Bool
trailer_at array bytes w = ends_zone array w.last (marker_in_block (block_at bytes (place_behind w (foot_at bytes w))))
