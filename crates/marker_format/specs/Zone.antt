-- The grammar of a zone: which records its bytes begin with, and which foot and which trailer follow them.
use Rattle.std.specs.Prelude.{◌≡◌, ℕ, zero, suc, ◌+◌, ◌*◌, ◌/◌, ◌≤◌, Bool, true, false, ◌&&◌, not, nat_le, ◌==◌, List, [], ◌∷◌, ◌++◌, length, take, drop, Option, Some, None, if◌then◌else◌}
use Rattle.std.specs.Int.{div_ceil}
use Rattle.std.specs.List.{last_or}
use Rattle.std.specs.Str.{bytes_eq}
use Rattle.smore_base.specs.declared.geometry.Geometry.{Geometry}
use Rattle.smore_base.specs.declared.limits.TheConstants.{BLOCK_BYTES, CONTENT_BYTES}
use Rattle.marker_format.specs.declared.kind.Kind.{Kind}
use Rattle.marker_format.specs.declared.kind.Kind.TheVariants.{Head, Digest, Trailer}
use Rattle.marker_format.specs.declared.marker.Marker.{Marker}
use Rattle.marker_format.specs.declared.foot.Foot.{Foot}
use Rattle.marker_format.specs.Kind.{code_of}
use Rattle.marker_format.specs.Marker.{IsMarker}
use Rattle.marker_format.specs.Block.{marker_block, foot_block, marker_in_block}

-- what the labels of an array say of each of its zones
pub record Array : Type 0 where
  pub geometry : Geometry
  pub id : List ℕ

-- ---- blocks

-- the block of this number, as far as the bytes have it
abbrev pub block_at : List ℕ → ℕ → List ℕ
block_at bytes block = take BLOCK_BYTES (drop (BLOCK_BYTES * block) bytes)

-- how many blocks a record takes: its marker's, and those of its fragment
abbrev pub blocks_of : Marker → ℕ
blocks_of m = 1 + div_ceil m.fragment CONTENT_BYTES

-- the block behind records that stand from this block on
abbrev pub end_from : ℕ → List Marker → ℕ
end_from block [] = block
end_from block (m ∷ ms) = end_from (block + blocks_of m) ms

-- ---- which records may stand one behind the other

abbrev pub has_kind : Kind → Marker → Bool
has_kind kind m = m.kind == code_of kind

-- a marker of this array: of its code, and with a payload of at most k shards
abbrev pub belongs : Array → Marker → Bool
belongs array m =
    let g = array.geometry in
    (m.k == g.k) && (m.n == g.k + g.p) && bytes_eq m.array array.id && nat_le m.payload (g.k * g.shard)

-- they are of one set, and have one index
abbrev pub shares_zone : Marker → Marker → Bool
shares_zone before m = (m.set == before.set) && (m.index == before.index)

-- After a digest record only the next digest record follows. The first one has part 0.
abbrev pub keeps_digest : Marker → Marker → Bool
keeps_digest before m =
    if has_kind Digest before then has_kind Digest m && (m.part == before.part + 1) && (m.parts == before.parts)
    else if has_kind Digest m then m.part == 0
    else true

-- A zone begins with a head, and no other record is one. Each next record has the position one above, in the same zone. A
-- trailer is no record.
abbrev pub may_stand : Option Marker → Marker → Bool
may_stand None m = has_kind Head m
may_stand (Some before) m =
    not (has_kind Head m) && not (has_kind Trailer m) && (m.position == before.position + 1) && shares_zone before m && keeps_digest before m

-- ---- whole records

-- A record is whole where a well formed marker of this array stands at its first block, and all its blocks lie within the
-- bytes. What its other blocks hold doesn't matter.
pub record IsWhole (array : Array) (bytes : List ℕ) (block : ℕ) (m : Marker) : Type 0 where
  pub marker : IsMarker m
  pub ours : belongs array m ≡ true
  pub stands : block_at bytes block ≡ marker_block m
  pub within : BLOCK_BYTES * (block + blocks_of m) ≤ length bytes

-- From the block on, behind this record (behind none where the zone begins), whole records with these markers stand one
-- behind the other.
abbrev pub Stand : Array → List ℕ → Option Marker → ℕ → List Marker → Type 0
Stand array bytes before block [] = Unit {0}
Stand array bytes before block (m ∷ ms) = IsWhole array bytes block m × (may_stand before m ≡ true) × Stand array bytes (Some m) (block + blocks_of m) ms

-- the bytes of a zone begin with whole records with these markers
abbrev pub Begin : Array → List ℕ → List Marker → Type 0
Begin array bytes ms = Stand array bytes None 0 ms

-- ---- the longest list of them

-- what is there, where it passes the test
abbrev pub where_passes : (Marker → Bool) → Option Marker → Option Marker
where_passes test None = None
where_passes test (Some m) = if test m then Some m else None

-- the record that stands at the block, behind this one
unfoldable pub next_at : Array → List ℕ → Option Marker → ℕ → Option Marker
next_at array bytes before block =
    where_passes (λ m. belongs array m && may_stand before m && nat_le (BLOCK_BYTES * (block + blocks_of m)) (length bytes)) (marker_in_block (block_at bytes block))

abbrev pub with_more : Option Marker → (Marker → List Marker) → List Marker
with_more None more = []
with_more (Some m) more = m ∷ more m

-- the records that stand from the block on, behind this one: so many at most
unfoldable pub records_from : ℕ → Array → List ℕ → Option Marker → ℕ → List Marker
records_from zero array bytes before block = []
records_from (suc most) array bytes before block =
    with_more (next_at array bytes before block) (λ m. records_from most array bytes (Some m) (block + blocks_of m))

-- The records that a zone's bytes begin with. They are no more than there are blocks. These laws hold:
--     Begin array bytes (begun array bytes)
--     Begin array bytes ms → IsPrefix ms (begun array bytes)
unfoldable pub begun : Array → List ℕ → List Marker
begun array bytes = records_from (length bytes / BLOCK_BYTES) array bytes None 0

-- the first records of a list
abbrev pub IsPrefix : List Marker → List Marker → Type 0
IsPrefix some all = (rest : List Marker) × (all ≡ some ++ rest)

-- ---- what follows the records

-- a record, and the block of its marker
pub record Placed : Type 0 where
  pub marker : Marker
  pub block : ℕ

-- the first digest record of records that stand from the block on
abbrev pub first_digest : ℕ → List Marker → Option Placed
first_digest block [] = None
first_digest block (m ∷ ms) = if has_kind Digest m then Some (record { marker = m; block = block }) else first_digest (block + blocks_of m) ms

-- the foot of records whose first digest record is this one, and whose last record is this one
abbrev pub foot_between : Option Placed → Option Marker → Option Foot
foot_between None last = None
foot_between (Some first) None = None
foot_between (Some first) (Some last) =
    if has_kind Digest last && (last.part + 1 == last.parts)
    then Some (record { set = last.set; index = last.index; position = first.marker.position; block = first.block; count = last.parts })
    else None

-- After the last digest record a foot may follow. It has the zone's set and index, says where the first digest record
-- stands, and how many there are.
abbrev pub foot_of : List Marker → Option Foot
foot_of ms = foot_between (first_digest 0 ms) (last_or None ms)

-- this foot stands at the block
abbrev pub stands_at : List ℕ → ℕ → Option Foot → Bool
stands_at bytes block None = false
stands_at bytes block (Some foot) = bytes_eq (block_at bytes block) (foot_block foot)

-- its foot stands right behind these records
unfoldable pub foot_follows : List ℕ → List Marker → Bool
foot_follows bytes ms = stands_at bytes (end_from 0 ms) (foot_of ms)

-- A trailer is of the zone of the last record, and its position is the number of records.
abbrev pub is_trailer : Array → ℕ → Option Marker → Option Marker → Bool
is_trailer array count None m = false
is_trailer array count (Some last) None = false
is_trailer array count (Some last) (Some m) = has_kind Trailer m && belongs array m && (m.position == count) && shares_zone last m

-- a trailer stands right behind these records, or behind their foot
unfoldable pub trailer_follows : Array → List ℕ → List Marker → Bool
trailer_follows array bytes ms =
    let block = end_from 0 ms + (if foot_follows bytes ms then 1 else 0) in
    is_trailer array (length ms) (last_or None ms) (marker_in_block (block_at bytes block))

-- the head has the rebuilt mark
abbrev pub is_rebuilt : List Marker → Bool
is_rebuilt [] = false
is_rebuilt (head ∷ ms) = head.part == 1

-- ---- the whole records of a zone

-- The records that the bytes begin with. In a rebuilt zone they count only where a trailer follows.
unfoldable pub whole_records : Array → List ℕ → List Marker
whole_records array bytes =
    let ms = begun array bytes in
    if is_rebuilt ms && not (trailer_follows array bytes ms) then [] else ms

-- a whole foot follows the whole records
unfoldable pub has_foot : Array → List ℕ → Bool
has_foot array bytes = foot_follows bytes (whole_records array bytes)

-- records from the block on, with their blocks
abbrev pub placed_from : ℕ → List Marker → List Placed
placed_from block [] = []
placed_from block (m ∷ ms) = record { marker = m; block = block } ∷ placed_from (block + blocks_of m) ms

-- the whole records with their blocks
abbrev pub placed_records : Array → List ℕ → List Placed
placed_records array bytes = placed_from 0 (whole_records array bytes)
