-- A writer of a set: what it knows of the set that it appends to, and what the set's zones hold.
use Rattle.std.specs.Prelude.{◌≡◌, ℕ, ◌+◌, ◌-◌, ◌*◌, ◌/◌, ◌<◌, ◌≤◌, max, Bool, true, false, ◌||◌, ◌==◌, List, [], ◌∷◌, ◌++◌, length, map, take, drop, None, if◌then◌else◌}
use Rattle.std.specs.Int.{div_ceil}
use Rattle.std.specs.List.{AllByRecursion, fold, range_with_len}
use Rattle.smore_base.specs.declared.geometry.Geometry.{Geometry}
use Rattle.smore_base.specs.declared.limits.TheConstants.{LINE_BYTES, MAX_RECORDS}
use Rattle.smore_base.specs.Geometry.{IsWithinLimits}
use Rattle.marker_format.specs.declared.marker.TheConstants.{COUNTER_END}
use Rattle.smore_base.specs.Room.{payload_room, closing, digest_records}
use Rattle.zone_bay.specs.Contents.{Contents}
use Rattle.rs_code.specs.Coded.{CodedPayload}
use Rattle.marker_format.specs.declared.kind.Kind.{Kind}
use Rattle.marker_format.specs.declared.kind.Kind.TheVariants.{Head, Part, Put, Delete, Cut, Ready, Digest, Snapshot, Trailer}
use Rattle.marker_format.specs.declared.marker.Marker.{Marker}
use Rattle.marker_format.specs.declared.foot.Foot.{Foot}
use Rattle.marker_format.specs.Kind.{code_of}
use Rattle.marker_format.specs.Block.{foot_block}
use Rattle.marker_format.specs.Zone.{Array, blocks_of, has_kind}
use Rattle.marker_format.specs.Plain.{plain_of}
use Rattle.set_digest.specs.Line.{spelling_of}
use Rattle.set_digest.specs.Records.{line_of}
use Rattle.set_table.specs.declared.zone_use.ZoneUse.TheVariants.{Empty, Carrier}
use Rattle.set_table.specs.Table.{Table, use_at, is_live, fragments_of}
use Rattle.set_writer.specs.declared.first.First.{First}
use Rattle.set_writer.specs.declared.first.First.TheVariants.{Opens, Keeps, IsReady}
use Rattle.set_writer.specs.Entry.{Entry, IsEntry, HasBytes, entries_bytes}

-- A writer, as its callers see it.
pub record Writer : Type 0 where
  pub geometry : Geometry
  -- the array's number
  pub id : List ℕ
  pub set : ℕ
  -- the blocks and the records that the set has, those of a digest and its foot among them once it is closed
  pub used : ℕ
  pub records : ℕ
  -- the lines of the records that its digest lists, one behind the other
  pub lines : List ℕ
  pub is_closed : Bool
  -- for how many lines there is room in memory
  pub room : ℕ

abbrev pub array_by : Writer → Array
array_by w = record { geometry = w.geometry; id = w.id }

-- how many lines there are
abbrev pub listed_of : Writer → ℕ
listed_of w = length w.lines / LINE_BYTES

-- For how many records there is room. A set that follows begins with two lines, so two are kept for them.
abbrev pub spare_of : Writer → ℕ
spare_of w = w.room - max 2 (listed_of w)

-- ---- what it appends

-- of a set that has no record yet
abbrev pub begun : Writer → ℕ → Writer
begun w set = record w { set = set; used = 0; records = 0; lines = []; is_closed = false }

-- behind one record more
abbrev pub behind : Writer → Marker → Writer
behind w m = record w { used = w.used + blocks_of m; records = w.records + 1; lines = w.lines ++ spelling_of (line_of w.used m) }

-- when just these records of the set were written
unfoldable pub written : Writer → ℕ → List Entry → Writer
written w set es = fold (λ w (e : Entry). behind w e.marker) (begun w set) es

-- a record without a payload
abbrev pub bare : Marker → Entry
bare m = record { marker = m; payload = [] }

-- the marker of a first record of a set, at this position
abbrev pub first_marker : Array → ℕ → ℕ → First → Marker
first_marker array set position Opens = plain_of array set Head position
first_marker array set position (Keeps target kept) = record (plain_of array set Cut position) { upload = target; length = kept }
first_marker array set position IsReady = plain_of array set Ready position

abbrev pub first_record : Array → ℕ → ℕ → First → Entry
first_record array set position first = bare (first_marker array set position first)

-- cuts from this position on: of each target so many records are kept
abbrev pub cuts_from : Array → ℕ → ℕ → List (ℕ × ℕ) → List Entry
cuts_from array set position [] = []
cuts_from array set position (cut ∷ cuts) = first_record array set position (Keeps cut.0 cut.1) ∷ cuts_from array set (position + 1) cuts

-- a head, and cuts behind it
abbrev pub headed : Array → ℕ → List (ℕ × ℕ) → List Entry
headed array set cuts = first_record array set 0 Opens ∷ cuts_from array set 1 cuts

-- The records that a set begins with: its head, cuts and a ready record.
abbrev pub opening : Array → ℕ → List (ℕ × ℕ) → List Entry
opening array set cuts = headed array set cuts ++ first_record array set (1 + length cuts) IsReady ∷ []

-- ---- how it closes a set

-- how many digest records list the records
abbrev pub parts_of : Writer → ℕ
parts_of w = digest_records w.geometry w.records

-- the part of the lines that a digest record has
abbrev pub part_of : Writer → ℕ → List ℕ
part_of w part = take (payload_room w.geometry) (drop (part * payload_room w.geometry) w.lines)

abbrev pub digest_marker : Writer → ℕ → Marker
digest_marker w part = record (plain_of (array_by w) w.set Digest (w.records + part)) {
  fragment = div_ceil (length (part_of w part)) w.geometry.k;
  part = part;
  parts = parts_of w;
  payload = length (part_of w part);
}

abbrev pub digest_record : Writer → ℕ → Entry
digest_record w part = record { marker = digest_marker w part; payload = part_of w part }

-- the first so many digest records
abbrev pub first_digests : Writer → ℕ → List Entry
first_digests w count = map (digest_record w) (range_with_len 0 count)

-- The digest: the lines of all records so far, cut into payloads of digest records.
abbrev pub digest : Writer → List Entry
digest w = first_digests w (parts_of w)

-- the foot in the zone of an index
abbrev pub foot_at : Writer → ℕ → Foot
foot_at w index = record { set = w.set; index = index; position = w.records; block = w.used; count = parts_of w }

-- its block
abbrev pub foot_bytes : Writer → ℕ → List ℕ
foot_bytes w index = foot_block (foot_at w index)

-- the blocks of records
abbrev pub blocks_in : List Entry → ℕ
blocks_in [] = 0
blocks_in (e ∷ es) = blocks_of e.marker + blocks_in es

-- once it has closed the set
abbrev pub closed : Writer → Writer
closed w = record w { used = w.used + blocks_in (digest w) + 1; records = w.records + parts_of w; is_closed = true }

-- What is known of a writer whose set can be closed: its digest, a foot and a trailer fit it.
pub record CanDigest (w : Writer) : Type 0 where
  pub within : IsWithinLimits w.geometry
  pub id : length w.id ≡ 16
  pub set_from : 1 ≤ w.set
  pub set_to : w.set < COUNTER_END
  pub lines : length w.lines ≡ LINE_BYTES * w.records
  pub blocks : w.used + closing w.geometry w.records ≤ w.geometry.blocks
  pub records : w.records + digest_records w.geometry w.records ≤ MAX_RECORDS

-- ---- what the zones of its set hold

-- these records, and where the set is closed, its digest and foot
abbrev pub zone_bytes : Writer → List Entry → ℕ → List ℕ
zone_bytes w es index =
    let before = written w w.set es in
    entries_bytes w.geometry.k es index ++ (if w.is_closed then entries_bytes w.geometry.k (digest before) index ++ foot_bytes before index else [])

-- The record stands at this position of the set: only the first is a head, and it is that of a first zone. Digest records and
-- trailers aren't listed.
pub record IsRecordAt (array : Array) (set position : ℕ) (e : Entry) : Type 0 where
  pub entry : IsEntry array e
  pub set_is : e.marker.set ≡ set
  pub index_is : e.marker.index ≡ 0
  pub position_is : e.marker.position ≡ position
  pub head : has_kind Head e.marker ≡ (position == 0)
  pub first_zone : position ≡ 0 → e.marker.part ≡ 0
  pub no_digest : has_kind Digest e.marker ≡ false
  pub no_trailer : has_kind Trailer e.marker ≡ false

-- these are the records of a set from this position on
abbrev pub AreRecordsFrom : Array → ℕ → ℕ → List Entry → Type 0
AreRecordsFrom array set position [] = Unit {0}
AreRecordsFrom array set position (e ∷ es) = IsRecordAt array set position e × AreRecordsFrom array set (position + 1) es

-- The writer wrote these records of its set and no others, and closed the set where it says so.
pub record Wrote (w : Writer) (es : List Entry) : Type 0 where
  pub is : w ≡ (if w.is_closed then closed (written w w.set es) else written w w.set es)
  pub some : 0 < length es
  pub records : AreRecordsFrom (array_by w) w.set 0 es
  pub can : w.is_closed ≡ true → CanDigest (written w w.set es)

-- the empty zones of live drives hold nothing
abbrev pub EmptyHold : Table → Contents → Type 0
EmptyHold t held = (d z : ℕ) → is_live t d ≡ true → use_at t.zones d z ≡ Empty → held d z ≡ []

-- The zones of live drives that carry the writer's set hold just what it wrote there.
abbrev pub HoldsSet : Writer → List Entry → Table → Contents → Type 0
HoldsSet w es t held = (d z index : ℕ) → index < fragments_of t → is_live t d ≡ true → use_at t.zones d z ≡ Carrier w.set index → held d z ≡ zone_bytes w es index

-- The zones of live drives hold what the table and the writer say: those that carry the set just what the writer wrote there, and
-- those that are empty nothing.
pub record Fits (w : Writer) (es : List Entry) (t : Table) (held : Contents) : Type 0 where
  pub wrote : Wrote w es
  pub bytes : AllByRecursion HasBytes es
  pub members : HoldsSet w es t held
  pub empty : EmptyHold t held

-- kinds of records that are appended: parts, notes, cuts and parts of a snapshot
abbrev pub is_appended : Marker → Bool
is_appended m = has_kind Part m || has_kind Put m || has_kind Delete m || has_kind Cut m || has_kind Snapshot m

-- The record can be appended: it is one of the set, at its next position, and its payload has so many bytes and is made for the
-- geometry's code.
pub record IsAppended (w : Writer) (m : Marker) (body : CodedPayload) : Type 0 where
  pub entry : IsEntry (array_by w) (record { marker = m; payload = body.payload })
  pub kind : is_appended m ≡ true
  pub set_is : m.set ≡ w.set
  pub position_is : m.position ≡ w.records
  pub code : (body.k ≡ w.geometry.k) × (body.p ≡ w.geometry.p)
