-- Laws of what is read of the zones that a writer wrote: it is what was written, from any k of them.
use Rattle.std.specs.Prelude.{◌≡◌, ℕ, ◌*◌, ◌<◌, ◌≤◌, true, List, [], ◌∷◌, ◌++◌, length, map, take, nat_eq}
use Rattle.std.specs.List.{AllByRecursion, IsDistinct, flat_map, range_with_len}
use Rattle.smore_base.specs.declared.limits.TheConstants.{BLOCK_BYTES}
use Rattle.smore_base.specs.Geometry.{IsWithinLimits}
use Rattle.gf_field.specs.Field.{AreBytes}
use Rattle.zone_bay.specs.Contents.{Contents}
use Rattle.marker_format.specs.declared.marker.Marker.{Marker}
use Rattle.marker_format.specs.Kind.{kind_of}
use Rattle.marker_format.specs.Zone.{Array}
use Rattle.array_model.specs.Payload.{AreFragments}
use Rattle.array_model.specs.Drives.{bytes_at}
use Rattle.array_model.specs.Record.{Record, Digest}
use Rattle.array_model.specs.Reading.{Carrier, fragments_of, agreed, record_by, records_from}
use Rattle.array_model.specs.Kept.{HaveOnePayload, HavePayloads}
use Rattle.set_digest.specs.Lines.{IsList, spelling_of_list}
use Rattle.set_digest.specs.Records.{listed_of}
use Rattle.set_writer.specs.Entry.{Entry, fragment, at_index, entries_bytes, IsEntry, HasBytes}
use Rattle.set_writer.specs.Writer.{Writer, array_by, written, digest, blocks_in, zone_bytes, CanDigest, AreRecordsFrom, Wrote}
use Rattle.set_writer.specs.Laws.{markers_at, records_of}

-- ---- fragments

-- the first n fragments of a payload, in order of index
abbrev pub fragments_for : ℕ → ℕ → List ℕ → List (List ℕ)
fragments_for k n payload = map (fragment k payload) (range_with_len 0 n)

-- The fragments that are put on the members are those of the payload.
abbrev pub FragmentsAreOfPayload : Type 0
FragmentsAreOfPayload = (k n : ℕ) (payload : List ℕ) → 1 ≤ k → k ≤ n → n ≤ 256 → AreBytes payload → AreFragments k n payload (fragments_for k n payload)

-- ---- carriers with the same records

-- a record that can stand in the zones of a set, with a payload of bytes
pub record IsCoded (array : Array) (e : Entry) : Type 0 where
  pub entry : IsEntry array e
  pub bytes : AreBytes e.payload

-- the carrier's zone begins with these records
pub record BeginsWith (array : Array) (es : List Entry) (held : Contents) (c : Carrier) : Type 0 where
  pub below : c.index < fragments_of array
  pub rest : List ℕ
  pub bytes : bytes_at held c.place ≡ entries_bytes array.geometry.k es c.index ++ rest

-- These carriers' zones begin with the same records.
pub record HaveRecords (array : Array) (es : List Entry) (held : Contents) (carriers : List Carrier) : Type 0 where
  pub within : IsWithinLimits array.geometry
  pub coded : AllByRecursion (IsCoded array) es
  pub each : AllByRecursion (BeginsWith array es held) carriers

-- So they have fragments of one payload of each of these records,
abbrev pub CarriersHaveOnePayload : Type 0
CarriersHaveOnePayload = (array : Array) (before after : List Entry) (e : Entry) (held : Contents) (carriers : List Carrier) (index : ℕ) → HaveRecords array (before ++ e ∷ after) held carriers → HaveOnePayload array held carriers (blocks_in before) (at_index index e.marker)

-- and of all of them, where these are the first ones that the carriers agree on.
abbrev pub CarriersHavePayloads : Type 0
CarriersHavePayloads = (array : Array) (es : List Entry) (held : Contents) (carriers : List Carrier) (index : ℕ) (more : List Marker) → HaveRecords array es held carriers → agreed array held carriers ≡ markers_at index es ++ more → HavePayloads array held carriers (length es)

-- ---- records with their payloads

-- the record that is read where an entry was written
abbrev pub item_of : Entry → Record
item_of e = record_by (kind_of e.marker.kind) e.marker e.payload

-- carriers of distinct indexes, and k of them
pub record AreEnough (array : Array) (carriers : List Carrier) : Type 0 where
  pub distinct : IsDistinct nat_eq (map (λ (c : Carrier). c.index) carriers)
  pub enough : array.geometry.k ≤ length carriers

-- Any k carriers that have the records give them, each with its payload.
abbrev pub CarriersGiveRecords : Type 0
CarriersGiveRecords = (array : Array) (es : List Entry) (held : Contents) (carriers : List Carrier) (index : ℕ) → HaveRecords array es held carriers → AreEnough array carriers → records_from array held carriers 0 (markers_at index es) ≡ map item_of es

-- ---- the zones of a writer

-- All records of a set are so, those of its digest too,
abbrev pub RecordsAreCoded : Type 0
RecordsAreCoded = (w : Writer) (es : List Entry) → Wrote w es → AllByRecursion HasBytes es → AllByRecursion (IsCoded (array_by w)) (records_of w es)

-- and a zone of it, cut off behind some of them, begins with these.
abbrev pub CutZoneBegins : Type 0
CutZoneBegins = (n count : ℕ) (w : Writer) (es : List Entry) (index : ℕ) → index < fragments_of (array_by w) → Wrote w es → BLOCK_BYTES * blocks_in (take count (records_of w es)) ≤ n
    → (rest : List ℕ) × (take n (zone_bytes w es index) ≡ entries_bytes w.geometry.k (take count (records_of w es)) index ++ rest)

-- the carrier holds a prefix of what the writer wrote there, with the blocks of so many records
pub record HoldsFirst (w : Writer) (es : List Entry) (count : ℕ) (held : Contents) (c : Carrier) : Type 0 where
  pub below : c.index < fragments_of (array_by w)
  pub cut : ℕ
  pub long : BLOCK_BYTES * blocks_in (take count (records_of w es)) ≤ cut
  pub bytes : bytes_at held c.place ≡ take cut (zone_bytes w es c.index)

-- So any k carriers that hold as much of the zones of a set give its first records, as they were written.
abbrev pub WrittenIsRead : Type 0
WrittenIsRead = (w : Writer) (es : List Entry) (count : ℕ) (held : Contents) (carriers : List Carrier) (index : ℕ) → IsWithinLimits w.geometry → Wrote w es → AllByRecursion HasBytes es
    → AreEnough (array_by w) carriers → AllByRecursion (HoldsFirst w es count held) carriers
    → records_from (array_by w) held carriers 0 (markers_at index (take count (records_of w es))) ≡ map item_of (take count (records_of w es))

-- the carrier holds a prefix of what the writer wrote there
pub record HoldsPrefix (w : Writer) (es : List Entry) (held : Contents) (c : Carrier) : Type 0 where
  pub below : c.index < fragments_of (array_by w)
  pub cut : ℕ
  pub bytes : bytes_at held c.place ≡ take cut (zone_bytes w es c.index)

-- Where k carriers hold any prefixes of what was written, the records that they agree on are read as they were written.
abbrev pub AgreedIsRead : Type 0
AgreedIsRead = (w : Writer) (es : List Entry) (count : ℕ) (held : Contents) (carriers : List Carrier) (index : ℕ) → IsWithinLimits w.geometry → Wrote w es → AllByRecursion HasBytes es
    → AreEnough (array_by w) carriers → AllByRecursion (HoldsPrefix w es held) carriers → count ≤ length (records_of w es) → agreed (array_by w) held carriers ≡ markers_at index (take count (records_of w es))
    → records_from (array_by w) held carriers 0 (agreed (array_by w) held carriers) ≡ map item_of (take count (records_of w es))

-- ---- the digest

-- The lines that a writer keeps are a spelled list of the records that it wrote.
abbrev pub LinesAreOfRecords : Type 0
LinesAreOfRecords = (w : Writer) (set index : ℕ) (es : List Entry) → AreRecordsFrom (array_by w) set 0 es → (written w set es).lines ≡ spelling_of_list (listed_of (markers_at index es))

-- The payloads of the digest records are these lines, cut into parts.
abbrev pub DigestHasLines : Type 0
DigestHasLines = (w : Writer) → CanDigest w → flat_map (λ (e : Entry). e.payload) (digest w) ≡ w.lines

-- the part of a list of records that a digest record has
abbrev pub digest_part : Record → List ℕ
digest_part (Digest part parts payload) = payload
digest_part item = []

-- what the digest of a set is where its records are read: of the records before it, with their blocks, the spelled list
pub record ListsRecords (items : List Record) (ms : List Marker) : Type 0 where
  pub is_list : IsList (listed_of ms)
  pub spelled : flat_map digest_part items ≡ spelling_of_list (listed_of ms)

-- So the digest of a closed set, joined and read, is the list of its records.
abbrev pub DigestListsRecords : Type 0
DigestListsRecords = (w : Writer) (es : List Entry) (index : ℕ) → index < fragments_of (array_by w) → w.is_closed ≡ true → Wrote w es → ListsRecords (map item_of (records_of w es)) (markers_at index (records_of w es))
