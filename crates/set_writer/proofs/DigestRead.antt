-- The digest of a closed set, joined, is the list of its records.
use Rattle.std.proofs.Common.{◌≡◌, ℕ, zero, suc, ◌+◌, ◌*◌, ◌<◌, true, false, cond, List, [], ◌∷◌, ◌++◌, map, take, drop, refl, sym, ap, ap₂, ◌∙◌, subst, arith, append-nil}
use Rattle.std.specs.List.{flat_map, range_with_len}
use Rattle.std.proofs.lemmas.Bool.{both_ways, eq-eqb}
use Rattle.std.proofs.lemmas.List.{drop-drop, map-append, take_all}
use Rattle.std.proofs.lemmas.Grind.{flat_map-append, div_ceil_times}
use Rattle.std.proofs.Math.Seq.{take-add}
use Rattle.smore_base.specs.Room.{payload_room}
use Rattle.marker_format.specs.declared.kind.Kind.{Kind}
use Rattle.marker_format.specs.declared.kind.Kind.TheVariants as kinds
use Rattle.marker_format.specs.declared.kind.Kind.TheVariants.{Digest}
use Rattle.marker_format.specs.declared.marker.Marker.{Marker}
use Rattle.marker_format.specs.Kind.{code_of, kind_of}
use Rattle.marker_format.specs.Zone.{Array, Begin, has_kind}
use Rattle.marker_format.proofs.ZoneLaws.{Begin-begun}
use Rattle.array_model.specs.Reading.{fragments_of, record_by}
use Rattle.set_digest.specs.Lines.{spelling_of_list}
use Rattle.set_digest.specs.Records.{lines_from, before_digest}
use Rattle.set_digest.proofs.RecordLaws.{records_are_listed}
use Rattle.set_writer.specs.Entry.{Entry, at_index}
use Rattle.set_writer.specs.Writer.{Writer, array_by, written, parts_of, part_of, digest_record, first_digests, digest, zone_bytes, AreRecordsFrom}
use Rattle.set_writer.specs.Laws.{markers_at, records_of}
use Rattle.set_writer.specs.PayloadLaws.{item_of, digest_part, LinesAreOfRecords, DigestHasLines, DigestListsRecords}
use Rattle.set_writer.proofs.AgreedRecords.{zone_all}
use Rattle.set_writer.proofs.ClosedZones.{markers-join}
use Rattle.set_writer.proofs.DigestLaws.{room_some}
use Rattle.set_writer.proofs.LineBytes.{lines_written}

-- ---- the list

-- no digest record is among the others
all_before : (array : Array) (set' position index : ℕ) (es : List Entry) (more : List Marker) → AreRecordsFrom array set' position es → before_digest (markers_at index es ++ more) ≡ markers_at index es ++ before_digest more
all_before array set' position index [] more are = refl
all_before array set' position index (e ∷ es) more are =
    ap (λ b. cond b [] (at_index index e.marker ∷ before_digest (markers_at index es ++ more))) are.0.no_digest
    ∙ ap (λ (l : List Marker). at_index index e.marker ∷ l) (all_before array set' (position + 1) index es more are.1)

pub lines_are_of_records : LinesAreOfRecords
lines_are_of_records w set' index es are =
    lines_written w set' index es
    ∙ ap (λ (ms : List Marker). spelling_of_list (lines_from 0 ms))
    (sym (ap before_digest (sym (append-nil (markers_at index es))) ∙ all_before (array_by w) set' 0 index es [] are ∙ append-nil (markers_at index es)))

-- nothing of a digest stands before it
none_before : (w : Writer) (index count : ℕ) → before_digest (markers_at index (first_digests w count)) ≡ []
none_before w index zero = refl
none_before w index (suc count) = refl

-- ---- the parts

-- bytes that were cut into parts of a size, from one part on
parts_joined : (size from count : ℕ) (l : List ℕ) → flat_map (λ part. take size (drop (part * size) l)) (range_with_len from count) ≡ take (count * size) (drop (from * size) l)
parts_joined size from zero l = ap (λ n. take n (drop (from * size) l)) (let e : 0 ≡ 0 * size = omega arith in e)
parts_joined size from (suc count) l =
    ap (λ (rest : List ℕ). take size (drop (from * size) l) ++ rest)
    (parts_joined size (from + 1) count l
    ∙ ap (take (count * size)) (ap (λ n. drop n l) (let e : (from + 1) * size ≡ from * size + size = omega arith in e) ∙ sym (drop-drop size (from * size) l)))
    ∙ sym (take-add size (count * size) (drop (from * size) l))
    ∙ ap (λ n. take n (drop (from * size) l)) (let e : size + count * size ≡ suc count * size = omega arith in e)

payloads_of : (w : Writer) (from count : ℕ) → flat_map (λ (e : Entry). e.payload) (map (digest_record w) (range_with_len from count)) ≡ flat_map (part_of w) (range_with_len from count)
payloads_of w from zero = refl
payloads_of w from (suc count) = ap (λ (l : List ℕ). part_of w from ++ l) (payloads_of w (from + 1) count)

pub digest_has_lines : DigestHasLines
digest_has_lines w can =
    let size = payload_room w.geometry in
    let lines = can.lines in
    let all = (div_ceil_times (320 * w.records) (payload_room w.geometry) (room_some w can)).0 in
    payloads_of w 0 (parts_of w)
    ∙ parts_joined (payload_room w.geometry) 0 (parts_of w) w.lines
    ∙ ap (λ n. take (parts_of w * payload_room w.geometry) (drop n w.lines)) (let e : 0 * payload_room w.geometry ≡ 0 = omega arith in e)
    ∙ take_all (parts_of w * payload_room w.geometry) w.lines (omega (arith, lines, all))

-- ---- the digest as it is read

-- other records are no part of it
no_part : (kind : Kind) (m : Marker) (payload : List ℕ) → m.kind ≡ code_of kind → has_kind Digest m ≡ false → digest_part (record_by (kind_of m.kind) m payload) ≡ []
no_part kinds.Head m payload coded none = ap (λ n. digest_part (record_by (kind_of n) m payload)) coded
no_part kinds.Part m payload coded none = ap (λ n. digest_part (record_by (kind_of n) m payload)) coded
no_part kinds.Put m payload coded none = ap (λ n. digest_part (record_by (kind_of n) m payload)) coded
no_part kinds.Delete m payload coded none = ap (λ n. digest_part (record_by (kind_of n) m payload)) coded
no_part kinds.Cut m payload coded none = ap (λ n. digest_part (record_by (kind_of n) m payload)) coded
no_part kinds.Ready m payload coded none = ap (λ n. digest_part (record_by (kind_of n) m payload)) coded
no_part kinds.Digest m payload coded none = absurd (both_ways (has_kind Digest m) none (eq-eqb m.kind 7 coded))
no_part kinds.Snapshot m payload coded none = ap (λ n. digest_part (record_by (kind_of n) m payload)) coded
no_part kinds.Trailer m payload coded none = ap (λ n. digest_part (record_by (kind_of n) m payload)) coded

no_parts : (array : Array) (set' position index : ℕ) (es : List Entry) → index < fragments_of array → AreRecordsFrom array set' position es → flat_map digest_part (map item_of es) ≡ []
no_parts array set' position index [] below are = refl
no_parts array set' position index (e ∷ es) below are =
    let is = are.0.entry.markers index below in
    ap₂ (λ (a b : List ℕ). a ++ b) (no_part is.kind e.marker e.payload is.coded are.0.no_digest) (no_parts array set' (position + 1) index es below are.1)

-- but these are
digest_parts : (w : Writer) (from count : ℕ) → flat_map digest_part (map item_of (map (digest_record w) (range_with_len from count))) ≡ flat_map (λ (e : Entry). e.payload) (map (digest_record w) (range_with_len from count))
digest_parts w from zero = refl
digest_parts w from (suc count) = ap (λ (l : List ℕ). part_of w from ++ l) (digest_parts w (from + 1) count)

records_closed : (w : Writer) (es : List Entry) → w.is_closed ≡ true → records_of w es ≡ es ++ digest (written w w.set es)
records_closed w es is = ap (λ b. es ++ cond b (digest (written w w.set es)) []) is

pub digest_lists_records : DigestListsRecords
digest_lists_records w es index below is wrote =
    let v = written w w.set es in
    let ms = markers_at index (records_of w es) in
    let all = records_closed w es is in
    let begin : Begin (array_by w) (zone_bytes w es index) (markers_at index (records_of w es)) = subst (λ (l : List Marker). Begin (array_by w) (zone_bytes w es index) l) (zone_all w.is_closed w es index refl below wrote) (Begin-begun (array_by w) (zone_bytes w es index)) in
    let before : before_digest (markers_at index (records_of w es)) ≡ markers_at index es =
    ap (λ (l : List Entry). before_digest (markers_at index l)) all
    ∙ ap before_digest (markers-join index es (digest v))
    ∙ all_before (array_by w) w.set 0 index es (markers_at index (digest v)) wrote.records
    ∙ ap (λ (l : List Marker). markers_at index es ++ l) (none_before v index (parts_of v))
    ∙ append-nil (markers_at index es) in
    record {
      is_list = records_are_listed (array_by w) (zone_bytes w es index) (markers_at index (records_of w es)) begin;
      spelled =
          ap (λ (l : List Entry). flat_map digest_part (map item_of l)) all
          ∙ ap (flat_map digest_part) (map-append item_of es (digest v))
          ∙ flat_map-append digest_part (map item_of es) (map item_of (digest v))
          ∙ ap₂ (λ (a b : List ℕ). a ++ b) (no_parts (array_by w) w.set 0 index es below wrote.records) (digest_parts v 0 (parts_of v))
          ∙ digest_has_lines v (wrote.can is)
          ∙ lines_written w w.set index es
          ∙ ap (λ (l : List Marker). spelling_of_list (lines_from 0 l)) (sym before);
    }
