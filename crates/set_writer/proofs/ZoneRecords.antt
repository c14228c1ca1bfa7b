-- The records of the zones of a set.
use Rattle.std.proofs.Common.{◌≡◌, ℕ, ◌+◌, ◌<◌, true, false, List, [], ◌∷◌, ◌++◌, length, Option, Some, None, refl, sym, ap, subst, ◌∙◌, append_assoc, arith}
use Rattle.std.specs.Prelude.{◌==◌, not}
use Rattle.std.specs.Int.{div_ceil}
use Rattle.std.specs.List.{last_or}
use Rattle.std.proofs.lemmas.Bool.{and_from, eq-eqb, ne_eqb}
use Rattle.std.proofs.lemmas.List.{append-nil}
use Rattle.marker_format.specs.declared.kind.Kind.TheVariants.{Head, Digest, Trailer}
use Rattle.marker_format.specs.declared.marker.Marker.{Marker}
use Rattle.marker_format.specs.Zone.{Array, has_kind, keeps_digest, may_stand, begun, is_rebuilt, whole_records}
use Rattle.marker_format.specs.Fragment as blocks
use Rattle.marker_format.specs.Laws.{Fill}
use Rattle.marker_format.proofs.FragmentLaws.{length-blocks_from}
use Rattle.marker_format.proofs.ZoneLaws.{Fill-appended, begun-full, whole_records-first}
use Rattle.set_writer.specs.Entry.{Entry, fragment, at_index, entry_bytes, entries_bytes, IsEntry}
use Rattle.set_writer.specs.Writer.{Writer, array_by, zone_bytes, IsRecordAt, AreRecordsFrom, Wrote}
use Rattle.set_writer.specs.Laws.{markers_at}
use Rattle.set_writer.proofs.EntryLaws.{fragment_size}
use Rattle.set_writer.proofs.WroteLaws.{zone_open}

-- ---- one record more

-- what stands before a record of this position
abbrev pub Before : ℕ → ℕ → ℕ → Option Marker → Type 0
Before set' index position None = position ≡ 0
Before set' index position (Some b) = (b.set ≡ set') × (b.index ≡ index) × (b.position + 1 ≡ position) × (has_kind Digest b ≡ false)

no_digests : (b m : Marker) → has_kind Digest b ≡ false → has_kind Digest m ≡ false → keeps_digest b m ≡ true
no_digests b m no_b no_m = rw (no_b, no_m) refl

may : (array : Array) (set' index position : ℕ) (before : Option Marker) (e : Entry) → Before set' index position before → IsRecordAt array set' position e → may_stand before (at_index index e.marker) ≡ true
may array set' index position None e first is = is.head ∙ eq-eqb position 0 first
may array set' index position (Some b) e was is =
    let m = at_index index e.marker in
    let head : not (has_kind Head (at_index index e.marker)) ≡ true = ap not (is.head ∙ ne_eqb position 0 (λ p. let q = was.2 in omega (arith, p, q))) in
    let trailer : not (has_kind Trailer (at_index index e.marker)) ≡ true = ap not is.no_trailer in
    let next : ((at_index index e.marker).position == b.position + 1) ≡ true = eq-eqb e.marker.position (b.position + 1) (let p = is.position_is in let q = was.2 in omega (arith, p, q)) in
    let one_set = eq-eqb e.marker.set b.set (is.set_is ∙ sym was.0) in
    let one_index = eq-eqb index b.index (sym was.1) in
    and_from _ _ (and_from _ _ (and_from _ _ (and_from _ _ head trailer) next) (and_from _ _ one_set one_index)) (no_digests b (at_index index e.marker) was.3 is.no_digest)

pub last-more : (ms : List Marker) (m : Marker) (d : Option Marker) → last_or d (ms ++ m ∷ []) ≡ Some m
last-more [] m d = refl
last-more (x ∷ ms) m d = last-more ms m (Some x)

pub entry_fills : (array : Array) (k index : ℕ) (bytes : List ℕ) (ms : List Marker) (e : Entry) → k ≡ array.geometry.k → index < array.geometry.k + array.geometry.p → IsEntry array e → may_stand (last_or None ms) (at_index index e.marker) ≡ true → Fill array bytes ms
    → Fill array (bytes ++ entry_bytes k e index) (ms ++ at_index index e.marker ∷ [])
unfolding entry_bytes
entry_fills array k index bytes ms e code below is stands fill =
    let f = fragment k e.payload index in
    let size = ap (λ n. div_ceil n 511) (fragment_size array e k index is code below) in
    Fill-appended array bytes (blocks.fragment_blocks (fragment k e.payload index)) ms (at_index index e.marker) fill (record { marker = is.markers index below; ours = is.ours; may = stands })
    (omega (arith, size, length-blocks_from (blocks.blocks_of (length (fragment k e.payload index))) (fragment k e.payload index)))

pub records_fill : (array : Array) (k set' index position : ℕ) (bytes : List ℕ) (ms : List Marker) (es : List Entry) → k ≡ array.geometry.k → index < array.geometry.k + array.geometry.p → Fill array bytes ms → Before set' index position (last_or None ms)
    → AreRecordsFrom array set' position es → Fill array (bytes ++ entries_bytes k es index) (ms ++ markers_at index es)
records_fill array k set' index position bytes ms [] code below fill before are = subst (λ (l : List ℕ). Fill array l (ms ++ [])) (sym (append-nil bytes)) (subst (λ (l : List Marker). Fill array bytes l) (sym (append-nil ms)) fill)
records_fill array k set' index position bytes ms (e ∷ es) code below fill before are =
    let m = at_index index e.marker in
    let one = entry_fills array k index bytes ms e code below are.0.entry (may array set' index position (last_or None ms) e before are.0) fill in
    let now : Before set' index (position + 1) (last_or None (ms ++ at_index index e.marker ∷ [])) = subst (Before set' index (position + 1)) (sym (last-more ms (at_index index e.marker) None)) (are.0.set_is, refl, ap (λ n. n + 1) are.0.position_is, are.0.no_digest) in
    subst (λ (l : List ℕ). Fill array l (ms ++ markers_at index (e ∷ es))) (append_assoc bytes (entry_bytes k e index) (entries_bytes k es index))
    (subst (λ (l : List Marker). Fill array ((bytes ++ entry_bytes k e index) ++ entries_bytes k es index) l) (append_assoc ms (at_index index e.marker ∷ []) (markers_at index es))
    (records_fill array k set' index (position + 1) (bytes ++ entry_bytes k e index) (ms ++ at_index index e.marker ∷ []) es code below one now are.1))

-- ---- the zones of an open set

pub wrote_fills : (w : Writer) (es : List Entry) (index : ℕ) → index < w.geometry.k + w.geometry.p → Wrote w es → Fill (array_by w) (entries_bytes w.geometry.k es index) (markers_at index es)
wrote_fills w es index below wrote = records_fill (array_by w) w.geometry.k w.set index 0 [] [] es refl below (record { begin = tt; full = refl }) refl wrote.records

-- the head isn't that of a rebuilt zone, so neither are the first ones of the records
first_zone : (array : Array) (set' index : ℕ) (es : List Entry) (ms rest : List Marker) → AreRecordsFrom array set' 0 es → markers_at index es ≡ ms ++ rest → is_rebuilt ms ≡ false
first_zone array set' index es [] rest are is = refl
first_zone array set' index [] (m ∷ ms) rest are is = absurd cc
first_zone array set' index (e ∷ es) (m ∷ ms) rest are is =
    let same : at_index index e.marker ≡ m = cc in
    let zero : m.part ≡ 0 = sym (ap (λ (x : Marker). x.part) same) ∙ are.0.first_zone refl in
    ne_eqb m.part 1 (λ one. omega (arith, zero, one))

pub zone_has_records : (w : Writer) (es : List Entry) (index : ℕ) → index < w.geometry.k + w.geometry.p → w.is_closed ≡ false → Wrote w es → whole_records (array_by w) (zone_bytes w es index) ≡ markers_at index es
zone_has_records w es index below open_ wrote =
    let fill = wrote_fills w es index below wrote in
    let all : begun (array_by w) (entries_bytes w.geometry.k es index) ≡ markers_at index es = begun-full (array_by w) (entries_bytes w.geometry.k es index) (markers_at index es) fill.begin fill.full in
    let first = first_zone (array_by w) w.set index es (begun (array_by w) (entries_bytes w.geometry.k es index)) [] wrote.records (sym all ∙ sym (append-nil (begun (array_by w) (entries_bytes w.geometry.k es index)))) in
    ap (whole_records (array_by w)) (zone_open w es index open_) ∙ whole_records-first (array_by w) (entries_bytes w.geometry.k es index) first ∙ all

-- and all that it begins with are these
pub zone_begun : (w : Writer) (es : List Entry) (index : ℕ) → index < w.geometry.k + w.geometry.p → w.is_closed ≡ false → Wrote w es → begun (array_by w) (zone_bytes w es index) ≡ markers_at index es
zone_begun w es index below open_ wrote =
    let fill = wrote_fills w es index below wrote in
    ap (begun (array_by w)) (zone_open w es index open_) ∙ begun-full (array_by w) (entries_bytes w.geometry.k es index) (markers_at index es) fill.begin fill.full
