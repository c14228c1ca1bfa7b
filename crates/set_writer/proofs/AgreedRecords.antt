-- What the members of a set have, and what they agree on.
use Rattle.std.proofs.Common.{◌≡◌, ℕ, ◌+◌, ◌<◌, Bool, true, false, cond, List, [], ◌∷◌, ◌++◌, length, take, refl, sym, ap, ap₂, subst, ◌∙◌, arith}
use Rattle.std.specs.List.{AllByRecursion}
use Rattle.std.proofs.lemmas.Bool.{ne_eqb}
use Rattle.std.proofs.lemmas.List.{append-nil}
use Rattle.zone_bay.specs.Contents.{Contents}
use Rattle.marker_format.specs.declared.marker.Marker.{Marker}
use Rattle.marker_format.specs.Zone.{Array, begun, is_rebuilt, whole_records, has_foot, IsPrefix}
use Rattle.marker_format.proofs.ZoneLaws.{begun-cut, whole_records-first}
use Rattle.array_model.specs.Drives.{records_at}
use Rattle.array_model.specs.Reading.{Carrier, alike, agree, common, agreed}
use Rattle.set_table.specs.declared.zone_use.ZoneUse.TheVariants as uses
use Rattle.set_table.specs.Table.{Table, use_at, is_live}
use Rattle.set_writer.specs.Entry.{Entry, at_index}
use Rattle.set_table.specs.Table.{array_of}
use Rattle.set_writer.specs.Writer.{Writer, array_by, written, digest, zone_bytes, AreRecordsFrom, Wrote, Fits}
use Rattle.set_writer.specs.Laws.{markers_at, records_of, HoldsRecords}
use Rattle.set_writer.proofs.FirstLaws.{same_bytes}
use Rattle.set_writer.proofs.ZoneRecords.{zone_has_records, zone_begun}
use Rattle.set_writer.proofs.ClosedZones.{closed_zone}

-- ---- each member

zone_records : (b : Bool) (w : Writer) (es : List Entry) (index : ℕ) → w.is_closed ≡ b → index < w.geometry.k + w.geometry.p → Wrote w es → whole_records (array_by w) (zone_bytes w es index) ≡ markers_at index (es ++ cond b (digest (written w w.set es)) [])
zone_records true w es index is below wrote = (closed_zone w es index below is wrote).0
zone_records false w es index is below wrote = zone_has_records w es index below is wrote ∙ ap (markers_at index) (sym (append-nil es))

pub members_have_records : (w : Writer) (es : List Entry) (t : Table) (held : Contents) (d z index : ℕ) → array_by w ≡ array_of t → Fits w es t held → index < w.geometry.k + w.geometry.p → is_live t d ≡ true → use_at t.zones d z ≡ uses.Carrier w.set index → HoldsRecords w es held d z index
members_have_records w es t held d z index array fits below live is =
    let count = ap (λ (a : Array). a.geometry.k + a.geometry.p) array in
    let bytes : held d z ≡ zone_bytes w es index = fits.members d z index (omega (arith, below, count)) live is in
    record {
      records = ap (whole_records (array_by w)) bytes ∙ zone_records w.is_closed w es index refl below fits.wrote;
      foot = λ closed. ap (has_foot (array_by w)) bytes ∙ (closed_zone w es index below closed fits.wrote).1;
    }

-- ---- what is left of a zone

pub zone_all : (b : Bool) (w : Writer) (es : List Entry) (index : ℕ) → w.is_closed ≡ b → index < w.geometry.k + w.geometry.p → Wrote w es → begun (array_by w) (zone_bytes w es index) ≡ markers_at index (es ++ cond b (digest (written w w.set es)) [])
zone_all true w es index is below wrote = (closed_zone w es index below is wrote).2
zone_all false w es index is below wrote = zone_begun w es index below is wrote ∙ ap (markers_at index) (sym (append-nil es))

-- the head isn't that of a rebuilt zone
first_left : (array : Array) (set' index : ℕ) (es more : List Entry) (ms rest : List Marker) → 0 < length es → AreRecordsFrom array set' 0 es → markers_at index (es ++ more) ≡ ms ++ rest → is_rebuilt ms ≡ false
first_left array set' index es more [] rest some are is = refl
first_left array set' index [] more (m ∷ ms) rest some are is = absurd (omega (arith, some))
first_left array set' index (e ∷ es) more (m ∷ ms) rest some are is =
    let same : at_index index e.marker ≡ m = cc in
    let zero_ : m.part ≡ 0 = sym (ap (λ (x : Marker). x.part) same) ∙ are.0.first_zone refl in
    ne_eqb m.part 1 (λ one. omega (arith, zero_, one))

pub cut_zone_has_first : (n : ℕ) (w : Writer) (es : List Entry) (index : ℕ) → index < w.geometry.k + w.geometry.p → Wrote w es → IsPrefix (whole_records (array_by w) (take n (zone_bytes w es index))) (markers_at index (records_of w es))
cut_zone_has_first n w es index below wrote =
    let part = begun-cut n (array_by w) (zone_bytes w es index) in
    let split : markers_at index (records_of w es) ≡ begun (array_by w) (take n (zone_bytes w es index)) ++ part.0 = sym (zone_all w.is_closed w es index refl below wrote) ∙ part.1 in
    let first = first_left (array_by w) w.set index es (cond w.is_closed (digest (written w w.set es)) []) (begun (array_by w) (take n (zone_bytes w es index))) part.0 wrote.some wrote.records split in
    subst (λ (l : List Marker). IsPrefix l (markers_at index (records_of w es))) (sym (whole_records-first (array_by w) (take n (zone_bytes w es index)) first)) (part.0, split)

-- ---- all of them

-- the same marker in two zones
pub agree_on : (i j : ℕ) (m : Marker) → agree (at_index i m) (at_index j m) ≡ true
agree_on i j m = same_bytes (alike (at_index i m))

common_all : (i j : ℕ) (es : List Entry) → common (markers_at i es) (markers_at j es) ≡ markers_at i es
common_all i j [] = refl
common_all i j (e ∷ es) =
    ap (λ b. cond b (at_index i e.marker ∷ common (markers_at i es) (markers_at j es)) []) (agree_on i j e.marker)
    ∙ ap (λ (l : List Marker). at_index i e.marker ∷ l) (common_all i j es)

pub agreed_are_those : (array : Array) (held : Contents) (es : List Entry) (first : Carrier) (others : List Carrier) → AllByRecursion (λ (c : Carrier). records_at array held c.place ≡ markers_at c.index es) (first ∷ others) → agreed array held (first ∷ others) ≡ markers_at first.index es
agreed_are_those array held es first [] all = all.0
agreed_are_those array held es first (next ∷ others) all =
    ap₂ common all.0 (agreed_are_those array held es next others all.1) ∙ common_all first.index next.index es
