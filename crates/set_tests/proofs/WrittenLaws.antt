-- The records that a writer wrote stand at their places, and are read there.
use Rattle.std.proofs.Common.{◌≡◌, ℕ, zero, suc, ◌+◌, ◌<◌, Bool, true, false, cond, List, ◌∷◌, ◌++◌, filter, nat_eq, refl, sym, ap, ◌∙◌, subst, arith}
use Rattle.std.specs.List.{AllByRecursion, IsDistinct, range_with_len}
use Rattle.std.proofs.lemmas.Bool.{ne_eqb}
use Rattle.std.proofs.lemmas.List.{map-append}
use Rattle.std.proofs.lemmas.Map.Keys.{IsDistinct-cons}
use Rattle.zone_bay.specs.Contents.{Contents}
use Rattle.marker_format.specs.declared.marker.Marker.{Marker}
use Rattle.marker_format.specs.Zone.{Array, Begin, IsWhole, begun}
use Rattle.marker_format.proofs.ZoneLaws.{Begin-begun}
use Rattle.array_model.specs.Reading.{Carrier, payload_of}
use Rattle.array_model.proofs.SameZones.{all-map}
use Rattle.set_table.specs.Table.{Table, IsCarrier, is_carried, fragments_of}
use Rattle.set_writer.specs.Entry.{Entry, at_index, entries_bytes}
use Rattle.set_writer.specs.Writer.{Writer, array_by, blocks_in, zone_bytes, Fits}
use Rattle.set_writer.specs.Laws.{markers_at, records_of}
use Rattle.set_writer.specs.PayloadLaws.{BeginsWith, HaveRecords, AreEnough}
use Rattle.set_writer.proofs.AgreedRecords.{zone_all}
use Rattle.set_writer.proofs.ClosedZones.{Stand-behind}
use Rattle.set_writer.proofs.CutRead.{zone_begins, records_are_coded}
use Rattle.set_writer.proofs.CutZones.{end_from-blocks}
use Rattle.set_writer.proofs.RecordsRead.{payload_read_of}
use Rattle.set_table.specs.Table.{array_of}
use Rattle.set_reader.specs.Carriers.{IsOneOf}
use Rattle.set_tests.specs.Laws.{WrittenStands, WrittenIsReadBack}
use Rattle.set_reader.specs.Calls.{OnlyLoses}
use Rattle.set_reader.proofs.RoundLaws.{still_carries}

-- ---- where they stand

count_is : (w : Writer) (t : Table) → array_by w ≡ array_of t → w.geometry.k + w.geometry.p ≡ fragments_of t
count_is w t array = ap (λ (a : Array). a.geometry.k + a.geometry.p) array

stands_in : (w : Writer) (es before after : List Entry) (e : Entry) (t : Table) (held : Contents) (index d z : ℕ) → array_by w ≡ array_of t → Fits w es t held → records_of w es ≡ before ++ e ∷ after → index < fragments_of t → IsCarrier t w.set index d z
    → IsWhole (array_by w) (held d z) (blocks_in before) (at_index index e.marker)
stands_in w es before after e t held index d z array fits split below is =
    let within : index < w.geometry.k + w.geometry.p = omega (arith, below, count_is w t array) in
    let bytes : held d z ≡ zone_bytes w es index = fits.members d z index below is.live is.carries in
    let all : begun (array_by w) (held d z) ≡ markers_at index before ++ at_index index e.marker ∷ markers_at index after =
    ap (begun (array_by w)) bytes ∙ zone_all w.is_closed w es index refl within fits.wrote ∙ ap (markers_at index) split ∙ map-append (λ (x : Entry). at_index index x.marker) before (e ∷ after) in
    let begin : Begin (array_by w) (held d z) (markers_at index before ++ at_index index e.marker ∷ markers_at index after) = subst (λ (ms : List Marker). Begin (array_by w) (held d z) ms) all (Begin-begun (array_by w) (held d z)) in
    subst (λ b. IsWhole (array_by w) (held d z) b (at_index index e.marker)) (end_from-blocks index 0 before ∙ omega arith) (Stand-behind (array_by w) (held d z) _ 0 (markers_at index before) (at_index index e.marker) (markers_at index after) begin).0

pub written_stands : WrittenStands
written_stands w es before after e t held array fits split index d z below is =
    record { own = at_index index e.marker; whole = subst (λ (a : Array). IsWhole a (held d z) (blocks_in before) (at_index index e.marker)) array (stands_in w es before after e t held index d z array fits split below is); same = refl }

-- ---- what is read there

-- numbers from a range are distinct, whichever pass
above : (test : ℕ → Bool) (x first count : ℕ) → x < first → AllByRecursion (λ y. nat_eq x y ≡ false) (filter test (range_with_len first count))
above test x first zero less = tt
above test x first (suc count) less = at (test first) (above test x (first + 1) count (omega (arith, less)))
  where
    at : (b : Bool) → AllByRecursion (λ y. nat_eq x y ≡ false) (filter test (range_with_len (first + 1) count)) → AllByRecursion (λ y. nat_eq x y ≡ false) (cond b (first ∷ filter test (range_with_len (first + 1) count)) (filter test (range_with_len (first + 1) count)))
    at true rest = (ne_eqb x first (λ e. omega (arith, less, e)), rest)
    at false rest = rest

distinct_from : (test : ℕ → Bool) (first count : ℕ) → IsDistinct nat_eq (filter test (range_with_len first count))
unfolding IsDistinct
distinct_from test first zero = tt
distinct_from test first (suc count) = at (test first) (distinct_from test (first + 1) count)
  where
    at : (b : Bool) → IsDistinct nat_eq (filter test (range_with_len (first + 1) count)) → IsDistinct nat_eq (cond b (first ∷ filter test (range_with_len (first + 1) count)) (filter test (range_with_len (first + 1) count)))
    at true rest = IsDistinct-cons nat_eq first (filter test (range_with_len (first + 1) count)) (above test first (first + 1) count (omega arith)) rest
    at false rest = rest

-- the carriers that are left hold what was written
left_begins : (w : Writer) (es : List Entry) (t t' : Table) (held : Contents) (c : Carrier) → array_by w ≡ array_of t → Fits w es t held → OnlyLoses t t' → IsOneOf t' w.set c → BeginsWith (array_of t) (records_of w es) held c
left_begins w es t t' held c array fits reads one =
    let count : fragments_of t' ≡ fragments_of t = ap fragments_of reads.table in
    let is = still_carries t t' w.set c.index c.place.device c.place.zone reads one.carrier in
    let below : c.index < fragments_of t = let b = one.below in omega (arith, b, count) in
    let zone = zone_begins w es c.index in
    let k = ap (λ (a : Array). a.geometry.k) array in
    record {
      below = below;
      rest = zone.0;
      bytes = fits.members c.place.device c.place.zone c.index below is.live is.carries ∙ zone.1 ∙ ap (λ k. entries_bytes k (records_of w es) c.index ++ zone.0) k;
    }

pub written_is_read_back : WrittenIsReadBack
written_is_read_back w es before after e t t' held out more within array fits split reads appends =
    let read = appends e.marker (written_stands w es before after e t held array fits split) in
    let is = read.1 in
    let same : array_of t' ≡ array_of t = ap array_of reads.table in
    let coded = subst (λ (a : Array). AllByRecursion (Rattle.set_writer.specs.PayloadLaws.IsCoded a) (records_of w es)) array (records_are_coded w es fits.wrote fits.bytes) in
    let have : HaveRecords (array_of t) (before ++ e ∷ after) held is.carriers = subst (λ (l : List Entry). HaveRecords (array_of t) l held is.carriers) split (record {
      within = within;
      coded = coded;
      each = all-map (IsOneOf t' w.set) (BeginsWith (array_of t) (records_of w es) held) is.carriers (λ c. left_begins w es t t' held c array fits reads) is.are.each;
    }) in
    let enough : AreEnough (array_of t) is.carriers = record {
      distinct = subst (λ (l : List ℕ). IsDistinct nat_eq l) (sym is.are.indexes) (distinct_from (is_carried t' w.set) 0 (fragments_of t'));
      enough = let k = ap (λ (x : Table). x.geometry.k) reads.table in let n = is.enough in omega (arith, k, n);
    } in
    let payload : payload_of (array_of t') held is.carriers (blocks_in before) e.marker ≡ e.payload =
    ap (λ (a : Array). payload_of a held is.carriers (blocks_in before) e.marker) same ∙ payload_read_of (array_of t) before after e held is.carriers e.marker.index have enough in
    read.2 ∙ ap (λ (l : List ℕ). out ++ l) (is.payload ∙ payload)
