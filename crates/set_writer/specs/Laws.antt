-- Laws of what a writer puts on the members of a set, in the words in which an array is read.
use Rattle.std.specs.Prelude.{◌≡◌, ℕ, ◌<◌, true, false, List, [], ◌∷◌, ◌++◌, map, take, if◌then◌else◌}
use Rattle.std.specs.List.{AllByRecursion}
use Rattle.zone_bay.specs.Contents.{Contents}
use Rattle.marker_format.specs.declared.marker.Marker.{Marker}
use Rattle.marker_format.specs.Zone.{Array, whole_records, has_foot, IsPrefix}
use Rattle.array_model.specs.Drives.{records_at}
use Rattle.array_model.specs.Reading.{Carrier, fragments_of, agreed}
use Rattle.set_table.specs.declared.zone_use.ZoneUse.TheVariants as uses
use Rattle.set_table.specs.Table.{Table, use_at, is_live}
use Rattle.set_writer.specs.Entry.{Entry, at_index}
use Rattle.set_table.specs.Table.{array_of}
use Rattle.set_writer.specs.Writer.{Writer, array_by, written, digest, zone_bytes, Wrote, Fits}

-- the records' markers in the zone of an index
abbrev pub markers_at : ℕ → List Entry → List Marker
markers_at index es = map (λ (e : Entry). at_index index e.marker) es

-- The zone of each index of an open set has just the records that were written there.
abbrev pub ZoneHasRecords : Type 0
ZoneHasRecords = (w : Writer) (es : List Entry) (index : ℕ) → index < fragments_of (array_by w) → w.is_closed ≡ false → Wrote w es → whole_records (array_by w) (zone_bytes w es index) ≡ markers_at index es

-- The zone of each index of a closed set has the records that were written and those of its digest, and a whole foot.
abbrev pub ClosedZoneHasFoot : Type 0
ClosedZoneHasFoot = (w : Writer) (es : List Entry) (index : ℕ) → index < fragments_of (array_by w) → w.is_closed ≡ true → Wrote w es
    → (whole_records (array_by w) (zone_bytes w es index) ≡ markers_at index (es ++ digest (written w w.set es))) × (has_foot (array_by w) (zone_bytes w es index) ≡ true)

-- ---- what the carriers of the set agree on

-- all its records, those of its digest among them where it is closed
abbrev pub records_of : Writer → List Entry → List Entry
records_of w es = es ++ (if w.is_closed then digest (written w w.set es) else [])

-- Where a crash or a failure left less of a zone, it has the first ones of them.
abbrev pub CutZoneHasFirst : Type 0
CutZoneHasFirst = (n : ℕ) (w : Writer) (es : List Entry) (index : ℕ) → index < fragments_of (array_by w) → Wrote w es → IsPrefix (whole_records (array_by w) (take n (zone_bytes w es index))) (markers_at index (records_of w es))

-- The zone of a live member holds just these, and a whole foot where the set is closed.
pub record HoldsRecords (w : Writer) (es : List Entry) (held : Contents) (d z index : ℕ) : Type 0 where
  pub records : records_at (array_by w) held (record { device = d; zone = z }) ≡ markers_at index (records_of w es)
  pub foot : w.is_closed ≡ true → has_foot (array_by w) (held d z) ≡ true

abbrev pub MembersHaveRecords : Type 0
MembersHaveRecords = (w : Writer) (es : List Entry) (t : Table) (held : Contents) (d z index : ℕ) → array_by w ≡ array_of t → Fits w es t held → index < fragments_of (array_by w) → is_live t d ≡ true → use_at t.zones d z ≡ uses.Carrier w.set index → HoldsRecords w es held d z index

-- Carriers that have just these records agree on all of them.
abbrev pub AgreedAreThose : Type 0
AgreedAreThose = (array : Array) (held : Contents) (es : List Entry) (first : Carrier) (others : List Carrier) → AllByRecursion (λ (c : Carrier). records_at array held c.place ≡ markers_at c.index es) (first ∷ others) → agreed array held (first ∷ others) ≡ markers_at first.index es
