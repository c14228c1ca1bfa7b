-- Laws of what the plain scan reads of a set that a writer writes: of what drives hold, and of what a crash left of it.
use Rattle.std.specs.Prelude.{◌≡◌, ℕ, ◌<◌, ◌≤◌, Bool, true, Some, List, [], ◌++◌, length, map, filter, take}
use Rattle.std.specs.List.{AllByRecursion, list_any, range_with_len}
use Rattle.smore_base.specs.Geometry.{IsWithinLimits}
use Rattle.zone_bay.specs.Contents.{Contents, Lengths}
use Rattle.zone_bay.specs.Bay.{BayState}
use Rattle.marker_format.specs.Zone.{Array}
use Rattle.array_model.specs.Record.{is_ready}
use Rattle.array_model.specs.Sets.{ReadSet, stands}
use Rattle.array_model.specs.Enough.{is_settled}
use Rattle.array_model.specs.Kept.{HavePayloads}
use Rattle.array_model.specs.Reading.{read_set}
use Rattle.array_model.specs.Reading as model
use Rattle.set_table.specs.Zones.{carries}
use Rattle.set_table.specs.Table.{Table, zones_of, is_live, drives_of, fragments_of, HangsTogether}
use Rattle.set_writer.specs.Entry.{Entry, entries_bytes, HasBytes}
use Rattle.set_table.specs.Table.{array_of}
use Rattle.set_writer.specs.Writer.{Writer, array_by, opening, Wrote, Fits}
use Rattle.set_writer.specs.Fit.{live_of}
use Rattle.set_writer.specs.Calls.{IsOf, FitsIn}
use Rattle.set_writer.specs.Laws.{markers_at, records_of}
use Rattle.set_writer.specs.ImageLaws.{SetBytes, bytes_by, bytes_opened, AreSetBytes, MayOpen, IsOpened, IsFollowed, View, places_of, carriers_in, AreLive, IsAlone, HaveFirst}
use Rattle.set_writer.specs.PayloadLaws.{item_of, IsCoded, ListsRecords}

-- what is read of the set there
abbrev pub read_in : View → SetBytes → ReadSet
read_in view s = read_set s.array view.held (places_of view) s.set

-- ---- what a crash left

-- The records of a set can be read: their payloads are bytes, and each zone begins with their blocks.
pub record AreRead (s : SetBytes) : Type 0 where
  pub within : IsWithinLimits s.array.geometry
  pub coded : AllByRecursion (IsCoded s.array) s.records
  pub zones : (index : ℕ) → index < model.fragments_of s.array → (rest : List ℕ) × (s.zone index ≡ entries_bytes s.array.geometry.k s.records index ++ rest)

-- Where k of its members are seen, the first of its records are read as they were written,
abbrev pub SetImageIsRead : Type 0
SetImageIsRead = (s : SetBytes) (t : Table) (firm : Lengths) (view : View) (first : HaveFirst s t firm view) → s.array ≡ array_of t → AreSetBytes s → AreRead s
    → s.array.geometry.k ≤ (read_in view s).carriers → (read_in view s).records ≡ map item_of (take first.count s.records)

-- so it is of a set that is opened, also before all of its first records are there: its cuts are read as they were given,
abbrev pub OpenedImageIsRead : Type 0
OpenedImageIsRead = (set : ℕ) (cuts : List (ℕ × ℕ)) (t formed : Table) (firm : Lengths) (view : View) (first : HaveFirst (bytes_opened (array_of t) set cuts) formed firm view) → MayOpen set cuts t → array_of formed ≡ array_of t
    → t.geometry.k ≤ (read_in view (bytes_opened (array_of t) set cuts)).carriers → (read_in view (bytes_opened (array_of t) set cuts)).records ≡ map item_of (take first.count (opening (array_of t) set cuts))

-- in an opening and behind it,
abbrev pub OpeningIsRead : BayState → BayState → Type 0
OpeningIsRead old new = (set : ℕ) (cuts : List (ℕ × ℕ)) (t t' : Table) (held : Contents) (firm : Lengths) (view : View) → (is : IsOpened set cuts t t' held old new) → (first : HaveFirst (bytes_opened (array_of t) set cuts) is.opens.formed firm view)
    → t.geometry.k ≤ (read_in view (bytes_opened (array_of t) set cuts)).carriers → (read_in view (bytes_opened (array_of t) set cuts)).records ≡ map item_of (take first.count (opening (array_of t) set cuts))

-- of a next set too,
abbrev pub NextIsRead : BayState → BayState → Type 0
NextIsRead old new = (set least : ℕ) (w w' : Writer) (es : List Entry) (t t' : Table) (held : Contents) (firm : Lengths) (view : View) → (is : IsFollowed set least w w' es t t' held old new) → (first : HaveFirst (bytes_opened (array_of t) set []) is.follows.formed firm view)
    → t.geometry.k ≤ (read_in view (bytes_opened (array_of t) set [])).carriers → (read_in view (bytes_opened (array_of t) set [])).records ≡ map item_of (take first.count (opening (array_of t) set []))

-- and of what a writer wrote.
abbrev pub ImageIsRead : Type 0
ImageIsRead = (w : Writer) (es : List Entry) (t : Table) (firm : Lengths) (view : View) (first : HaveFirst (bytes_by w es) t firm view) → IsWithinLimits w.geometry → array_by w ≡ array_of t → Wrote w es → AllByRecursion HasBytes es
    → w.geometry.k ≤ (read_in view (bytes_by w es)).carriers → (read_in view (bytes_by w es)).records ≡ map item_of (take first.count (records_of w es))

-- The carriers have fragments of one payload of each record that they agree on, in what a crash left of a set,
abbrev pub SetImageHasPayloads : Type 0
SetImageHasPayloads = (s : SetBytes) (t : Table) (firm : Lengths) (view : View) (first : HaveFirst s t firm view) → s.array ≡ array_of t → AreSetBytes s → AreRead s → HavePayloads s.array view.held (carriers_in view s) first.count

-- of one that is opened,
abbrev pub OpenedImageHasPayloads : Type 0
OpenedImageHasPayloads = (set : ℕ) (cuts : List (ℕ × ℕ)) (t formed : Table) (firm : Lengths) (view : View) (first : HaveFirst (bytes_opened (array_of t) set cuts) formed firm view) → MayOpen set cuts t → array_of formed ≡ array_of t
    → HavePayloads (array_of t) view.held (carriers_in view (bytes_opened (array_of t) set cuts)) first.count

-- and of what a writer wrote.
abbrev pub ImageHasPayloads : Type 0
ImageHasPayloads = (w : Writer) (es : List Entry) (t : Table) (firm : Lengths) (view : View) (first : HaveFirst (bytes_by w es) t firm view) → IsWithinLimits w.geometry → array_by w ≡ array_of t → Wrote w es → AllByRecursion HasBytes es
    → HavePayloads (array_by w) view.held (carriers_in view (bytes_by w es)) first.count

-- ---- what drives hold

-- of how many of its indexes these drives carry one
abbrev pub carried_on : Table → ℕ → List ℕ → ℕ
carried_on t set drives = length (filter (λ index. list_any (λ d. list_any (carries set index) (zones_of t.zones d)) drives) (range_with_len 0 (fragments_of t)))

-- These live drives hold what the writer wrote on them, and have its set alone.
pub record Holds (w : Writer) (es : List Entry) (t : Table) (view : View) : Type 0 where
  pub array : array_by w ≡ array_of t
  pub fits : Fits w es t view.held
  pub together : HangsTogether t
  pub zones : t.geometry.zones ≡ view.shape.zones
  pub live : AreLive t view.drives
  pub alone : IsAlone t w.set view.held view.drives

-- So each of its members there is a carrier,
abbrev pub MembersAreCarriers : Type 0
MembersAreCarriers = (w : Writer) (es : List Entry) (t : Table) (view : View) → Holds w es t view → (read_in view (bytes_by w es)).carriers ≡ carried_on t w.set view.drives

-- what is read of a set
pub record IsRead (w : Writer) (es : List Entry) (set : ReadSet) : Type 0 where
  pub records : set.records ≡ map item_of (records_of w es)
  pub closed : set.closed ≡ w.is_closed

-- and where k of its members are there, all its records are read as they were written, and that it is closed where it is.
abbrev pub WholeIsRead : Type 0
WholeIsRead = (w : Writer) (es : List Entry) (t : Table) (view : View) → Holds w es t view → t.geometry.k ≤ carried_on t w.set view.drives → IsRead w es (read_in view (bytes_by w es))

-- So the digest of a closed set is read as the list of its records.
abbrev pub DigestIsRead : Type 0
DigestIsRead = (w : Writer) (es : List Entry) (t : Table) (view : View) (index : ℕ) → Holds w es t view → index < fragments_of t → w.is_closed ≡ true → t.geometry.k ≤ carried_on t w.set view.drives → ListsRecords (read_in view (bytes_by w es)).records (markers_at index (records_of w es))

-- ---- whether it stands

-- the records have a ready record among them
abbrev pub are_ready : List Entry → Bool
are_ready es = list_any is_ready (map item_of es)

-- The first records of a set do, whatever is put behind them,
abbrev pub OpeningIsReady : Type 0
OpeningIsReady = (array : Array) (set : ℕ) (cuts : List (ℕ × ℕ)) (more : List Entry) → are_ready (opening array set cuts ++ more) ≡ true

-- so an opened set stands where k of its members are,
abbrev pub OpenedStands : Type 0
OpenedStands = (w : Writer) (es : List Entry) (t : Table) (view : View) → Holds w es t view → are_ready es ≡ true → t.geometry.k ≤ carried_on t w.set view.drives → stands t.geometry.k (read_in view (bytes_by w es)) ≡ true

-- and a closed one is settled, whichever other sets there are.
abbrev pub ClosedIsSettled : Type 0
ClosedIsSettled = (w : Writer) (es : List Entry) (t : Table) (view : View) (sets : List ReadSet) → Holds w es t view → are_ready es ≡ true → w.is_closed ≡ true → t.geometry.k ≤ carried_on t w.set view.drives → is_settled t.geometry.k sets (read_in view (bytes_by w es)) ≡ true

-- ---- in the words of the calls

-- the live drives
abbrev pub live_drives : Table → List ℕ
live_drives t = filter (is_live t) (drives_of t.geometry)

-- They carry as many indexes of a set as it has live members,
abbrev pub LiveMembersAreCarried : Type 0
LiveMembersAreCarried = (t : Table) (set : ℕ) → carried_on t set (live_drives t) ≡ live_of t set

-- and what a call says of the writer, the table and the bay is what is asked above, on any drives that are live and have the set alone.
abbrev pub CallsHold : BayState → Type 0
CallsHold bay = (w : Writer) (es : List Entry) (t : Table) (view : View) → bay.contents ≡ Some view.held → view.shape ≡ bay.shape → IsOf w t bay → FitsIn w es t bay → HangsTogether t → AreLive t view.drives → IsAlone t w.set view.held view.drives → Holds w es t view
