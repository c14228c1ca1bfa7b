-- Laws of what a crash may leave of a set, in the words in which an array is read. Above them nobody looks at a byte of a set's zones.
use Rattle.std.specs.Prelude.{◌≡◌, ◌≢◌, ◌⊎◌, ℕ, ◌*◌, ◌<◌, ◌≤◌, Bool, true, false, not, ◌&&◌, ◌==◌, List, [], ◌∷◌, ◌++◌, length, take, filter, All, Contains, Option, Some, None, IsSome}
use Rattle.std.specs.List.{AllByRecursion, list_any}
use Rattle.smore_base.specs.declared.limits.TheConstants.{BLOCK_BYTES}
use Rattle.rs_code.specs.Coded.{CodedPayload}
use Rattle.zone_bay.specs.Contents.{Shape, Contents, Lengths}
use Rattle.zone_bay.specs.Images.{IsFirmPrefix, IsImage, LeftSince}
use Rattle.zone_bay.specs.Bay.{BayState, IsSound}
use Rattle.marker_format.specs.declared.marker.Marker.{Marker}
use Rattle.marker_format.specs.declared.marker.TheConstants.{COUNTER_END}
use Rattle.marker_format.specs.Zone.{Array, begun, is_rebuilt, trailer_follows, whole_records, has_foot}
use Rattle.array_model.specs.Drives.{Place, is_among, places_on, bytes_at, records_at, first_of, head_at, is_of}
use Rattle.array_model.specs.Reading.{Carrier, fragments_of, carrier_of, carriers_of, agreed, are_closed, read_set, reading}
use Rattle.array_model.specs.ReadingLaws.{is_of_set}
use Rattle.array_model.specs.Record.{is_ready}
use Rattle.array_model.specs.Sets.{ReadSet}
use Rattle.set_table.specs.declared.zone_use.ZoneUse.TheVariants as uses
use Rattle.set_table.specs.Table.{Table, use_at, is_live, marks_of, HangsTogether}
use Rattle.set_table.specs.Table as table
use Rattle.set_writer.specs.Entry.{Entry, entry_for, entry_bytes, entries_bytes}
use Rattle.set_writer.specs.Members.{of_members, grown_by, is_member, Spreads, Flushes, MembersFirm}
use Rattle.set_table.specs.Table.{array_of}
use Rattle.set_writer.specs.Writer.{Writer, array_by, behind, opening, digest, closed, blocks_in, CanDigest, zone_bytes, AreRecordsFrom, Wrote, EmptyHold, Fits, IsAppended, parts_of, first_digests}
use Rattle.set_writer.specs.Laws.{markers_at, records_of}
use Rattle.set_writer.specs.Calls.{IsOf, FitsIn, IsCuts, Opens, Closes, closes_first, with_end, ended, Follows}

-- ---- one zone

-- The zone of an index has the first records of these and no others, and each that ends within so many bytes.
pub record HasFirst (array : Array) (index : ℕ) (es : List Entry) (bytes : ℕ) (zone : List ℕ) : Type 0 where
  pub count : ℕ
  pub within : count ≤ length es
  pub records : whole_records array zone ≡ markers_at index (take count es)
  -- it begins with these too: it is no rebuilt zone
  pub begins : begun array zone ≡ markers_at index (take count es)
  pub least : (c : ℕ) → c ≤ length es → BLOCK_BYTES * blocks_in (take c es) ≤ bytes → c ≤ count

-- So it is where records of a set were cut off after so many bytes,
abbrev pub CutListHasFirst : Type 0
CutListHasFirst = (n : ℕ) (array : Array) (set index : ℕ) (es : List Entry) → index < fragments_of array → AreRecordsFrom array set 0 es → HasFirst array index es n (take n (entries_bytes array.geometry.k es index))

-- where its first digest records stand behind those of a set that can be closed,
abbrev pub CutDigestsHaveFirst : Type 0
CutDigestsHaveFirst = (n count : ℕ) (w : Writer) (es : List Entry) (index : ℕ) → index < fragments_of (array_by w) → w.is_closed ≡ false → CanDigest w → Wrote w es → count ≤ parts_of w
    → HasFirst (array_by w) index (es ++ first_digests w count) n (take n (entries_bytes w.geometry.k (es ++ first_digests w count) index))

-- and in what a writer wrote, be the set closed or not.
abbrev pub CutZoneHasThose : Type 0
CutZoneHasThose = (n : ℕ) (w : Writer) (es : List Entry) (index : ℕ) → index < fragments_of (array_by w) → Wrote w es → HasFirst (array_by w) index (records_of w es) n (take n (zone_bytes w es index))

-- A cut zone has a foot only where the set is closed and nothing was cut off.
abbrev pub CutZoneHasNoFoot : Type 0
CutZoneHasNoFoot = (n : ℕ) (w : Writer) (es : List Entry) (index : ℕ) → index < fragments_of (array_by w) → Wrote w es → has_foot (array_by w) (take n (zone_bytes w es index)) ≡ true
    → (w.is_closed ≡ true) × (take n (zone_bytes w es index) ≡ zone_bytes w es index)

-- ---- what is seen of a set

-- The records of a set, and the bytes that its zones hold by index.
pub record SetBytes : Type 0 where
  pub array : Array
  pub set : ℕ
  pub records : List Entry
  pub zone : ℕ → List ℕ

-- what a writer wrote
abbrev pub bytes_by : Writer → List Entry → SetBytes
bytes_by w es = record { array = array_by w; set = w.set; records = records_of w es; zone = zone_bytes w es }

-- the first record is one of the set
abbrev pub FirstIsOf : ℕ → List Entry → Type 0
FirstIsOf set [] = Unit {0}
FirstIsOf set (e ∷ es) = e.marker.set ≡ set

-- Each zone, cut off anywhere, has the first of the set's records, and has them all where it is whole.
pub record AreSetBytes (s : SetBytes) : Type 0 where
  pub first : (n index : ℕ) → index < fragments_of s.array → HasFirst s.array index s.records n (take n (s.zone index))
  pub long : (index : ℕ) → index < fragments_of s.array → BLOCK_BYTES * blocks_in s.records ≤ length (s.zone index)
  pub some : 0 < length s.records
  pub head : FirstIsOf s.set s.records

-- the zones of these drives that carry the set hold just these bytes
abbrev pub HoldBytes : SetBytes → Table → Contents → List ℕ → Type 0
HoldBytes s t held drives = (d z index : ℕ) → is_among drives d ≡ true → index < table.fragments_of t → use_at t.zones d z ≡ uses.Carrier s.set index → held d z ≡ s.zone index

-- some drives of a bay of this shape, and what devices hold
pub record View : Type 0 where
  pub shape : Shape
  pub drives : List ℕ
  pub held : Contents

-- the set zones of its drives
abbrev pub places_of : View → List Place
places_of view = places_on view.shape view.drives

-- the carriers of the set there
abbrev pub carriers_in : View → SetBytes → List Carrier
carriers_in view s = carriers_of s.array view.held (places_of view) s.set

-- the drives are live
abbrev pub AreLive : Table → List ℕ → Type 0
AreLive t drives = (d : ℕ) → is_among drives d ≡ true → is_live t d ≡ true

-- The zone begins with a whole head of the set. (A rebuilt zone does so before its trailer is there too.)
abbrev pub begins_with : Array → ℕ → List ℕ → Bool
begins_with array set bytes = is_of_set set (first_of (begun array bytes))

-- the table says that the zone carries an index of the set
abbrev pub IsMember : Table → ℕ → ℕ → ℕ → Type 0
IsMember t set d z = (index : ℕ) × (index < table.fragments_of t) × (use_at t.zones d z ≡ uses.Carrier set index)

-- Of the set zones of these drives no others begin with a whole head of the set than those that carry it by the table.
abbrev pub IsAlone : Table → ℕ → Contents → List ℕ → Type 0
IsAlone t set held drives = (d z : ℕ) → is_among drives d ≡ true → 2 ≤ z → begins_with (array_of t) set (held d z) ≡ true → IsMember t set d z

-- A crash left this of what was held, with so many firm bytes. On the drives that are seen the set is alone; the others may be away.
pub record IsCrashView (t : Table) (set : ℕ) (held : Contents) (firm : Lengths) (view : View) : Type 0 where
  pub image : IsImage held firm view.held
  pub alone : IsAlone t set held view.drives

-- the carriers agree on just these records
abbrev pub AgreeOn : Array → Contents → List Carrier → List Entry → Type 0
AgreeOn array held [] es = Unit {0}
AgreeOn array held (first ∷ others) es = agreed array held (first ∷ others) ≡ markers_at first.index es

-- The carrier is a zone that carries its index by the table, and holds a prefix of what was written there, with at least the firm bytes.
pub record IsCut (s : SetBytes) (t : Table) (firm : Lengths) (view : View) (c : Carrier) : Type 0 where
  pub drive : is_among view.drives c.place.device ≡ true
  pub below : c.index < table.fragments_of t
  pub use_is : use_at t.zones c.place.device c.place.zone ≡ uses.Carrier s.set c.index
  pub bytes : IsFirmPrefix (s.zone c.index) (firm c.place.device c.place.zone) (bytes_at view.held c.place)

-- on each zone of the drives that carries the set, so many of its first records are firm
abbrev pub AreFirm : SetBytes → Table → List ℕ → Lengths → ℕ → Type 0
AreFirm s t drives firm count = (d z index : ℕ) → is_among drives d ≡ true → index < table.fragments_of t → use_at t.zones d z ≡ uses.Carrier s.set index → BLOCK_BYTES * blocks_in (take count s.records) ≤ firm d z

-- on each of them all is firm that was written there, its foot too
abbrev pub AreWhole : SetBytes → Table → List ℕ → Lengths → Type 0
AreWhole s t drives firm = (d z index : ℕ) → is_among drives d ≡ true → index < table.fragments_of t → use_at t.zones d z ≡ uses.Carrier s.set index → length (s.zone index) ≤ firm d z

-- the zone is a set zone of one of the drives, and carries the index by the table
pub record IsSeen (t : Table) (set : ℕ) (view : View) (d z index : ℕ) : Type 0 where
  pub drive : is_among view.drives d ≡ true
  pub from : 2 ≤ z
  pub to : z < view.shape.zones
  pub below : index < table.fragments_of t
  pub use_is : use_at t.zones d z ≡ uses.Carrier set index

-- The carriers that are found of the set are members of it, and agree on the first of its records: on each that is firm on all the
-- members that are seen. An index has a carrier where a member has a firm head of it.
pub record HaveFirst (s : SetBytes) (t : Table) (firm : Lengths) (view : View) : Type 0 where
  pub cut : AllByRecursion (IsCut s t firm view) (carriers_in view s)
  pub count : ℕ
  pub within : count ≤ length s.records
  pub agree : AgreeOn s.array view.held (carriers_in view s) (take count s.records)
  pub least : (c : ℕ) → c ≤ length s.records → AreFirm s t view.drives firm c → c ≤ count
  pub found : (d z index : ℕ) → IsSeen t s.set view d z index → BLOCK_BYTES * blocks_in (take 1 s.records) ≤ firm d z → IsSome (carrier_of s.array view.held (places_of view) s.set index)

-- So it is in any image of what the zones of a set hold, whichever drives of it are seen,
abbrev pub ImageHasFirst : Type 0
ImageHasFirst = (s : SetBytes) (t : Table) (held : Contents) (firm : Lengths) (view : View) → s.array ≡ array_of t → AreSetBytes s → HoldBytes s t held view.drives → IsCrashView t s.set held firm view → HaveFirst s t firm view

-- and of what a writer wrote, on drives that are live.
abbrev pub WriterHasFirst : Type 0
WriterHasFirst = (w : Writer) (es : List Entry) (t : Table) (held : Contents) (firm : Lengths) (view : View) → array_by w ≡ array_of t → Fits w es t held → AreLive t view.drives → IsCrashView t w.set held firm view → HaveFirst (bytes_by w es) t firm view

-- What a writer wrote are a set's records and bytes,
abbrev pub WrittenAreSetBytes : Type 0
WrittenAreSetBytes = (w : Writer) (es : List Entry) → Wrote w es → AreSetBytes (bytes_by w es)

-- ---- what is whole

-- The set has all its records from its carriers, and each zone of it holds all that was written.
pub record HaveAll (s : SetBytes) (t : Table) (view : View) : Type 0 where
  pub members : (d z index : ℕ) → is_among view.drives d ≡ true → index < table.fragments_of t → use_at t.zones d z ≡ uses.Carrier s.set index → view.held d z ≡ s.zone index
  pub carriers : AllByRecursion (λ (c : Carrier). (c.index < table.fragments_of t) × (bytes_at view.held c.place ≡ s.zone c.index)) (carriers_in view s)
  pub agree : AgreeOn s.array view.held (carriers_in view s) s.records
  pub found : (d z index : ℕ) → IsSeen t s.set view d z index → IsSome (carrier_of s.array view.held (places_of view) s.set index)

-- Where all is firm, a crash leaves all,
abbrev pub WholeIsLeftWhole : Type 0
WholeIsLeftWhole = (s : SetBytes) (t : Table) (held : Contents) (firm : Lengths) (view : View) → s.array ≡ array_of t → AreSetBytes s → HoldBytes s t held view.drives → AreWhole s t view.drives firm → IsCrashView t s.set held firm view → HaveAll s t view

-- and then a closed set has a whole foot on each carrier.
abbrev pub ClosedHasFeet : Type 0
ClosedHasFeet = (w : Writer) (es : List Entry) (t : Table) (view : View) → w.is_closed ≡ true → Wrote w es → array_by w ≡ array_of t → HaveAll (bytes_by w es) t view → are_closed (array_by w) view.held (carriers_in view (bytes_by w es)) ≡ true

-- Where all is firm, so are all records.
abbrev pub WholeHasRecords : Type 0
WholeHasRecords = (s : SetBytes) (t : Table) (drives : List ℕ) (firm : Lengths) → s.array ≡ array_of t → AreSetBytes s → AreWhole s t drives firm → AreFirm s t drives firm (length s.records)

-- ---- the other sets

-- what is left of each zone without what came behind what was held
abbrev pub cut_back : Contents → Contents → Contents
cut_back held image d z = take (length (held d z)) (image d z)

-- the sets but this one
abbrev pub others_of : ℕ → List ReadSet → List ReadSet
others_of set sets = filter (λ (s : ReadSet). not (s.id == set)) sets

-- Each other set says what it said: without what was put on the set's zones, the image is one of what was held before, all other zones
-- that are seen hold the same, and of each other set the same is read, from the same carriers.
pub record OthersSay (t : Table) (set : ℕ) (held : Contents) (firm : Lengths) (view : View) : Type 0 where
  pub before : IsImage held firm (cut_back held view.held)
  pub zones : (d z : ℕ) → is_member (table.fragments_of t) set (use_at t.zones d z) ≡ false → cut_back held view.held d z ≡ view.held d z
  pub each : (other : ℕ) → other ≢ set → read_set (array_of t) view.held (places_of view) other ≡ read_set (array_of t) (cut_back held view.held) (places_of view) other
  pub sets : others_of set (reading (array_of t) view.shape view.held view.drives) ≡ others_of set (reading (array_of t) view.shape (cut_back held view.held) view.drives)
  -- its carriers are the same ones,
  pub carriers : (other : ℕ) → other ≢ set → carriers_of (array_of t) view.held (places_of view) other ≡ carriers_of (array_of t) (cut_back held view.held) (places_of view) other
  -- they hold the same,
  pub bytes : (other : ℕ) → other ≢ set → AllByRecursion (λ (c : Carrier). bytes_at view.held c.place ≡ bytes_at (cut_back held view.held) c.place) (carriers_of (array_of t) (cut_back held view.held) (places_of view) other)
  -- and each place that is seen tells the same of a head of it
  pub heads : (other index : ℕ) (place : Place) → other ≢ set → Contains (places_of view) place → is_of other index (head_at (array_of t) view.held place) ≡ is_of other index (head_at (array_of t) (cut_back held view.held) place)

-- So it is in any image of contents in which only the set's zones grew.
abbrev pub OthersSayTheSame : Type 0
OthersSayTheSame = (s : SetBytes) (t : Table) (more : ℕ → List ℕ) (held : Contents) (firm : Lengths) (view : View) → s.array ≡ array_of t → AreSetBytes s → HoldBytes s t (grown_by t (of_members (table.fragments_of t) s.set more) held) view.drives
    → IsImage (grown_by t (of_members (table.fragments_of t) s.set more) held) firm view.held → OthersSay t s.set held firm view

-- a crash since the old state left what is seen, and the drives are live in the table and have the set alone in what was held
pub record IsLeftSince (t : Table) (set : ℕ) (held : Contents) (old new : BayState) (view : View) : Type 0 where
  pub left : LeftSince new.left old.moment view.held
  pub live : AreLive t view.drives
  pub alone : IsAlone t set held view.drives

-- ---- appends

-- A record was put on the members of a set that held these records; this was held before.
pub record Appends (w : Writer) (es : List Entry) (m : Marker) (body : CodedPayload) (t t' : Table) (held : Contents) (old new : BayState) : Type 0 where
  pub sound : IsSound old
  pub told : old.contents ≡ Some held
  pub of : IsOf w t old
  pub open_ : w.is_closed ≡ false
  pub is : IsAppended w m body
  pub fits : Fits w es t held
  pub spread : Spreads w.set (entry_bytes w.geometry.k (record { marker = m; payload = body.payload })) t t' old new

-- A crash in an append or behind it leaves the first of the set's records and this one, each that was firm among them, on members that
-- the call lost too; and each other set says what it said.
abbrev pub AppendLeavesFirst : BayState → BayState → Type 0
AppendLeavesFirst old new = (w : Writer) (es : List Entry) (m : Marker) (body : CodedPayload) (t t' : Table) (held : Contents) (view : View) → Appends w es m body t t' held old new → IsLeftSince t w.set held old new view
    → HaveFirst (bytes_by (behind w m) (es ++ entry_for m body.payload ∷ [])) t old.firm view × OthersSay t w.set held old.firm view

-- ---- flushes

-- The set was flushed; this was held, and is held still.
pub record IsFlushed (w : Writer) (es : List Entry) (t t' : Table) (held : Contents) (old new : BayState) : Type 0 where
  pub sound : IsSound old
  pub told : old.contents ≡ Some held
  pub of : IsOf w t old
  pub fits : Fits w es t held
  pub flushed : Flushes w.set t t' old new

-- A crash in a flush leaves an image of what was held, and so the first of the set's records,
abbrev pub FlushLeavesFirst : BayState → BayState → Type 0
FlushLeavesFirst old new = (w : Writer) (es : List Entry) (t t' : Table) (held : Contents) (view : View) → IsFlushed w es t t' held old new → IsLeftSince t w.set held old new view → IsImage held old.firm view.held × HaveFirst (bytes_by w es) t old.firm view

-- and behind it all of them on each member that is live then.
abbrev pub FlushKeepsAll : BayState → BayState → Type 0
FlushKeepsAll old new = (w : Writer) (es : List Entry) (t t' : Table) (held : Contents) (view : View) → IsSound new → new.contents ≡ Some held → IsOf w t' new → Fits w es t' held → Flushes w.set t t' old new → IsLeftSince t' w.set held new new view
    → HaveAll (bytes_by w es) t' view

-- ---- openings

-- what the zones of a set hold that was opened with these cuts
abbrev pub bytes_opened : Array → ℕ → List (ℕ × ℕ) → SetBytes
bytes_opened array set cuts = record { array = array; set = set; records = opening array set cuts; zone = entries_bytes array.geometry.k (opening array set cuts) }

-- the head is there, and of another set
abbrev pub IsOfAnother : ℕ → Option Marker → Type 0
IsOfAnother set None = ⊥
IsOfAnother set (Some head) = head.set ≢ set

-- the zone begins as a rebuilt one, whose trailer isn't there: it has no whole head, but begins with one
abbrev pub is_half_rebuilt : Array → List ℕ → Bool
is_half_rebuilt array bytes = is_rebuilt (begun array bytes) && not (trailer_follows array bytes (begun array bytes))

-- The zone shows no head of the set: it holds nothing, has a whole head of another set, begins with one of another set, or has no whole
-- head and isn't half rebuilt.
abbrev pub ShowsNone : Array → ℕ → Contents → Place → Type 0
ShowsNone array set held place =
    (bytes_at held place ≡ []) ⊎ IsOfAnother set (head_at array held place) ⊎ IsOfAnother set (first_of (begun array (bytes_at held place)))
    ⊎ ((head_at array held place ≡ None) × (is_half_rebuilt array (bytes_at held place) ≡ false))

-- no set zone of these drives begins with a whole head of the set
abbrev pub IsNew : Array → ℕ → Contents → List ℕ → Type 0
IsNew array set held drives = (d z : ℕ) → is_among drives d ≡ true → 2 ≤ z → begins_with array set (held d z) ≡ false

-- So it is where these zones hold nothing,
abbrev pub NothingIsNew : Type 0
NothingIsNew = (array : Array) (set : ℕ) (held : Contents) (drives : List ℕ) → ((d z : ℕ) → is_among drives d ≡ true → 2 ≤ z → held d z ≡ []) → IsNew array set held drives

-- or each of them shows none of it,
abbrev pub NewByZone : Type 0
NewByZone = (array : Array) (set : ℕ) (held : Contents) (drives : List ℕ) → ((d z : ℕ) → is_among drives d ≡ true → 2 ≤ z → ShowsNone array set held (record { device = d; zone = z })) → IsNew array set held drives

-- and where it is, a set is alone.
abbrev pub NewIsAlone : Type 0
NewIsAlone = (t : Table) (set : ℕ) (held : Contents) (drives : List ℕ) → IsNew (array_of t) set held drives → IsAlone t set held drives

-- It is alone too where each zone carries it by the table or shows none of it.
abbrev pub AloneByZone : Type 0
AloneByZone = (t : Table) (set : ℕ) (held : Contents) (drives : List ℕ) → ((d z : ℕ) → is_among drives d ≡ true → 2 ≤ z → IsMember t set d z ⊎ ShowsNone (array_of t) set held (record { device = d; zone = z })) → IsAlone t set held drives

-- what is asked of a set that is opened in the table
pub record MayOpen (set : ℕ) (cuts : List (ℕ × ℕ)) (t : Table) : Type 0 where
  pub together : HangsTogether t
  pub id : length t.array ≡ 16
  pub from : 1 ≤ set
  pub to : set < COUNTER_END
  pub cuts_are : IsCuts set cuts
  pub kept : All (λ (cut : ℕ × ℕ). cut.1 < 65536) cuts
  pub absent : marks_of set t.sets ≡ None

-- and so are those that a set is opened with.
abbrev pub OpenedAreSetBytes : Type 0
OpenedAreSetBytes = (set : ℕ) (cuts : List (ℕ × ℕ)) (t : Table) → MayOpen set cuts t → AreSetBytes (bytes_opened (array_of t) set cuts)

-- A set was opened; this was held before.
pub record IsOpened (set : ℕ) (cuts : List (ℕ × ℕ)) (t t' : Table) (held : Contents) (old new : BayState) : Type 0 where
  pub sound : IsSound old
  pub told : old.contents ≡ Some held
  pub may : MayOpen set cuts t
  pub empty : EmptyHold t held
  pub room : ℕ
  pub opens : Opens set cuts (record t { spare = room }) t' old new

-- a crash since the old state left what is seen, and the drives are live in the table and have nothing of the set in what was held
pub record IsLeftNew (t : Table) (set : ℕ) (held : Contents) (old new : BayState) (view : View) : Type 0 where
  pub left : LeftSince new.left old.moment view.held
  pub live : AreLive t view.drives
  pub new_set : IsNew (array_of t) set held view.drives

-- The set has no ready record, so it doesn't stand, or its carriers agree on all that it was opened with.
abbrev pub IsNotReadyOrWhole : Array → ℕ → List (ℕ × ℕ) → View → Type 0
IsNotReadyOrWhole array set cuts view =
    (list_any is_ready (read_set array view.held (places_of view) set).records ≡ false)
    ⊎ AgreeOn array view.held (carriers_in view (bytes_opened array set cuts)) (opening array set cuts)

-- A crash in an opening or behind it leaves the first of the records that the set is opened with. Without the last, the ready record, the
-- set doesn't stand. Each other set says what it said.
abbrev pub OpeningLeavesFirst : BayState → BayState → Type 0
OpeningLeavesFirst old new = (set : ℕ) (cuts : List (ℕ × ℕ)) (t t' : Table) (held : Contents) (view : View) → (is : IsOpened set cuts t t' held old new) → IsLeftNew t set held old new view
    → HaveFirst (bytes_opened (array_of t) set cuts) is.opens.formed old.firm view × IsNotReadyOrWhole (array_of t) set cuts view × OthersSay is.opens.formed set held old.firm view

-- ---- closings

-- A set of these records was closed; this was held before.
pub record IsClosing (w : Writer) (es : List Entry) (t t' : Table) (held : Contents) (old new : BayState) : Type 0 where
  pub sound : IsSound old
  pub told : old.contents ≡ Some held
  pub of : IsOf w t old
  pub open_ : w.is_closed ≡ false
  pub fits : Fits w es t held
  pub closes : Closes w t t' old new
  pub fits_then : FitsIn (closed w) es t' new

-- the carriers that are seen have whole feet, one at least
abbrev pub AreClosed : View → SetBytes → Type 0
AreClosed view s = (0 < length (carriers_in view s)) × (are_closed s.array view.held (carriers_in view s) ≡ true)

-- where they have, the set was closed, and they agree on all its records and its digest's
abbrev pub AgreeWhereClosed : Writer → List Entry → View → Type 0
AgreeWhereClosed w es view = AreClosed view (bytes_by w es) → (w.is_closed ≡ true) × AgreeOn (array_by w) view.held (carriers_in view (bytes_by w es)) (records_of w es)

-- A crash in a closing or behind it leaves the first of the set's records and its digest's, each that was firm among them. Where each
-- carrier has a whole foot they agree on all. Each other set says what it said.
abbrev pub ClosingLeavesFirst : BayState → BayState → Type 0
ClosingLeavesFirst old new = (w : Writer) (es : List Entry) (t t' : Table) (held : Contents) (view : View) → IsClosing w es t t' held old new → IsLeftSince t w.set held old new view
    → HaveFirst (bytes_by (closed w) es) t old.firm view × (AreClosed view (bytes_by (closed w) es) → AgreeOn (array_by w) view.held (carriers_in view (bytes_by (closed w) es)) (es ++ digest w)) × OthersSay t w.set held old.firm view

-- a live device carries the index of the set by the table
pub record IsLiveMember (t : Table) (set d z index : ℕ) : Type 0 where
  pub live : is_live t d ≡ true
  pub below : index < table.fragments_of t
  pub use_is : use_at t.zones d z ≡ uses.Carrier set index

-- Where a crash in a closing leaves a byte of a foot on any member, each member that was live as the first foot was put has all records
-- and the whole digest, also one that was lost behind that.
abbrev pub FootComesLast : BayState → BayState → Type 0
FootComesLast old new = (w : Writer) (es : List Entry) (t t' : Table) (held : Contents) (image : Contents) → (is : IsClosing w es t t' held old new) → LeftSince new.left old.moment image
    → (d z index : ℕ) → IsLiveMember t w.set d z index → BLOCK_BYTES * blocks_in (es ++ digest w) < length (image d z)
    → (e y i : ℕ) → IsLiveMember is.closes.digest_table w.set e y i → records_at (array_by w) image (record { device = e; zone = y }) ≡ markers_at i (es ++ digest w)

-- ---- the next set

-- A set of these records was closed where it had to be, and the next one was opened; this was held before.
pub record IsFollowed (set least : ℕ) (w w' : Writer) (es : List Entry) (t t' : Table) (held : Contents) (old new : BayState) : Type 0 where
  pub sound : IsSound old
  pub told : old.contents ≡ Some held
  pub of : IsOf w t old
  pub may : MayOpen set [] t
  pub other : set ≢ w.set
  pub fits : Fits w es t held
  pub can : closes_first w t ≡ true → CanDigest w
  pub follows : Follows set least w w' t t' old new

-- a crash since the old state left what is seen; the drives are live in the table, have the one set alone in what was held, and nothing of
-- the other
pub record IsLeftBetween (t : Table) (set next : ℕ) (held : Contents) (old new : BayState) (view : View) : Type 0 where
  pub left : LeftSince new.left old.moment view.held
  pub live : AreLive t view.drives
  pub alone : IsAlone t set held view.drives
  pub new_set : IsNew (array_of t) next held view.drives

-- Where a crash leaves a head of the next set anywhere, each member of the set before it that was live behind its closing, where it was to
-- be closed, has all its records, its digest and its whole foot.
abbrev pub NextHeadComesLast : BayState → BayState → Type 0
NextHeadComesLast old new = (set least : ℕ) (w w' : Writer) (es : List Entry) (t t' : Table) (held : Contents) (view : View) → (is : IsFollowed set least w w' es t t' held old new) → IsLeftBetween t w.set set held old new view
    → closes_first w t ≡ true → (d z : ℕ) → is_among view.drives d ≡ true → 2 ≤ z → begins_with (array_of t) set (view.held d z) ≡ true
    → (e y i : ℕ) → IsLiveMember is.follows.closed_table w.set e y i → view.held e y ≡ zone_bytes (closed w) es i

-- A crash leaves the first records of the set, of its digest too where it is closed, and all of them where each carrier has a whole
-- foot; and the first of those that the next one is opened with, which doesn't stand without all of them. Each other set says what it
-- said.
abbrev pub NextLeavesFirst : BayState → BayState → Type 0
NextLeavesFirst old new = (set least : ℕ) (w w' : Writer) (es : List Entry) (t t' : Table) (held : Contents) (view : View) → (is : IsFollowed set least w w' es t t' held old new) → IsLeftBetween t w.set set held old new view
    → HaveFirst (bytes_by (ended w t) es) t old.firm view × AgreeWhereClosed (ended w t) es view × HaveFirst (bytes_opened (array_of t) set []) is.follows.formed old.firm view × IsNotReadyOrWhole (array_of t) set [] view
    × OthersSay is.follows.formed set (with_end w t held) old.firm view × OthersSay t w.set held old.firm (record view { held = cut_back (with_end w t held) view.held })

-- ---- what is firm

-- Where all that the live members of a set hold is firm, as behind a flush, so is all that was written on them.
abbrev pub FirmMembersHaveAll : BayState → Type 0
FirmMembersHaveAll bay = (w : Writer) (es : List Entry) (t : Table) (held : Contents) (drives : List ℕ) → bay.contents ≡ Some held → array_by w ≡ array_of t → Fits w es t held → MembersFirm w.set t bay → AreLive t drives
    → AreWhole (bytes_by w es) t drives bay.firm

-- Records that were firm are firm behind an append,
abbrev pub AppendKeepsFirm : BayState → BayState → Type 0
AppendKeepsFirm old new = (w : Writer) (es : List Entry) (m : Marker) (body : CodedPayload) (t t' : Table) (held : Contents) (drives : List ℕ) (count : ℕ) → Appends w es m body t t' held old new → count ≤ length es → AreFirm (bytes_by w es) t drives old.firm count
    → AreFirm (bytes_by (behind w m) (es ++ entry_for m body.payload ∷ [])) t' drives new.firm count

-- and are the first of those that the set has once it is closed.
abbrev pub FirmIsOfClosed : Type 0
FirmIsOfClosed = (w : Writer) (es : List Entry) (t : Table) (firm : Lengths) (drives : List ℕ) (count : ℕ) → count ≤ length es → AreFirm (bytes_by w es) t drives firm count → AreFirm (bytes_by (closed w) es) t drives firm count

-- ---- the sets beside it

-- What calls on the members of some sets left of the others, and of what began with a head, when they led from the one to the other
-- contents.
pub record KeepsSets (IsOwn : ℕ → Type 0) (t t' : Table) (drives : List ℕ) (held at : Contents) (firm firm_now : Lengths) : Type 0 where
  -- those sets are alone
  pub own : (set : ℕ) → IsOwn set → IsAlone t' set at drives
  -- each other set that was alone is so, and one of which nothing was there isn't there
  pub alone : (other : ℕ) → (IsOwn other → ⊥) → IsAlone t other held drives → IsAlone t' other at drives
  pub none : (other : ℕ) → (IsOwn other → ⊥) → IsNew (array_of t) other held drives → IsNew (array_of t) other at drives
  -- the zones of each other set hold what they held, and no less of it is firm
  pub holds : (s : SetBytes) → (IsOwn s.set → ⊥) → HoldBytes s t held drives → HoldBytes s t' at drives
  pub firm_still : (s : SetBytes) (count : ℕ) → (IsOwn s.set → ⊥) → AreFirm s t drives firm count → AreFirm s t' drives firm_now count
  pub whole_still : (s : SetBytes) → (IsOwn s.set → ⊥) → AreWhole s t drives firm → AreWhole s t' drives firm_now

-- calls on this set alone
abbrev pub IsOne : ℕ → ℕ → Type 0
IsOne set other = other ≡ set

-- calls on either of these
abbrev pub IsEither : ℕ → ℕ → ℕ → Type 0
IsEither set next other = (other ≡ set) ⊎ (other ≡ next)

-- A flush keeps the other sets, on drives that it lost too,
abbrev pub FlushKeepsSets : BayState → BayState → Type 0
FlushKeepsSets old new = (w : Writer) (es : List Entry) (t t' : Table) (held : Contents) (drives : List ℕ) → IsFlushed w es t t' held old new → IsAlone t w.set held drives → KeepsSets (IsOne w.set) t t' drives held held old.firm new.firm

-- so does an append,
abbrev pub AppendKeepsSets : BayState → BayState → Type 0
AppendKeepsSets old new = (w : Writer) (es : List Entry) (m : Marker) (body : CodedPayload) (t t' : Table) (held at : Contents) (drives : List ℕ) → Appends w es m body t t' held old new → new.contents ≡ Some at → AreLive t drives → IsAlone t w.set held drives
    → KeepsSets (IsOne w.set) t t' drives held at old.firm new.firm

-- an opening,
abbrev pub OpeningKeepsSets : BayState → BayState → Type 0
OpeningKeepsSets old new = (set : ℕ) (cuts : List (ℕ × ℕ)) (t t' : Table) (held at : Contents) (drives : List ℕ) → IsOpened set cuts t t' held old new → new.contents ≡ Some at → AreLive t drives → IsNew (array_of t) set held drives
    → KeepsSets (IsOne set) t t' drives held at old.firm new.firm

-- a closing,
abbrev pub ClosingKeepsSets : BayState → BayState → Type 0
ClosingKeepsSets old new = (w : Writer) (es : List Entry) (t t' : Table) (held at : Contents) (drives : List ℕ) → IsClosing w es t t' held old new → new.contents ≡ Some at → AreLive t drives → IsAlone t w.set held drives
    → KeepsSets (IsOne w.set) t t' drives held at old.firm new.firm

-- and what makes the next set.
abbrev pub NextKeepsSets : BayState → BayState → Type 0
NextKeepsSets old new = (set least : ℕ) (w w' : Writer) (es : List Entry) (t t' : Table) (held at : Contents) (drives : List ℕ) → IsFollowed set least w w' es t t' held old new → new.contents ≡ Some at → AreLive t drives → IsAlone t w.set held drives → IsNew (array_of t) set held drives
    → KeepsSets (IsEither w.set set) t t' drives held at old.firm new.firm

-- The set before it holds what it held on the live drives, and its digest and feet where it was to be closed, and then all of that
-- is firm. What was firm of it, and of each set but the next, is firm still.
abbrev pub NextKeepsOld : BayState → BayState → Type 0
NextKeepsOld old new = (set least : ℕ) (w w' : Writer) (es : List Entry) (t t' : Table) (held at : Contents) (drives : List ℕ) → IsFollowed set least w w' es t t' held old new → new.contents ≡ Some at → AreLive t' drives
    → HoldBytes (bytes_by (ended w t) es) t' at drives × (closes_first w t ≡ true → AreWhole (bytes_by (ended w t) es) t' drives new.firm)
    × ((s : SetBytes) (count : ℕ) → s.set ≢ set → AreFirm s t drives old.firm count → AreFirm s t' drives new.firm count)
    × ((s : SetBytes) → s.set ≢ set → AreWhole s t drives old.firm → AreWhole s t' drives new.firm)

-- A crash keeps what is alone, and brings no set.
abbrev pub CrashKeepsAlone : Type 0
CrashKeepsAlone = (t : Table) (set : ℕ) (held : Contents) (firm : Lengths) (image : Contents) (drives : List ℕ) → IsImage held firm image
    → (IsAlone t set held drives → IsAlone t set image drives) × (IsNew (array_of t) set held drives → IsNew (array_of t) set image drives)
