-- Laws of whether a set stands in what a crash leaves, and whether it is settled: of a set that is opened, written or closed, with any
-- drives away.
use Rattle.std.specs.Prelude.{◌≡◌, ◌⊎◌, ℕ, ◌<◌, ◌≤◌, Bool, true, false, ◌&&◌, not, is_some, List, [], ◌∷◌, ◌++◌, length, map, filter, take, Some, None}
use Rattle.std.specs.List.{AllByRecursion}
use Rattle.smore_base.specs.Geometry.{IsWithinLimits}
use Rattle.rs_code.specs.Coded.{CodedPayload}
use Rattle.zone_bay.specs.Contents.{Contents, Lengths}
use Rattle.zone_bay.specs.Images.{moment_of}
use Rattle.zone_bay.specs.Bay.{BayState}
use Rattle.marker_format.specs.declared.marker.Marker.{Marker}
use Rattle.marker_format.specs.Zone.{Array}
use Rattle.array_model.specs.Record.{Record, Head, Ready, Cut, Digest}
use Rattle.array_model.specs.Sets.{ReadSet, stands, least_kept, valid, kept_by}
use Rattle.array_model.specs.Enough.{is_settled}
use Rattle.set_table.specs.Table.{Table, HangsTogether, Loses}
use Rattle.set_writer.specs.Entry.{Entry, entry_for, HasBytes}
use Rattle.set_writer.specs.Members.{Flushes, MembersFirm}
use Rattle.set_table.specs.Table.{array_of}
use Rattle.set_writer.specs.Writer.{Writer, array_by, behind, opening, digest, closed, Wrote, Fits}
use Rattle.set_writer.specs.Laws.{records_of}
use Rattle.set_writer.specs.Calls.{IsOf, FitsIn, IsCuts, closes_first, ended, FailedBy}
use Rattle.set_writer.specs.ImageLaws.{SetBytes, bytes_by, AreSetBytes, View, AreLive, IsCrashView, AreFirm, AreWhole, HaveFirst, IsLeftSince, Appends, IsFlushed, bytes_opened, MayOpen, IsOpened, IsLeftNew, IsClosing, IsFollowed, IsLeftBetween}
use Rattle.set_writer.specs.KeptLaws.{IsShown}
use Rattle.set_writer.specs.PayloadLaws.{item_of}
use Rattle.set_writer.specs.SetReadLaws.{read_in, carried_on, are_ready}

-- ---- what is read of a set

-- the record is one of a digest
abbrev pub is_digest : Record → Bool
is_digest (Digest part parts payload) = true
is_digest item = false

-- the records but those of a digest
abbrev pub without_digest : List Record → List Record
without_digest items = filter (λ item. not (is_digest item)) items

-- a valid cut of these sets names the set
abbrev pub is_cut : ℕ → List ReadSet → ReadSet → Bool
is_cut k sets set = is_some (kept_by set.id (valid k sets))

-- The set doesn't stand, so it isn't settled. Where it has a carrier it isn't closed.
pub record DoesNotStand (k : ℕ) (set : ReadSet) : Type 0 where
  pub stand : stands k set ≡ false
  pub settled : (sets : List ReadSet) → is_settled k sets set ≡ false
  pub closed : 0 < set.carriers → set.closed ≡ false

-- It stands with just these records and isn't closed, so it is settled where a valid cut names it, and nowhere else.
pub record StandsOpen (k : ℕ) (es : List Entry) (set : ReadSet) : Type 0 where
  pub stand : stands k set ≡ true
  pub records : set.records ≡ map item_of es
  pub closed : set.closed ≡ false
  pub settled : (sets : List ReadSet) → is_settled k sets set ≡ is_cut k sets set

-- It isn't closed. It has the first of all its records, each that is firm among them; without those of its digest they are the first of
-- the others.
pub record IsLeftOpen (k : ℕ) (all es : List Entry) (IsFirm : ℕ → Type 0) (set : ReadSet) : Type 0 where
  pub closed : set.closed ≡ false
  pub count : ℕ
  pub within : count ≤ length all
  pub least : (c : ℕ) → c ≤ length all → IsFirm c → c ≤ count
  pub records : set.records ≡ map item_of (take count all)
  pub others : without_digest set.records ≡ map item_of (take count es)
  -- it stands where a ready record is among them, so where one is firm
  pub stand : stands k set ≡ are_ready (take count es)
  pub firm : (c : ℕ) → c ≤ length es → IsFirm c → are_ready (take c es) ≡ true → stands k set ≡ true
  -- and it is settled by a cut alone
  pub settled : (sets : List ReadSet) → is_settled k sets set ≡ (stands k set && is_cut k sets set)

-- It has all its records, those of its digest too, and is closed where this says so. It stands where a ready record is among them, and is
-- settled then where it is closed, and else by a cut alone.
pub record IsLeftWhole (k : ℕ) (all es : List Entry) (is_closed : Bool) (set : ReadSet) : Type 0 where
  pub closed : set.closed ≡ is_closed
  pub records : set.records ≡ map item_of all
  pub others : without_digest set.records ≡ map item_of es
  pub stand : stands k set ≡ are_ready es
  pub settled : is_closed ≡ true → (sets : List ReadSet) → is_settled k sets set ≡ are_ready es
  pub cut : is_closed ≡ false → (sets : List ReadSet) → is_settled k sets set ≡ (are_ready es && is_cut k sets set)

-- Where a set has fewer than k carriers it doesn't stand, and isn't settled.
abbrev pub FewDoNotStand : Type 0
FewDoNotStand = (k : ℕ) (set : ReadSet) (sets : List ReadSet) → set.carriers < k → (stands k set ≡ false) × (is_settled k sets set ≡ false)

-- ---- which members are carriers

-- Where records are firm, so are fewer of them.
abbrev pub FewerAreFirm : Type 0
FewerAreFirm = (s : SetBytes) (t : Table) (drives : List ℕ) (firm : Lengths) (c count : ℕ) → c ≤ count → AreFirm s t drives firm count → AreFirm s t drives firm c

-- Where the head is firm on all members that are seen, as many carriers are read as these have indexes.
abbrev pub FirmHeadsAreCarriers : Type 0
FirmHeadsAreCarriers = (s : SetBytes) (t : Table) (firm : Lengths) (view : View) → HaveFirst s t firm view → s.array ≡ array_of t → HangsTogether t → t.geometry.zones ≡ view.shape.zones → AreFirm s t view.drives firm 1
    → (read_in view s).carriers ≡ carried_on t s.set view.drives

-- In any image that shows a set its carriers agree on the first of its records. So the laws below hold of the sets beside those of a call
-- too.
abbrev pub ShownHasFirst : Type 0
ShownHasFirst = (s : SetBytes) (t : Table) (firm : Lengths) (view : View) → s.array ≡ array_of t → AreSetBytes s → IsShown s t firm view → HaveFirst s t firm view

-- ---- the set of a writer

-- A writer of the table's array wrote these records of its set, and they are bytes.
pub record IsWritten (w : Writer) (es : List Entry) (t : Table) : Type 0 where
  pub array : array_by w ≡ array_of t
  pub within : IsWithinLimits t.geometry
  pub wrote : Wrote w es
  pub bytes : AllByRecursion HasBytes es

-- what a crash leaves of it: it isn't closed, or it is, with all its records
abbrev pub IsLeftWritten : Writer → List Entry → Table → Lengths → View → Type 0
IsLeftWritten w es t firm view =
    IsLeftOpen t.geometry.k (records_of w es) es (AreFirm (bytes_by w es) t view.drives firm) (read_in view (bytes_by w es))
    ⊎ ((w.is_closed ≡ true) × IsLeftWhole t.geometry.k (records_of w es) es true (read_in view (bytes_by w es)))

-- So it is in any image from which k carriers are read.
abbrev pub SetIsLeft : Type 0
SetIsLeft = (w : Writer) (es : List Entry) (t : Table) (firm : Lengths) (view : View) → HaveFirst (bytes_by w es) t firm view → IsWritten w es t → t.geometry.k ≤ (read_in view (bytes_by w es)).carriers → IsLeftWritten w es t firm view

-- Of a set that isn't closed the first records are read,
abbrev pub OpenIsLeft : Type 0
OpenIsLeft = (w : Writer) (es : List Entry) (t : Table) (firm : Lengths) (view : View) → HaveFirst (bytes_by w es) t firm view → IsWritten w es t → w.is_closed ≡ false → t.geometry.k ≤ (read_in view (bytes_by w es)).carriers
    → IsLeftOpen t.geometry.k es es (AreFirm (bytes_by w es) t view.drives firm) (read_in view (bytes_by w es))

-- and of one that is firm on all members that are seen, all of them.
abbrev pub WholeIsLeft : Type 0
WholeIsLeft = (w : Writer) (es : List Entry) (t : Table) (firm : Lengths) (view : View) → HaveFirst (bytes_by w es) t firm view → IsWritten w es t → AreWhole (bytes_by w es) t view.drives firm → t.geometry.k ≤ (read_in view (bytes_by w es)).carriers
    → IsLeftWhole t.geometry.k (records_of w es) es w.is_closed (read_in view (bytes_by w es))

-- Where these are k, each is a carrier then.
abbrev pub WholeMembersAreLeft : Type 0
WholeMembersAreLeft = (w : Writer) (es : List Entry) (t : Table) (firm : Lengths) (view : View) → HaveFirst (bytes_by w es) t firm view → IsWritten w es t → AreWhole (bytes_by w es) t view.drives firm → HangsTogether t → t.geometry.zones ≡ view.shape.zones → t.geometry.k ≤ carried_on t w.set view.drives
    → ((read_in view (bytes_by w es)).carriers ≡ carried_on t w.set view.drives) × IsLeftWhole t.geometry.k (records_of w es) es w.is_closed (read_in view (bytes_by w es))

-- Where a ready record is firm on all members that are seen, and these are k, the set stands,
abbrev pub FirmReadyStands : Type 0
FirmReadyStands = (w : Writer) (es : List Entry) (t : Table) (firm : Lengths) (view : View) (count : ℕ) → HaveFirst (bytes_by w es) t firm view → IsWritten w es t → HangsTogether t → t.geometry.zones ≡ view.shape.zones
    → count ≤ length es → AreFirm (bytes_by w es) t view.drives firm count → are_ready (take count es) ≡ true → t.geometry.k ≤ carried_on t w.set view.drives → stands t.geometry.k (read_in view (bytes_by w es)) ≡ true

-- as it does where as many records are firm as it was opened with.
abbrev pub FirmOpeningStands : Type 0
FirmOpeningStands = (w : Writer) (es more : List Entry) (cuts : List (ℕ × ℕ)) (t : Table) (firm : Lengths) (view : View) → HaveFirst (bytes_by w es) t firm view → IsWritten w es t → HangsTogether t → t.geometry.zones ≡ view.shape.zones
    → es ≡ opening (array_of t) w.set cuts ++ more → AreFirm (bytes_by w es) t view.drives firm (length (opening (array_of t) w.set cuts)) → t.geometry.k ≤ carried_on t w.set view.drives → stands t.geometry.k (read_in view (bytes_by w es)) ≡ true

-- ---- behind a call

-- This is held, and so many bytes of it are firm. A crash left what is seen: live drives, on which the set is alone, and k members of it.
pub record IsLeftBehind (t : Table) (set : ℕ) (held : Contents) (firm : Lengths) (view : View) : Type 0 where
  pub together : HangsTogether t
  pub zones : t.geometry.zones ≡ view.shape.zones
  pub live : AreLive t view.drives
  pub left : IsCrashView t set held firm view
  pub enough : t.geometry.k ≤ carried_on t set view.drives

-- Where all is firm that the live members of a set hold, a crash leaves it whole: each member that is seen is a carrier, and all is read.
abbrev pub FirmIsLeft : BayState → Type 0
FirmIsLeft bay = (w : Writer) (es : List Entry) (t : Table) (held : Contents) (view : View) → bay.contents ≡ Some held → IsOf w t bay → Fits w es t held → MembersFirm w.set t bay → IsLeftBehind t w.set held bay.firm view
    → ((read_in view (bytes_by w es)).carriers ≡ carried_on t w.set view.drives) × IsLeftWhole t.geometry.k (records_of w es) es w.is_closed (read_in view (bytes_by w es))

-- ---- openings

-- a cut as it is read
abbrev pub cut_of : ℕ × ℕ → Record
cut_of cut = Cut cut.0 cut.1

-- A set is opened with a head, the cuts that were given and a ready record.
abbrev pub OpeningIsOfCuts : Type 0
OpeningIsOfCuts = (array : Array) (set : ℕ) (cuts : List (ℕ × ℕ)) → map item_of (opening array set cuts) ≡ Head ∷ (map cut_of cuts ++ Ready ∷ [])

-- None of these cuts names the set itself.
abbrev pub NoCutIsItsOwn : Type 0
NoCutIsItsOwn = (array : Array) (set : ℕ) (cuts : List (ℕ × ℕ)) → IsCuts set cuts → least_kept set (map item_of (opening array set cuts)) ≡ None

-- what a crash leaves of a set that is opened with these records: it doesn't stand, or it stands with all of them
abbrev pub IsLeftOpening : ℕ → List Entry → ReadSet → Type 0
IsLeftOpening k es set = DoesNotStand k set ⊎ StandsOpen k es set

-- So it is in any image of these records,
abbrev pub OpeningIsLeft : Type 0
OpeningIsLeft = (set : ℕ) (cuts : List (ℕ × ℕ)) (t formed : Table) (firm : Lengths) (view : View) → HaveFirst (bytes_opened (array_of t) set cuts) formed firm view → MayOpen set cuts t → array_of formed ≡ array_of t
    → IsLeftOpening t.geometry.k (opening (array_of t) set cuts) (read_in view (bytes_opened (array_of t) set cuts))

-- and where they are firm on all members that are seen, it stands.
abbrev pub FirmOpeningIsLeft : Type 0
FirmOpeningIsLeft = (set : ℕ) (cuts : List (ℕ × ℕ)) (t formed : Table) (firm : Lengths) (view : View) → HaveFirst (bytes_opened (array_of t) set cuts) formed firm view → MayOpen set cuts t → array_of formed ≡ array_of t
    → AreFirm (bytes_opened (array_of t) set cuts) formed view.drives firm (length (opening (array_of t) set cuts)) → t.geometry.k ≤ (read_in view (bytes_opened (array_of t) set cuts)).carriers
    → StandsOpen t.geometry.k (opening (array_of t) set cuts) (read_in view (bytes_opened (array_of t) set cuts))

-- A crash in an opening or behind it leaves the set so,
abbrev pub OpeningStandsOrNot : BayState → BayState → Type 0
OpeningStandsOrNot old new = (set : ℕ) (cuts : List (ℕ × ℕ)) (t t' : Table) (held : Contents) (view : View) → IsOpened set cuts t t' held old new → IsLeftNew t set held old new view
    → IsLeftOpening t.geometry.k (opening (array_of t) set cuts) (read_in view (bytes_opened (array_of t) set cuts))

-- and behind one that was answered it stands.
abbrev pub OpenedIsLeft : BayState → BayState → Type 0
OpenedIsLeft old new = (set : ℕ) (cuts : List (ℕ × ℕ)) (t t' : Table) (held at : Contents) (view : View) → IsOpened set cuts t t' held old new → new.contents ≡ Some at → IsLeftBehind t' set at new.firm view
    → ((read_in view (bytes_opened (array_of t) set cuts)).carriers ≡ carried_on t' set view.drives) × StandsOpen t.geometry.k (opening (array_of t) set cuts) (read_in view (bytes_opened (array_of t) set cuts))

-- ---- appends and flushes

-- A crash in an append leaves the first of the records and the new one,
abbrev pub AppendIsLeft : BayState → BayState → Type 0
AppendIsLeft old new = (w : Writer) (es : List Entry) (m : Marker) (body : CodedPayload) (t t' : Table) (held : Contents) (view : View) → Appends w es m body t t' held old new → HangsTogether t → FitsIn (behind w m) (es ++ entry_for m body.payload ∷ []) t' new → IsLeftSince t w.set held old new view
    → t.geometry.k ≤ (read_in view (bytes_by (behind w m) (es ++ entry_for m body.payload ∷ []))).carriers
    → IsLeftOpen t.geometry.k (es ++ entry_for m body.payload ∷ []) (es ++ entry_for m body.payload ∷ []) (AreFirm (bytes_by (behind w m) (es ++ entry_for m body.payload ∷ [])) t view.drives old.firm) (read_in view (bytes_by (behind w m) (es ++ entry_for m body.payload ∷ [])))

-- in a flush the first of those that were written,
abbrev pub FlushIsLeft : BayState → BayState → Type 0
FlushIsLeft old new = (w : Writer) (es : List Entry) (t t' : Table) (held : Contents) (view : View) → IsFlushed w es t t' held old new → HangsTogether t → IsLeftSince t w.set held old new view → t.geometry.k ≤ (read_in view (bytes_by w es)).carriers → IsLeftWritten w es t old.firm view

-- and behind one that was answered all of them.
abbrev pub FlushedIsLeft : BayState → BayState → Type 0
FlushedIsLeft old new = (w : Writer) (es : List Entry) (t t' : Table) (held : Contents) (view : View) → new.contents ≡ Some held → IsOf w t' new → Fits w es t' held → Flushes w.set t t' old new → IsLeftBehind t' w.set held new.firm view
    → ((read_in view (bytes_by w es)).carriers ≡ carried_on t' w.set view.drives) × IsLeftWhole t'.geometry.k (records_of w es) es w.is_closed (read_in view (bytes_by w es))

-- ---- closings

-- what a crash leaves of a set that is to be closed: it isn't, with the first of its records and its digest's, or it is, with all of them
abbrev pub IsLeftClosing : Writer → List Entry → Table → Lengths → View → Type 0
IsLeftClosing w es t firm view =
    IsLeftOpen t.geometry.k (es ++ digest w) es (AreFirm (bytes_by (closed w) es) t view.drives firm) (read_in view (bytes_by (closed w) es))
    ⊎ IsLeftWhole t.geometry.k (es ++ digest w) es true (read_in view (bytes_by (closed w) es))

-- A crash in a closing or behind it leaves the set so,
abbrev pub ClosingIsLeft : BayState → BayState → Type 0
ClosingIsLeft old new = (w : Writer) (es : List Entry) (t t' : Table) (held : Contents) (view : View) → IsClosing w es t t' held old new → IsLeftSince t w.set held old new view → t.geometry.k ≤ (read_in view (bytes_by (closed w) es)).carriers → IsLeftClosing w es t old.firm view

-- and behind one that was answered it is closed.
abbrev pub ClosedIsLeft : BayState → BayState → Type 0
ClosedIsLeft old new = (w : Writer) (es : List Entry) (t t' : Table) (held at : Contents) (view : View) → IsClosing w es t t' held old new → new.contents ≡ Some at → IsLeftBehind t' w.set at new.firm view
    → ((read_in view (bytes_by (closed w) es)).carriers ≡ carried_on t' w.set view.drives) × IsLeftWhole t'.geometry.k (es ++ digest w) es true (read_in view (bytes_by (closed w) es))

-- ---- the next set

-- Where one set follows another a crash leaves the one as a closing does, where it was to be closed, and else as it was;
abbrev pub EndingIsLeft : BayState → BayState → Type 0
EndingIsLeft old new = (set least : ℕ) (w w' : Writer) (es : List Entry) (t t' : Table) (held : Contents) (view : View) → IsFollowed set least w w' es t t' held old new → IsLeftBetween t w.set set held old new view
    → t.geometry.k ≤ (read_in view (bytes_by (ended w t) es)).carriers → IsLeftWritten (ended w t) es t old.firm view

-- the next one doesn't stand, or stands as it is opened.
abbrev pub NextStandsOrNot : BayState → BayState → Type 0
NextStandsOrNot old new = (set least : ℕ) (w w' : Writer) (es : List Entry) (t t' : Table) (held : Contents) (view : View) → IsFollowed set least w w' es t t' held old new → IsLeftBetween t w.set set held old new view
    → IsLeftOpening t.geometry.k (opening (array_of t) set []) (read_in view (bytes_opened (array_of t) set []))

-- Where a carrier of the next one is read, and the one was to be closed, each device that was lost in the closing failed by the instant of
-- that crash,
abbrev pub LostBeforeNext : BayState → BayState → Type 0
LostBeforeNext old new = (set least : ℕ) (w w' : Writer) (es : List Entry) (t t' : Table) (held : Contents) (view : View) → (is : IsFollowed set least w w' es t t' held old new) → (left : IsLeftBetween t w.set set held old new view)
    → closes_first w t ≡ true → 0 < (read_in view (bytes_opened (array_of t) set [])).carriers → (e : ℕ) → Loses t is.follows.closed_table e → FailedBy old new (moment_of left.left.0) e

-- and on drives that were live behind the closing the one is closed with all its records and its digest's, so it is settled where it
-- stands.
abbrev pub ClosedBeforeNext : BayState → BayState → Type 0
ClosedBeforeNext old new = (set least : ℕ) (w w' : Writer) (es : List Entry) (t t' : Table) (held : Contents) (view : View) → (is : IsFollowed set least w w' es t t' held old new) → IsLeftBetween t w.set set held old new view
    → closes_first w t ≡ true → 0 < (read_in view (bytes_opened (array_of t) set [])).carriers → AreLive is.follows.closed_table view.drives → t.geometry.k ≤ (read_in view (bytes_by (closed w) es)).carriers
    → IsLeftWhole t.geometry.k (es ++ digest w) es true (read_in view (bytes_by (closed w) es))

-- Behind an answer the one is closed where it was to be,
abbrev pub EndedIsLeft : BayState → BayState → Type 0
EndedIsLeft old new = (set least : ℕ) (w w' : Writer) (es : List Entry) (t t' : Table) (held at : Contents) (view : View) → IsFollowed set least w w' es t t' held old new → closes_first w t ≡ true → new.contents ≡ Some at → IsLeftBehind t' w.set at new.firm view
    → ((read_in view (bytes_by (closed w) es)).carriers ≡ carried_on t' w.set view.drives) × IsLeftWhole t'.geometry.k (es ++ digest w) es true (read_in view (bytes_by (closed w) es))

-- and the next one stands.
abbrev pub NextIsLeft : BayState → BayState → Type 0
NextIsLeft old new = (set least : ℕ) (w w' : Writer) (es : List Entry) (t t' : Table) (held at : Contents) (view : View) → IsFollowed set least w w' es t t' held old new → new.contents ≡ Some at → IsLeftBehind t' set at new.firm view
    → ((read_in view (bytes_opened (array_of t) set [])).carriers ≡ carried_on t' set view.drives) × StandsOpen t.geometry.k (opening (array_of t) set []) (read_in view (bytes_opened (array_of t) set []))

-- ---- what a writer wrote

-- Behind an append the records and the new one are written,
abbrev pub AppendIsWritten : BayState → BayState → Type 0
AppendIsWritten old new = (w : Writer) (es : List Entry) (m : Marker) (body : CodedPayload) (t t' : Table) (held : Contents) → Appends w es m body t t' held old new → HangsTogether t → FitsIn (behind w m) (es ++ entry_for m body.payload ∷ []) t' new
    → IsWritten (behind w m) (es ++ entry_for m body.payload ∷ []) t

-- behind a closing the same as before, by the writer that is closed,
abbrev pub ClosingIsWritten : BayState → BayState → Type 0
ClosingIsWritten old new = (w : Writer) (es : List Entry) (t t' : Table) (held : Contents) → IsClosing w es t t' held old new → IsWritten (closed w) es t

-- and so they are where another set follows.
abbrev pub NextIsWritten : BayState → BayState → Type 0
NextIsWritten old new = (set least : ℕ) (w w' : Writer) (es : List Entry) (t t' : Table) (held : Contents) → IsFollowed set least w w' es t t' held old new → IsWritten (ended w t) es t
