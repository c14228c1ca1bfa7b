-- Laws of what a store keeps true of an array, as far as the calls of a writer answer for it.
use Rattle.std.specs.Prelude.{◌≡◌, ◌≢◌, ℕ, ◌<◌, ◌≤◌, true, false, List, [], ◌∷◌, ◌++◌, length, take, IfSome, Contains}
use Rattle.zone_bay.specs.Contents.{Shape, Contents, Lengths}
use Rattle.zone_bay.specs.Images.{IsFirmPrefix, LeftSince}
use Rattle.zone_bay.specs.Bay.{BayState}
use Rattle.array_model.specs.Drives.{Place, is_of, is_among, drives_of, present, labels, head_at}
use Rattle.array_model.specs.Reading.{fragments_of}
use Rattle.array_model.specs.Kept.{HaveOneList, EndsAreFound, TakesFewer}
use Rattle.rs_code.specs.Coded.{CodedPayload}
use Rattle.marker_format.specs.declared.marker.Marker.{Marker}
use Rattle.set_table.specs.declared.zone_use.ZoneUse.TheVariants as uses
use Rattle.set_table.specs.Table.{Table, use_at, HangsTogether}
use Rattle.set_table.specs.Table as table
use Rattle.set_writer.specs.Entry.{Entry, entry_for}
use Rattle.set_table.specs.Table.{array_of}
use Rattle.set_writer.specs.Writer.{Writer, CanDigest, Wrote, behind, closed}
use Rattle.set_writer.specs.Calls.{ended}
use Rattle.set_writer.specs.ImageLaws.{SetBytes, AreSetBytes, bytes_by, bytes_opened, HoldBytes, View, IsAlone, places_of, carriers_in, HaveFirst, IsLeftSince, Appends, IsFlushed, MayOpen, IsOpened, IsLeftNew, IsClosing, IsFollowed, IsLeftBetween, IsOne, IsEither}

-- ---- zones that carry none of a call's sets

-- the zone carries none of these sets by the table
abbrev pub CarriesNone : (ℕ → Type 0) → Table → ℕ → ℕ → Type 0
CarriesNone IsOwn t d z = (set index : ℕ) → IsOwn set → use_at t.zones d z ≢ uses.Carrier set index

-- all that the label's zone of each drive holds is firm
abbrev pub LabelsAreFirm : Shape → Contents → Lengths → Type 0
LabelsAreFirm shape held firm = (d : ℕ) → is_among (drives_of shape) d ≡ true → length (held d 0) ≤ firm d 0

-- What calls on the members of some sets left of all other zones, those of labels and of the flash among them, whichever devices were
-- lost. This was held before, and the table is that behind the calls.
pub record KeepsRest (IsOwn : ℕ → Type 0) (t' : Table) (held : Contents) (old new : BayState) : Type 0 where
  -- each holds what it held,
  pub holds : IfSome new.contents (λ at. (d z : ℕ) → CarriesNone IsOwn t' d z → at d z ≡ held d z)
  -- no less of it is firm, nor of any zone
  pub no_less : (d z : ℕ) → old.firm d z ≤ new.firm d z
  -- and a crash leaves a part of that, with all that was firm.
  pub left : (image : Contents) → LeftSince new.left old.moment image → (d z : ℕ) → CarriesNone IsOwn t' d z → IsFirmPrefix (held d z) (old.firm d z) (image d z)
  -- So where the labels were firm, the same drives are present in it, with the same labels.
  pub present : HangsTogether t' → (shape : Shape) (away : List ℕ) (image : Contents) → LabelsAreFirm shape held old.firm → LeftSince new.left old.moment image
      → (present shape image away ≡ present shape held away) × (labels shape image away ≡ labels shape held away)

-- A flush keeps the rest so,
abbrev pub FlushKeepsRest : BayState → BayState → Type 0
FlushKeepsRest old new = (w : Writer) (es : List Entry) (t t' : Table) (held : Contents) → IsFlushed w es t t' held old new → KeepsRest (IsOne w.set) t' held old new

-- an append,
abbrev pub AppendKeepsRest : BayState → BayState → Type 0
AppendKeepsRest old new = (w : Writer) (es : List Entry) (m : Marker) (body : CodedPayload) (t t' : Table) (held : Contents) → Appends w es m body t t' held old new → KeepsRest (IsOne w.set) t' held old new

-- an opening,
abbrev pub OpeningKeepsRest : BayState → BayState → Type 0
OpeningKeepsRest old new = (set : ℕ) (cuts : List (ℕ × ℕ)) (t t' : Table) (held : Contents) → IsOpened set cuts t t' held old new → KeepsRest (IsOne set) t' held old new

-- a closing,
abbrev pub ClosingKeepsRest : BayState → BayState → Type 0
ClosingKeepsRest old new = (w : Writer) (es : List Entry) (t t' : Table) (held : Contents) → IsClosing w es t t' held old new → KeepsRest (IsOne w.set) t' held old new

-- and what makes the next set.
abbrev pub NextKeepsRest : BayState → BayState → Type 0
NextKeepsRest old new = (set least : ℕ) (w w' : Writer) (es : List Entry) (t t' : Table) (held : Contents) → IsFollowed set least w w' es t t' held old new → KeepsRest (IsEither w.set set) t' held old new

-- ---- what is shown of a set

-- Of the set zones of some drives those that carry the set by the table hold a part of what was written there, with the firm bytes, and
-- no others begin with a whole head of it.
pub record IsShown (s : SetBytes) (t : Table) (firm : Lengths) (view : View) : Type 0 where
  pub cut : (d z index : ℕ) → is_among view.drives d ≡ true → index < table.fragments_of t → use_at t.zones d z ≡ uses.Carrier s.set index → IsFirmPrefix (s.zone index) (firm d z) (view.held d z)
  pub alone : IsAlone t s.set view.held view.drives

-- A crash in a flush or behind it leaves the set so,
abbrev pub FlushShows : BayState → BayState → Type 0
FlushShows old new = (w : Writer) (es : List Entry) (t t' : Table) (held : Contents) (view : View) → IsFlushed w es t t' held old new → IsLeftSince t w.set held old new view → IsShown (bytes_by w es) t old.firm view

-- in an append,
abbrev pub AppendShows : BayState → BayState → Type 0
AppendShows old new = (w : Writer) (es : List Entry) (m : Marker) (body : CodedPayload) (t t' : Table) (held : Contents) (view : View) → Appends w es m body t t' held old new → IsLeftSince t w.set held old new view
    → IsShown (bytes_by (behind w m) (es ++ entry_for m body.payload ∷ [])) t old.firm view

-- an opening,
abbrev pub OpeningShows : BayState → BayState → Type 0
OpeningShows old new = (set : ℕ) (cuts : List (ℕ × ℕ)) (t t' : Table) (held : Contents) (view : View) → (is : IsOpened set cuts t t' held old new) → IsLeftNew t set held old new view → IsShown (bytes_opened (array_of t) set cuts) is.opens.formed old.firm view

-- a closing,
abbrev pub ClosingShows : BayState → BayState → Type 0
ClosingShows old new = (w : Writer) (es : List Entry) (t t' : Table) (held : Contents) (view : View) → IsClosing w es t t' held old new → IsLeftSince t w.set held old new view → IsShown (bytes_by (closed w) es) t old.firm view

-- and both sets where the one follows the other.
abbrev pub NextShows : BayState → BayState → Type 0
NextShows old new = (set least : ℕ) (w w' : Writer) (es : List Entry) (t t' : Table) (held : Contents) (view : View) → (is : IsFollowed set least w w' es t t' held old new) → IsLeftBetween t w.set set held old new view
    → IsShown (bytes_by (ended w t) es) t old.firm view × IsShown (bytes_opened (array_of t) set []) is.follows.formed old.firm view

-- Each other set is shown as it was held, by the table behind the call.
abbrev pub OthersAreShown : (ℕ → Type 0) → Table → Table → Contents → Lengths → View → Type 0
OthersAreShown IsOwn t t' held firm view = (s : SetBytes) → (IsOwn s.set → ⊥) → HoldBytes s t held view.drives → IsAlone t s.set held view.drives → IsShown s t' firm view

-- So it is in a flush,
abbrev pub FlushShowsOthers : BayState → BayState → Type 0
FlushShowsOthers old new = (w : Writer) (es : List Entry) (t t' : Table) (held : Contents) (view : View) → IsFlushed w es t t' held old new → IsLeftSince t w.set held old new view → OthersAreShown (IsOne w.set) t t' held old.firm view

-- an append,
abbrev pub AppendShowsOthers : BayState → BayState → Type 0
AppendShowsOthers old new = (w : Writer) (es : List Entry) (m : Marker) (body : CodedPayload) (t t' : Table) (held : Contents) (view : View) → Appends w es m body t t' held old new → IsLeftSince t w.set held old new view → OthersAreShown (IsOne w.set) t t' held old.firm view

-- an opening,
abbrev pub OpeningShowsOthers : BayState → BayState → Type 0
OpeningShowsOthers old new = (set : ℕ) (cuts : List (ℕ × ℕ)) (t t' : Table) (held : Contents) (view : View) → IsOpened set cuts t t' held old new → IsLeftNew t set held old new view → OthersAreShown (IsOne set) t t' held old.firm view

-- a closing,
abbrev pub ClosingShowsOthers : BayState → BayState → Type 0
ClosingShowsOthers old new = (w : Writer) (es : List Entry) (t t' : Table) (held : Contents) (view : View) → IsClosing w es t t' held old new → IsLeftSince t w.set held old new view → OthersAreShown (IsOne w.set) t t' held old.firm view

-- and where one set follows another.
abbrev pub NextShowsOthers : BayState → BayState → Type 0
NextShowsOthers old new = (set least : ℕ) (w w' : Writer) (es : List Entry) (t t' : Table) (held : Contents) (view : View) → IsFollowed set least w w' es t t' held old new → IsLeftBetween t w.set set held old new view → OthersAreShown (IsEither w.set set) t t' held old.firm view

-- ---- carriers of a set

-- The whole records of the carriers that are found of a set are the first ones of one list.
abbrev pub ListsAreOne : Type 0
ListsAreOne = (s : SetBytes) (t : Table) (firm : Lengths) (view : View) → s.array ≡ array_of t → AreSetBytes s → HaveFirst s t firm view → HaveOneList s.array view.held (carriers_in view s)

-- no two zones of these drives carry one index of the set by the table
abbrev pub IsCarriedOnce : Table → ℕ → List ℕ → Type 0
IsCarriedOnce t set drives =
    (d z e y index : ℕ) → is_among drives d ≡ true → is_among drives e ≡ true → use_at t.zones d z ≡ uses.Carrier set index → use_at t.zones e y ≡ uses.Carrier set index → (d ≡ e) × (z ≡ y)

-- It is so of any table,
abbrev pub TablesCarryOnce : Type 0
TablesCarryOnce = (t : Table) (set : ℕ) (drives : List ℕ) → HangsTogether t → IsCarriedOnce t set drives

-- and where it is, no two zones that are seen have a whole head of one index of the set.
abbrev pub PlacesAreAlone : Type 0
PlacesAreAlone = (s : SetBytes) (t : Table) (firm : Lengths) (view : View) → s.array ≡ array_of t → AreSetBytes s → IsShown s t firm view → IsCarriedOnce t s.set view.drives
    → (index : ℕ) (one other : Place) → Contains (places_of view) one → Contains (places_of view) other → is_of s.set index (head_at s.array view.held one) ≡ true → is_of s.set index (head_at s.array view.held other) ≡ true → one ≡ other

-- ---- zones

-- What the zones of a set hold, each cut off anywhere: a foot is found at its end, and nothing else that is spelled like a foot or a
-- trailer there; and it leaves a block free.
pub record AreKept (s : SetBytes) : Type 0 where
  pub ends : (n index : ℕ) → index < fragments_of s.array → EndsAreFound s.array (take n (s.zone index))
  pub blocks : (n index : ℕ) → index < fragments_of s.array → TakesFewer s.array s.array.geometry.blocks (take n (s.zone index))

-- So it is of what a writer wrote, where an open set can be closed,
abbrev pub WrittenAreKept : Type 0
WrittenAreKept = (w : Writer) (es : List Entry) → Wrote w es → (w.is_closed ≡ false → CanDigest w) → AreKept (bytes_by w es)

-- and of what a set is opened with.
abbrev pub OpenedAreKept : Type 0
OpenedAreKept = (set : ℕ) (cuts : List (ℕ × ℕ)) (t : Table) → MayOpen set cuts t → AreKept (bytes_opened (array_of t) set cuts)

-- So each zone that is seen of the set is in any image that shows it.
abbrev pub ZonesAreKept : Type 0
ZonesAreKept = (s : SetBytes) (t : Table) (firm : Lengths) (view : View) → s.array ≡ array_of t → AreKept s → IsShown s t firm view → (d z index : ℕ) → is_among view.drives d ≡ true → index < table.fragments_of t → use_at t.zones d z ≡ uses.Carrier s.set index
    → EndsAreFound s.array (view.held d z) × TakesFewer s.array s.array.geometry.blocks (view.held d z)
