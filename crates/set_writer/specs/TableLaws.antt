-- Laws of what stays of a set where a table is changed outside the writer's calls, and where a writer finds more room.
use Rattle.std.specs.Prelude.{◌≡◌, ◌≢◌, ◌⊎◌, ℕ, true, false, List, [], IfSome}
use Rattle.std.specs.List.{slice_set}
use Rattle.zone_bay.specs.Contents.{Contents, Lengths}
use Rattle.zone_bay.specs.Bay.{BayState}
use Rattle.set_table.specs.declared.zone_use.ZoneUse.TheVariants as uses
use Rattle.set_table.specs.declared.members.Member.{Member}
use Rattle.set_table.specs.Table.{Table, use_at, put_use, taken, is_live, Forms, Adds, KeepsCarried}
use Rattle.set_writer.specs.Entry.{Entry}
use Rattle.set_table.specs.Table.{array_of}
use Rattle.set_writer.specs.Writer.{Writer, written, EmptyHold, Fits}
use Rattle.set_writer.specs.Calls.{IsOf, FitsIn, FitsSome}
use Rattle.set_writer.specs.ImageLaws.{SetBytes, bytes_by, HoldBytes, AreLive, IsAlone, AreFirm, AreWhole, IsNew}

-- ---- what is asked of a change

-- The table is of the same array, no device is live in it that wasn't, and the zones of drives that were live carry the set's indexes
-- where they did.
pub record KeepsZones (set : ℕ) (t t' : Table) : Type 0 where
  pub array : array_of t' ≡ array_of t
  pub live : (d : ℕ) → is_live t' d ≡ true → is_live t d ≡ true
  pub stay : (d z index : ℕ) → is_live t d ≡ true → use_at t.zones d z ≡ uses.Carrier set index → use_at t'.zones d z ≡ uses.Carrier set index
  pub no_more : (d z index : ℕ) → is_live t d ≡ true → use_at t'.zones d z ≡ uses.Carrier set index → use_at t.zones d z ≡ uses.Carrier set index

-- each zone of a live drive that is empty was so, or holds nothing
abbrev pub KeepsEmpty : Table → Table → Contents → Type 0
KeepsEmpty t t' held = (d z : ℕ) → is_live t' d ≡ true → use_at t'.zones d z ≡ uses.Empty → (use_at t.zones d z ≡ uses.Empty) ⊎ (held d z ≡ [])

-- ---- what stays then

-- The table is of the writer and the bay,
abbrev pub TableKeepsOf : BayState → Type 0
TableKeepsOf bay = (set : ℕ) (w : Writer) (t t' : Table) → KeepsZones set t t' → IsOf w t bay → IsOf w t' bay

-- the zones of the set hold the same, on drives that the change lost too,
abbrev pub TableKeepsHeld : Type 0
TableKeepsHeld = (s : SetBytes) (t t' : Table) (held : Contents) (drives : List ℕ) → KeepsZones s.set t t' → AreLive t drives → HoldBytes s t held drives → HoldBytes s t' held drives

-- no less of it is firm,
abbrev pub TableKeepsFirm : Type 0
TableKeepsFirm = (s : SetBytes) (t t' : Table) (drives : List ℕ) (firm : Lengths) (count : ℕ) → KeepsZones s.set t t' → AreLive t drives → AreFirm s t drives firm count → AreFirm s t' drives firm count

-- and all of it, where all was,
abbrev pub TableKeepsWhole : Type 0
TableKeepsWhole = (s : SetBytes) (t t' : Table) (drives : List ℕ) (firm : Lengths) → KeepsZones s.set t t' → AreLive t drives → AreWhole s t drives firm → AreWhole s t' drives firm

-- the set is alone where it was,
abbrev pub TableKeepsAlone : Type 0
TableKeepsAlone = (set : ℕ) (t t' : Table) (held : Contents) (drives : List ℕ) → KeepsZones set t t' → AreLive t drives → IsAlone t set held drives → IsAlone t' set held drives

-- and one that is new is so.
abbrev pub TableKeepsNew : Type 0
TableKeepsNew = (set other : ℕ) (t t' : Table) (held : Contents) (drives : List ℕ) → KeepsZones set t t' → IsNew (array_of t) other held drives → IsNew (array_of t') other held drives

-- What the writer says of its set's zones holds still,
abbrev pub TableKeepsFits : Type 0
TableKeepsFits = (w : Writer) (es : List Entry) (t t' : Table) (held : Contents) → KeepsZones w.set t t' → KeepsEmpty t t' held → Fits w es t held → Fits w es t' held

-- where no writer is, empty zones hold nothing still,
abbrev pub TableKeepsEmpty : Type 0
TableKeepsEmpty = (set : ℕ) (t t' : Table) (held : Contents) → KeepsZones set t t' → KeepsEmpty t t' held → EmptyHold t held → EmptyHold t' held

-- and so it is in the words of the calls,
abbrev pub TableKeepsFitsIn : BayState → Type 0
TableKeepsFitsIn bay = (w : Writer) (es : List Entry) (t t' : Table) → KeepsZones w.set t t' → IfSome bay.contents (KeepsEmpty t t') → FitsIn w es t bay → FitsIn w es t' bay

abbrev pub TableKeepsFitsSome : BayState → Type 0
TableKeepsFitsSome bay = (w : Writer) (t t' : Table) → KeepsZones w.set t t' → IfSome bay.contents (KeepsEmpty t t') → FitsSome w t bay → FitsSome w t' bay

-- ---- which changes are so

-- the set keeps its zones, and no zone gets empty
pub record KeepsSet (set : ℕ) (t t' : Table) : Type 0 where
  pub zones : KeepsZones set t t'
  pub empty : (held : Contents) → KeepsEmpty t t' held

-- Where sets are marked, settled or dropped, any set keeps its zones,
abbrev pub MarkKeepsSet : Type 0
MarkKeepsSet = (set : ℕ) (t t' : Table) → t' ≡ record t { sets = t'.sets } → KeepsSet set t t'

-- where room is found for more sets,
abbrev pub RoomKeepsSet : Type 0
RoomKeepsSet = (set : ℕ) (t t' : Table) → t' ≡ record t { spare = t'.spare } → KeepsSet set t t'

-- where a device is lost,
abbrev pub LossKeepsSet : Type 0
LossKeepsSet = (set device : ℕ) (t t' : Table) → t' ≡ record t { lost = slice_set t.lost device true } → KeepsSet set t t'

-- or several are, and nothing else changed,
abbrev pub LossesKeepSet : Type 0
LossesKeepSet = (set : ℕ) (t t' : Table) → t' ≡ record t { lost = t'.lost } → ((d : ℕ) → is_live t' d ≡ true → is_live t d ≡ true) → KeepsSet set t t'

-- where an empty zone is taken,
abbrev pub TakeKeepsSet : Type 0
TakeKeepsSet = (set device zone : ℕ) (t t' : Table) → t' ≡ record t { zones = put_use device zone (taken (use_at t.zones device zone)) t.zones } → KeepsSet set t t'

-- where another set is formed,
abbrev pub FormKeepsSet : Type 0
FormKeepsSet = (set other : ℕ) (members : List Member) (t t' : Table) → other ≢ set → Forms t other members t' → KeepsSet set t t'

-- where a zone is put to another set,
abbrev pub AddKeepsSet : Type 0
AddKeepsSet = (set other index device zone : ℕ) (t t' : Table) → other ≢ set → use_at t.zones device zone ≡ uses.Taken → Adds t other index device zone t' → KeepsSet set t t'

-- and where a zone that doesn't carry it is given back, once it holds nothing.
abbrev pub ReleaseKeepsSet : Type 0
ReleaseKeepsSet = (set device zone : ℕ) (t t' : Table) → ((index : ℕ) → use_at t.zones device zone ≢ uses.Carrier set index) → t'.zones ≡ put_use device zone uses.Empty t.zones → t'.lost ≡ t.lost → KeepsCarried t t'
    → KeepsZones set t t' × ((held : Contents) → held device zone ≡ [] → KeepsEmpty t t' held)

-- ---- a writer

-- One that wrote records of a set and didn't close it is that set's.
abbrev pub WrittenIsOpen : Type 0
WrittenIsOpen = (w : Writer) (set : ℕ) (es : List Entry) → ((written w set es).set ≡ set) × ((written w set es).is_closed ≡ false)

-- ---- one that found more room

-- Its records and bytes are the same,
abbrev pub RoomKeepsBytes : Type 0
RoomKeepsBytes = (w v : Writer) (es : List Entry) → v ≡ record w { room = v.room } → bytes_by v es ≡ bytes_by w es

-- so the zones hold them, and they are as firm as they were,
pub record KeepsBytes (w v : Writer) (es : List Entry) (t : Table) : Type 0 where
  pub holds : (held : Contents) (drives : List ℕ) → HoldBytes (bytes_by w es) t held drives → HoldBytes (bytes_by v es) t held drives
  pub firm : (drives : List ℕ) (firm : Lengths) (count : ℕ) → AreFirm (bytes_by w es) t drives firm count → AreFirm (bytes_by v es) t drives firm count
  pub whole : (drives : List ℕ) (firm : Lengths) → AreWhole (bytes_by w es) t drives firm → AreWhole (bytes_by v es) t drives firm

abbrev pub RoomKeepsHeld : Type 0
RoomKeepsHeld = (w v : Writer) (es : List Entry) (t : Table) → v ≡ record w { room = v.room } → KeepsBytes w v es t

-- and the table is its own.
abbrev pub RoomKeepsOf : BayState → Type 0
RoomKeepsOf bay = (w v : Writer) (t : Table) → v ≡ record w { room = v.room } → IsOf w t bay → IsOf v t bay
