-- What the calls of a writer do to the table and the bay, call by call on its members.
use Rattle.std.specs.Prelude.{◌≡◌, ◌⊎◌, ℕ, ◌+◌, ◌≤◌, Bool, true, false, ◌&&◌, not, ◌<◌, List, [], ◌++◌, length, All, IfSome, option_map, Result, Ok, Err, ⊤, if◌then◌else◌}
use Rattle.zone_bay.specs.Contents.{Contents, Lengths, IsOfBay}
use Rattle.zone_bay.specs.Images.{ImageOf, Instant, moment_of}
use Rattle.zone_bay.specs.Bay.{BayState}
use Rattle.zone_bay.specs.Stretch.{GoesOn}
use Rattle.set_table.specs.declared.members.Member.{Member}
use Rattle.set_table.specs.Table.{Table, is_live, fragments_of, with_empty_of, Forms, Loses}
use Rattle.set_writer.specs.declared.first.First.{First}
use Rattle.set_writer.specs.declared.first.First.TheVariants as first
use Rattle.set_writer.specs.declared.first.First.TheVariants.{Keeps, IsReady}
use Rattle.set_writer.specs.declared.refusal.WriteRefusal.{WriteRefusal}
use Rattle.set_writer.specs.declared.refusal.WriteRefusal.TheVariants.{Memory, TooFew, NoFit, Short}
use Rattle.set_writer.specs.declared.open.TheConstants.{MOST_CUTS}
use Rattle.set_writer.specs.Entry.{Entry, entries_bytes}
use Rattle.set_writer.specs.Members.{of_members, grown_by, is_member, HasZone, Leads, AllReach, OthersStay, Grows, MembersFirm, HoldBlocks}
use Rattle.set_table.specs.Table.{array_of}
use Rattle.set_writer.specs.Writer.{Writer, array_by, written, opening, parts_of, digest, foot_bytes, closed, AreRecordsFrom, HoldsSet, Fits}
use Rattle.set_writer.specs.Fit.{has_enough}
use Rattle.set_writer.specs.Refusal.{IsShort, IsTooFew}
use Rattle.set_writer.specs.Rounds.{Rounds, InRounds}
use Rattle.set_table.specs.Points.{Point, point_at}

-- ---- what each call asks

-- the table is that of the writer's array, and its geometry is the bay's
pub record IsOf (w : Writer) (t : Table) (bay : BayState) : Type 0 where
  pub array : array_by w ≡ array_of t
  pub shape : IsOfBay t.geometry bay.shape

-- Where the bay tells what it holds, its zones hold what the table and the writer of these records say.
abbrev pub FitsIn : Writer → List Entry → Table → BayState → Type 0
FitsIn w es t bay = IfSome bay.contents (Fits w es t)

-- they do for some records
abbrev pub FitsSome : Writer → Table → BayState → Type 0
FitsSome w t bay = IfSome bay.contents (λ held. (es : List Entry) × Fits w es t held)

-- cuts of earlier sets: 32 at most, each with the number of records that are kept
pub record IsCuts (set : ℕ) (cuts : List (ℕ × ℕ)) : Type 0 where
  pub few : length cuts ≤ MOST_CUTS
  pub targets : All (λ (cut : ℕ × ℕ). (1 ≤ cut.0) × (cut.0 < set)) cuts

-- the first record may stand at this position of the set
abbrev pub MayBegin : ℕ → ℕ → First → Type 0
MayBegin set position first.Opens = position ≡ 0
MayBegin set position (Keeps target kept) = (1 ≤ position) × (1 ≤ target) × (target < set) × (kept < 65536)
MayBegin set position IsReady = 1 ≤ position

-- Of a set that was begun these first records were written, a block each.
pub record Began (begun : Writer) (es : List Entry) (w : Writer) (t t' : Table) (old new : BayState) : Type 0 where
  pub is : w ≡ written begun begun.set es
  pub records : AreRecordsFrom (array_by begun) begun.set 0 es
  pub used : w.used ≡ length es
  pub grows : Grows begun.set (entries_bytes begun.geometry.k es) t t' old new
  pub held : IfSome new.contents (HoldBlocks t' begun.set w.used)
  pub of : IsOf w t' new

-- no call was made
pub record NoCall (old new : BayState) : Type 0 where
  pub contents : new.contents ≡ old.contents
  pub firm : new.firm ≡ old.firm
  pub moment : new.moment ≡ old.moment
  pub goes_on : GoesOn old new (λ i image. ⊥) (λ d m. ⊥)

-- ---- opening

-- an opening has a round for the head, for each cut and for the ready record, and one of flushes
abbrev pub opening_rounds : List (ℕ × ℕ) → ℕ
opening_rounds cuts = length cuts + 3

-- A set was formed, and its first records were written on its members and made firm.
pub record Opens (set : ℕ) (cuts : List (ℕ × ℕ)) (t t' : Table) (old new : BayState) : Type 0 where
  pub members : List Member
  pub formed : Table
  pub forms : Forms t set members formed
  pub grows : Grows set (entries_bytes t.geometry.k (opening (array_of t) set cuts)) formed t' old new
  pub firm : MembersFirm set t' new
  pub others : OthersStay set formed old new
  pub calls : InRounds set (opening_rounds cuts) formed t' old new

-- the array with the first records of a set without cuts
abbrev pub with_opening : ℕ → Table → Contents → Contents
with_opening set t = grown_by t (of_members (fragments_of t) set (entries_bytes t.geometry.k (opening (array_of t) set [])))

-- ---- closing

-- what its closing puts behind the set's records
abbrev pub closing_bytes : Writer → ℕ → List ℕ
closing_bytes w index = entries_bytes w.geometry.k (digest w) index ++ foot_bytes w index

-- the array with the set's digest, and with its digest and feet
abbrev pub with_digest : Writer → Table → Contents → Contents
with_digest w t = grown_by t (of_members (fragments_of t) w.set (entries_bytes w.geometry.k (digest w)))

abbrev pub with_closing : Writer → Table → Contents → Contents
with_closing w t = grown_by t (of_members (fragments_of t) w.set (closing_bytes w))

-- these lengths have all that the live members of the set hold
abbrev pub HasAll : ℕ → Table → Lengths → Contents → Type 0
HasAll set t firm held = (d z : ℕ) → HasZone (is_member (fragments_of t) set) t d → length (held d z) ≤ firm d z

-- A crash left no more than was held; once the records were firm, less than the digest; or once the digest was firm, less than the
-- feet. So where any member has a byte of a foot, each member that was live as the first foot was put has the whole digest, and where
-- any has a byte of the digest, each that was live as the first digest record was put has all the records. Neither is left of an
-- instant before.
abbrev pub LeftClosing : Writer → Table → BayState → Lengths → Lengths → ℕ → ℕ → Instant → Contents → Type 0
LeftClosing w t old flushed firm from_digest from_feet i image =
    ImageOf (option_map (λ held. held) old.contents) old.firm image
    ⊎ ((from_digest ≤ moment_of i) × ImageOf (option_map (with_digest w t) old.contents) flushed image)
    ⊎ ((from_feet ≤ moment_of i) × ImageOf (option_map (with_closing w t) old.contents) firm image)

-- a call on the device failed since old, by this moment
abbrev pub FailedBy : BayState → BayState → ℕ → ℕ → Type 0
FailedBy old new moment d = (m : ℕ) × (old.moment ≤ m) × (m ≤ moment) × new.failed d m

-- a closing has a round for each digest record, one for the feet, and three of flushes
abbrev pub closing_rounds : Writer → ℕ
closing_rounds w = parts_of w + 4

-- The records were made firm, the digest was put on the members and made firm, then the feet.
pub record Closes (w : Writer) (t t' : Table) (old new : BayState) : Type 0 where
  pub grows : Grows w.set (closing_bytes w) t t' old new
  pub firm : MembersFirm w.set t' new
  -- the table as the first digest record was put, the calls until then, by which each device failed that was lost, and what was firm
  pub records_table : Table
  pub records_lost : records_table ≡ record t { lost = records_table.lost }
  pub records_live : (d : ℕ) → is_live records_table d ≡ true → is_live t d ≡ true
  pub records_moment : ℕ
  pub records_failed : IfSome old.contents (λ held. (d : ℕ) → Loses t records_table d → FailedBy old new records_moment d)
  pub firm_first : Lengths
  pub records_firm : IfSome old.contents (λ held. HasAll w.set records_table firm_first held)
  -- the same as the first foot was put; what was firm is firm still
  pub digest_table : Table
  pub digest_lost : digest_table ≡ record t { lost = digest_table.lost }
  pub digest_live : (d : ℕ) → is_live digest_table d ≡ true → is_live records_table d ≡ true
  pub digest_moment : ℕ
  pub digest_failed : IfSome old.contents (λ held. (d : ℕ) → Loses t digest_table d → FailedBy old new digest_moment d)
  pub firm_then : Lengths
  pub digest_firm : IfSome old.contents (λ held. HasAll w.set digest_table firm_then (with_digest w t held))
  pub digest_still : IfSome old.contents (λ held. HasAll w.set digest_table new.firm (with_digest w t held))
  pub digest_before : digest_moment ≤ new.moment
  -- no device came back behind that
  pub stays : (d : ℕ) → is_live t' d ≡ true → is_live digest_table d ≡ true
  pub order : GoesOn old new (LeftClosing w t old firm_first firm_then records_moment digest_moment) (λ d m. ⊤)
  pub others : OthersStay w.set t old new
  pub calls : InRounds w.set (closing_rounds w) t t' old new

-- ---- the next set

-- the set is closed before the next one is opened
abbrev pub closes_first : Writer → Table → Bool
closes_first w t = not w.is_closed && has_enough t w.set

-- what is put behind the old set's records
abbrev pub with_end : Writer → Table → Contents → Contents
with_end w t held = if closes_first w t then with_closing w t held else held

-- the writer, once the set was closed where it had to be
abbrev pub ended : Writer → Table → Writer
ended w t = if closes_first w t then closed w else w

-- the rounds of that
abbrev pub ending_rounds : Writer → Table → ℕ
ending_rounds w t = if closes_first w t then closing_rounds w else 0

-- the set is closed, or nothing is done
abbrev pub EndsBy : Bool → Writer → Table → Table → BayState → BayState → Type 0
EndsBy true w t t' old new = Closes w t t' old new
EndsBy false w t t' old new = (t' ≡ t) × NoCall old new

abbrev pub Ends : Writer → Table → Table → BayState → BayState → Type 0
Ends w t = EndsBy (closes_first w t) w t

-- what a closing may leave, or no call
abbrev pub LeftEnding : Bool → Writer → Table → BayState → Lengths → Lengths → ℕ → ℕ → Instant → Contents → Type 0
LeftEnding true w t old flushed firm from_digest from_feet i image = LeftClosing w t old flushed firm from_digest from_feet i image
LeftEnding false w t old flushed firm from_digest from_feet i image = ImageOf old.contents old.firm image

-- The old set was closed where it had to be, and kept enough members; then a set was formed and opened on the array that was left.
pub record Follows (set least : ℕ) (w w' : Writer) (t t' : Table) (old new : BayState) : Type 0 where
  -- the table behind the closing, and with the set formed
  pub closed_table : Table
  pub lost : closed_table ≡ record t { lost = closed_table.lost }
  -- no device came back, in the closing and behind it
  pub closed_stays : (d : ℕ) → is_live closed_table d ≡ true → is_live t d ≡ true
  pub stays : (d : ℕ) → is_live t' d ≡ true → is_live closed_table d ≡ true
  pub kept : closes_first w t ≡ true → has_enough closed_table w.set ≡ true
  -- enough drives had an empty zone
  pub enough : least ≤ with_empty_of closed_table
  pub members : List Member
  pub formed : Table
  pub forms : Forms closed_table set members formed
  pub table : t' ≡ record formed { lost = t'.lost }
  pub leads : Leads (λ held. with_opening set formed (with_end w t held)) t t' old new
  pub whole : AllReach (λ held. with_opening set formed (with_end w t held)) t' old new
  pub old_firm : closes_first w t ≡ true → MembersFirm w.set t' new
  pub firm : MembersFirm set t' new
  -- what was firm as the first head was put
  pub firm_then : Lengths
  pub all_firm : closes_first w t ≡ true → IfSome old.contents (λ held. HasAll w.set closed_table firm_then (with_closing w t held))
  -- in the closing: the table as the first digest record was put, the calls until then, by which each device failed that was lost, and
  -- what was firm
  pub records_table : Table
  pub records_lost : records_table ≡ record t { lost = records_table.lost }
  pub records_live : (d : ℕ) → is_live records_table d ≡ true → is_live t d ≡ true
  pub records_moment : ℕ
  pub records_failed : closes_first w t ≡ true → IfSome old.contents (λ held. (d : ℕ) → Loses t records_table d → FailedBy old new records_moment d)
  pub firm_records : Lengths
  pub records_firm : closes_first w t ≡ true → IfSome old.contents (λ held. HasAll w.set records_table firm_records held)
  -- the same as the first foot was put; what was firm is so as the first head is put too
  pub digest_table : Table
  pub digest_lost : digest_table ≡ record t { lost = digest_table.lost }
  pub digest_live : (d : ℕ) → is_live digest_table d ≡ true → is_live records_table d ≡ true
  pub digest_stays : (d : ℕ) → is_live closed_table d ≡ true → is_live digest_table d ≡ true
  pub digest_moment : ℕ
  pub digest_failed : closes_first w t ≡ true → IfSome old.contents (λ held. (d : ℕ) → Loses t digest_table d → FailedBy old new digest_moment d)
  pub firm_digest : Lengths
  pub digest_firm : closes_first w t ≡ true → IfSome old.contents (λ held. HasAll w.set digest_table firm_digest (with_digest w t held))
  pub digest_still : closes_first w t ≡ true → IfSome old.contents (λ held. HasAll w.set digest_table firm_then (with_digest w t held))
  -- the point between the closing and the opening, by which each device failed that was lost in the closing, and behind which the next
  -- set is first seen
  pub ended_at : Point
  pub ended_table : ended_at.table ≡ closed_table
  pub digest_before : digest_moment ≤ ended_at.moment
  pub closed_failed : closes_first w t ≡ true → IfSome old.contents (λ held. (d : ℕ) → Loses t closed_table d → FailedBy old new ended_at.moment d)
  pub order : GoesOn old new (λ i image. LeftEnding (closes_first w t) w t old firm_records firm_digest records_moment digest_moment i image ⊎ ((ended_at.moment ≤ moment_of i) × ImageOf (option_map (λ held. with_opening set formed (with_end w t held)) old.contents) firm_then image)) (λ d m. ⊤)
  -- no device without a live member of either set was flushed
  pub others : (d z : ℕ) → (closes_first w t ≡ true → HasZone (is_member (fragments_of t) w.set) t d → ⊥) → (HasZone (is_member (fragments_of formed) set) formed d → ⊥) → new.firm d z ≡ old.firm d z
  -- the calls until that point, and those behind it
  pub ending_calls : Rounds w.set (ending_rounds w t) new.failed (point_at t old) ended_at
  pub opening_calls : Rounds set (opening_rounds []) new.failed (record ended_at { table = formed }) (point_at t' new)
  pub is : w' ≡ written (ended w t) set (opening (array_by w) set [])
  pub fits : FitsIn w' (opening (array_by w) set []) t' new

-- the zones hold what the writer wrote still
abbrev pub StillFits : Writer → Writer → Table → Table → BayState → BayState → Type 0
StillFits w w' t t' old new = (es : List Entry) → FitsIn w es t old → FitsIn w' es t' new

-- The zones of the old set hold what its writer wrote, and its closing where it was closed.
abbrev pub OldHolds : Writer → Table → Table → BayState → BayState → Type 0
OldHolds w t t' old new = (es : List Entry) → FitsIn w es t old → IfSome new.contents (HoldsSet (ended w t) es t')

-- why it wasn't
abbrev pub NextRefusal : ℕ → ℕ → Writer → Writer → Table → Table → BayState → BayState → WriteRefusal → Type 0
NextRefusal set least w w' t t' old new (TooFew live) =
    Ends w t t' old new × (w' ≡ ended w t) × (closes_first w t ≡ true → has_enough t' w.set ≡ true) × IsTooFew t' least live × StillFits w w' t t' old new
NextRefusal set least w w' t t' old new (Short told missing) =
    ((closes_first w t ≡ true) × (w' ≡ closed w) × Closes w t t' old new × IsShort t' w.set told missing × StillFits w w' t t' old new)
    ⊎ (Follows set least w w' t t' old new × IsShort t' set told missing)
NextRefusal set least w w' t t' old new _ = ⊥

-- a set was formed, so enough drives had an empty zone
abbrev pub WereEnough : ℕ → Table → WriteRefusal → Type 0
WereEnough least t (Short told missing) = least ≤ with_empty_of t
WereEnough least t _ = Unit {0}

-- Room for sets is lost only to the one that was formed.
abbrev pub KeepsRoom : {T : Type 0} → Table → Table → Result T WriteRefusal → Type 0
KeepsRoom t t' (Ok x) = t.spare ≤ t'.spare + 1
KeepsRoom t t' (Err (Short told missing)) = t.spare ≤ t'.spare + 1
KeepsRoom t t' (Err e) = t.spare ≤ t'.spare

-- A new set isn't opened: there is no memory, too few drives have an empty zone, or too few of its members are left. Only for the last
-- a call was made on the bay.
abbrev pub OpenRefusal : ℕ → ℕ → List (ℕ × ℕ) → Table → Table → BayState → BayState → WriteRefusal → Type 0
OpenRefusal set least cuts t t' old new Memory = (t' ≡ record t { spare = t'.spare }) × NoCall old new
OpenRefusal set least cuts t t' old new (TooFew live) = (t' ≡ record t { spare = t'.spare }) × NoCall old new × IsTooFew t least live
OpenRefusal set least cuts t t' old new (Short told missing) = ((room : ℕ) × Opens set cuts (record t { spare = room }) t' old new) × IsShort t' set told missing
OpenRefusal set least cuts t t' old new (NoFit blocks left) = ⊥
