-- What a table of sets is to its callers, and what its calls do to it.
use Rattle.std.specs.Prelude.{◌≡◌, ◌≢◌, ◌⊎◌, ℕ, ◌+◌, ◌-◌, ◌*◌, ◌<◌, ◌≤◌, Bool, true, false, ◌&&◌, ◌||◌, not, ◌==◌, nat_lt, min, List, [], ◌∷◌, length, map, filter, replicate, Option, Some, None, IsSome, IsSomeAnd, IfSome, is_some, if◌then◌else◌}
use Rattle.std.specs.Int.{from_bool}
use Rattle.std.specs.List.{list_any, range_with_len, slice_index_or, slice_set, fold, sum_by}
use Rattle.smore_base.specs.declared.geometry.Geometry.{Geometry}
use Rattle.smore_base.specs.declared.limits.TheConstants.{MAX_FRAGMENTS}
use Rattle.smore_base.specs.Geometry.{IsWithinLimits}
use Rattle.smore_base.specs.Room.{room}
use Rattle.marker_format.specs.Zone.{Array}
use Rattle.set_table.specs.declared.zone_use.ZoneUse.{ZoneUse}
use Rattle.set_table.specs.declared.zone_use.ZoneUse.TheVariants.{Empty, Taken, Carrier}
use Rattle.set_table.specs.declared.members.Member.{Member}
use Rattle.set_table.specs.declared.rows.Row.{Row}
use Rattle.set_table.specs.declared.rows.Place.{Place}
use Rattle.set_table.specs.Zones.{carries, count_empty, before_empty, blank}
use Rattle.set_table.specs.Rows.{row_of, TakesRow}

-- a set of a table: whether it is settled, and whether it is dropped
pub record Marked : Type 0 where
  pub set : ℕ
  pub is_settled : Bool
  pub is_dropped : Bool

-- the set with this number, where it is among these
abbrev pub marks_of : ℕ → List Marked → Option Marked
marks_of set [] = None
marks_of set (m ∷ ms) = if m.set == set then Some m else marks_of set ms

-- it is put among them, in the place of the one with its number, where there is one; each other set stays as it was
abbrev pub Puts : Marked → List Marked → List Marked → Type 0
Puts m old new = (set : ℕ) → marks_of set new ≡ (if m.set == set then Some m else marks_of set old)

-- each set of some has what is asked of it, where it is among these
abbrev pub is_marked : (Marked → Bool) → Option Marked → Bool
is_marked test None = false
is_marked test (Some m) = test m

-- the least set above this one among these, or none, where no set above it is
abbrev pub IsNextSet : ℕ → List Marked → Option ℕ → Type 0
IsNextSet set sets None = (q : ℕ) → IsSome (marks_of q sets) → q ≤ set
IsNextSet set sets (Some least) = (set < least) × IsSome (marks_of least sets) × ((q : ℕ) → IsSome (marks_of q sets) → set < q → least ≤ q)

-- the set that has this number was changed, and no other
abbrev pub Changes : (Marked → Marked) → ℕ → List Marked → List Marked → Type 0
Changes change set old new = (m : Marked) → marks_of set old ≡ Some m → Puts (change m) old new

-- a set that was just formed
abbrev pub unmarked : ℕ → Marked
unmarked set = record { set = set; is_settled = false; is_dropped = false }

-- A table of the sets of an array: by device, whether it is lost, the flash last; by drive, what its zones are used for; the sets in
-- the table; and for how many more there is room.
pub record Table : Type 0 where
  pub geometry : Geometry
  pub array : List ℕ
  pub lost : List Bool
  pub zones : List (List ZoneUse)
  pub sets : List Marked
  pub spare : ℕ

-- the set as it is among these, or one that was just formed
abbrev pub or_unmarked : ℕ → Option Marked → Marked
or_unmarked set None = unmarked set
or_unmarked set (Some m) = m

-- a table of an array whose devices are live and whose set zones are empty
abbrev pub blank_table : Geometry → List ℕ → ℕ → Table
blank_table g array spare = record { geometry = g; array = array; lost = replicate (g.drives + 1) false; zones = replicate g.drives (blank g.zones); sets = []; spare = spare }

-- bit d tells of device d
abbrev pub lost_bits : List Bool → ℕ
lost_bits [] = 0
lost_bits (is_lost ∷ more) = from_bool is_lost + 2 * lost_bits more

-- ---- zones

-- the zones of a drive
abbrev pub zones_of : List (List ZoneUse) → ℕ → List ZoneUse
zones_of zones d = slice_index_or zones d []

-- what a zone of a drive is used for
abbrev pub use_at : List (List ZoneUse) → ℕ → ℕ → ZoneUse
use_at zones d z = slice_index_or (zones_of zones d) z Taken

-- the same zones, but for this one
abbrev pub put_use : ℕ → ℕ → ZoneUse → List (List ZoneUse) → List (List ZoneUse)
put_use d z u zones = slice_set zones d (slice_set (zones_of zones d) z u)

-- what a zone is used for that is to be no empty one
abbrev pub taken : ZoneUse → ZoneUse
taken Empty = Taken
taken Taken = Taken
taken (Carrier set index) = Carrier set index

-- the zone is a set zone of a drive
pub record IsSetZone (g : Geometry) (d z : ℕ) : Type 0 where
  pub drive : d < g.drives
  pub from : 2 ≤ z
  pub to : z < g.zones

-- some zone carries the set, be its drive lost or not
abbrev pub IsCarried : List (List ZoneUse) → ℕ → Type 0
IsCarried zones set = (d z index : ℕ) × (use_at zones d z ≡ Carrier set index)

-- a zone with this use carries no set
abbrev pub IsBare : ZoneUse → Type 0
IsBare u = (set index : ℕ) → u ≢ Carrier set index

-- what a zone is used for that carries this index no more
abbrev pub forgets : ℕ → ℕ → ZoneUse → ZoneUse
forgets set index u = if carries set index u then Taken else u

-- the same zones, but that none carries the index of the set
abbrev pub without : ℕ → ℕ → List (List ZoneUse) → List (List ZoneUse)
without set index zones = map (map (forgets set index)) zones

-- the device isn't lost
abbrev pub is_live : Table → ℕ → Bool
is_live t d = not (slice_index_or t.lost d true)

-- a device that was live is lost
abbrev pub Loses : Table → Table → ℕ → Type 0
Loses t t' d = (is_live t d ≡ true) × (is_live t' d ≡ false)

-- ---- carriers

-- A zone of a live drive carries the index of the set; no other zone carries it.
pub record IsCarrier (t : Table) (set index d z : ℕ) : Type 0 where
  pub live : is_live t d ≡ true
  pub carries : use_at t.zones d z ≡ Carrier set index
  pub alone : (e y : ℕ) → use_at t.zones e y ≡ Carrier set index → (e ≡ d) × (y ≡ z)

-- what is told of the carrier of an index
abbrev pub TellsCarrier : Table → ℕ → ℕ → Option (ℕ × ℕ) → Type 0
TellsCarrier t set index (Some p) = IsCarrier t set index p.0 p.1
TellsCarrier t set index None = (d z : ℕ) → is_live t d ≡ true → use_at t.zones d z ≢ Carrier set index

abbrev pub drives_of : Geometry → List ℕ
drives_of g = range_with_len 0 g.drives

-- a live drive has a zone that carries the index of the set
abbrev pub is_carried : Table → ℕ → ℕ → Bool
is_carried t set index = list_any (λ d. is_live t d && list_any (carries set index) (zones_of t.zones d)) (drives_of t.geometry)

-- what a table's labels say
abbrev pub array_of : Table → Array
array_of t = record { geometry = t.geometry; id = t.array }

abbrev pub fragments_of : Table → ℕ
fragments_of t = t.geometry.k + t.geometry.p

-- how many indexes of the set no live drive carries
abbrev pub missing_of : Table → ℕ → ℕ
missing_of t set = length (filter (λ index. not (is_carried t set index)) (range_with_len 0 (fragments_of t)))

-- ---- room

-- how many zones of a drive are empty, where it is live
abbrev pub empty_on : Table → ℕ → ℕ
empty_on t d = if is_live t d then count_empty (zones_of t.zones d) else 0

-- the drive is live and has an empty zone
abbrev pub has_empty : Table → ℕ → Bool
has_empty t d = nat_lt 0 (empty_on t d)

-- how many drives do
abbrev pub with_empty_of : Table → ℕ
with_empty_of t = length (filter (has_empty t) (drives_of t.geometry))

-- how many zones of the live drives are empty, of each drive so many at most
abbrev pub sum_to_of : Table → ℕ → ℕ
sum_to_of t most = sum_by (min most) (map (empty_on t) (drives_of t.geometry))

-- the greatest number of sets of all their members that can be formed
abbrev pub room_of : Table → ℕ
room_of t = room (fragments_of t) (map (empty_on t) (drives_of t.geometry))

-- ---- forming a set

-- the drive is rather taken than the other: it has more empty zones, or as many, and is the lower one
abbrev pub is_rather : Table → ℕ → ℕ → Bool
is_rather t a b = nat_lt (empty_on t b) (empty_on t a) || ((empty_on t a == empty_on t b) && nat_lt a b)

-- the drive that is rather taken than any other that isn't chosen yet, is live and has an empty zone, or none, where no drive is
abbrev pub IsBest : Table → (ℕ → Bool) → Option ℕ → Type 0
IsBest t is_chosen None = (d : ℕ) → d < t.geometry.drives → is_chosen d ≡ false → has_empty t d ≡ false
IsBest t is_chosen (Some b) =
    (b < t.geometry.drives) × (is_chosen b ≡ false) × (has_empty t b ≡ true)
    × ((d : ℕ) → d < t.geometry.drives → is_chosen d ≡ false → d ≢ b → is_rather t b d ≡ true)

-- These drives are chosen for a set: as many as it has fragments, or all that are live and have an empty zone; each is rather
-- taken than any other such drive.
pub record IsChoice (t : Table) (is_chosen : ℕ → Bool) : Type 0 where
  pub drives : (d : ℕ) → is_chosen d ≡ true → d < t.geometry.drives
  pub empty : (d : ℕ) → is_chosen d ≡ true → has_empty t d ≡ true
  pub count : length (filter is_chosen (drives_of t.geometry)) ≡ min (fragments_of t) (with_empty_of t)
  pub best : (a b : ℕ) → is_chosen a ≡ true → is_chosen b ≡ false → b < t.geometry.drives → has_empty t b ≡ true → is_rather t a b ≡ true

-- members on these drives, indexes from this one on: each has the drive's lowest empty zone
abbrev pub members_from : Table → ℕ → List ℕ → List Member
members_from t index [] = []
members_from t index (d ∷ ds) = record { index = index; device = d; zone = before_empty (zones_of t.zones d) } ∷ members_from t (index + 1) ds

-- the members of a set that is formed on the chosen drives
abbrev pub members_on : Table → (ℕ → Bool) → List Member
members_on t is_chosen = members_from t 0 (filter is_chosen (drives_of t.geometry))

-- the zones, with the members of a set in them
abbrev pub with_members : ℕ → List Member → List (List ZoneUse) → List (List ZoneUse)
with_members set members zones = fold (λ zones (m : Member). put_use m.device m.zone (Carrier set m.index) zones) zones members

-- a set without members isn't put into the table
abbrev pub PutsFormed : ℕ → List Member → Table → Table → Type 0
PutsFormed set [] old new = (new.sets ≡ old.sets) × (new.spare ≡ old.spare)
PutsFormed set (m ∷ ms) old new = Puts (unmarked set) old.sets new.sets × (new.spare ≡ old.spare - 1)

-- The set was formed of these members, and nothing else changed. Room isn't raised, and is lowered by one at most where the set
-- has all its members.
pub record Forms (old : Table) (set : ℕ) (members : List Member) (new : Table) : Type 0 where
  pub is_chosen : ℕ → Bool
  pub choice : IsChoice old is_chosen
  pub members_are : members ≡ members_on old is_chosen
  pub zones : new ≡ record new { geometry = old.geometry; array = old.array; lost = old.lost; zones = with_members set members old.zones }
  pub sets : PutsFormed set members old new
  pub no_more : room_of new ≤ room_of old
  pub one_less : length members ≡ fragments_of old → room_of old ≤ room_of new + 1

-- The zone carries the index of the set, and no other does; the set is put into the table where it isn't there yet.
pub record Adds (old : Table) (set index device zone : ℕ) (new : Table) : Type 0 where
  pub zones : new ≡ record new { geometry = old.geometry; array = old.array; lost = old.lost; zones = put_use device zone (Carrier set index) (without set index old.zones) }
  pub sets : Puts (or_unmarked set (marks_of set old.sets)) old.sets new.sets
  pub spare : new.spare ≡ old.spare - (if is_some (marks_of set old.sets) then 0 else 1)

-- ---- what stays of sets

-- Where a zone was put to another use, each set that is still carried has the marks that it had, and each other left the table.
pub record KeepsCarried (old new : Table) : Type 0 where
  pub same : new ≡ record new { geometry = old.geometry; array = old.array }
  pub stays : (set : ℕ) → IsCarried new.zones set → marks_of set new.sets ≡ marks_of set old.sets
  pub leaves : (set : ℕ) → (IsCarried new.zones set → ⊥) → marks_of set new.sets ≡ None
  pub room : old.spare ≤ new.spare

-- the set's row is taken out, exactly where no zone carries the set
abbrev pub Leaves : List (List ZoneUse) → ℕ → List Row → List Row → Type 0
Leaves zones set old new = (IsCarried zones set × (new ≡ old)) ⊎ ((IsCarried zones set → ⊥) × TakesRow set old new)

-- each set that is carried has the row that it had, and each other none
abbrev pub Stays : List (List ZoneUse) → List Row → List Row → Type 0
Stays zones old new =
    (q : ℕ) → ((row_of q new ≡ row_of q old) × (IsSome (row_of q new) → IsCarried zones q))
    ⊎ ((row_of q new ≡ None) × (IsCarried zones q → ⊥))

-- ---- what is always so

-- zones 0 and 1 of a drive are no set zones
pub record IsDrive (zones : ℕ) (uses : List ZoneUse) : Type 0 where
  pub length_is : length uses ≡ zones
  pub first : slice_index_or uses 0 Taken ≡ Taken
  pub second : slice_index_or uses 1 Taken ≡ Taken

abbrev pub nowhere : Place
nowhere = record { device = 0; zone = 0 }

-- the row has this place of the index
abbrev pub HasPlace : Row → ℕ → ℕ → ℕ → Type 0
HasPlace row index d z = slice_index_or row.places index nowhere ≡ record { device = d; zone = z }

-- What holds of any table: each zone that carries a set is the place that the set's row has of the index, and each set with a row
-- is carried.
pub record IsTable (g : Geometry) (lost : List Bool) (zones : List (List ZoneUse)) (rows : List Row) : Type 0 where
  pub within : IsWithinLimits g
  pub devices : length lost ≡ g.drives + 1
  pub drives : length zones ≡ g.drives
  pub shaped : (d : ℕ) → d < length zones → IsDrive g.zones (zones_of zones d)
  pub carried : (set : ℕ) → IsSome (row_of set rows) → IsCarried zones set
  pub indexes : (d z set index : ℕ) → use_at zones d z ≡ Carrier set index → index < MAX_FRAGMENTS
  pub places : (d z set index : ℕ) → use_at zones d z ≡ Carrier set index → IsSomeAnd (row_of set rows) (λ row. HasPlace row index d z)
  pub full : (set : ℕ) → IfSome (row_of set rows) (λ row. length row.places ≡ MAX_FRAGMENTS)

-- What callers may know of any table: it has its geometry's devices, drives and zones; only set zones carry sets, no two the same
-- index of a set; and a set is in the table exactly where a zone carries it.
pub record HangsTogether (t : Table) : Type 0 where
  pub within : IsWithinLimits t.geometry
  pub devices : length t.lost ≡ t.geometry.drives + 1
  pub drives : length t.zones ≡ t.geometry.drives
  pub zones : (d : ℕ) → d < length t.zones → length (zones_of t.zones d) ≡ t.geometry.zones
  pub set_zones : (d z set index : ℕ) → use_at t.zones d z ≡ Carrier set index → IsSetZone t.geometry d z
  pub once : (d z e y set index : ℕ) → use_at t.zones d z ≡ Carrier set index → use_at t.zones e y ≡ Carrier set index → (d ≡ e) × (z ≡ y)
  pub listed : (d z set index : ℕ) → use_at t.zones d z ≡ Carrier set index → IsSome (marks_of set t.sets)
  pub carried : (set : ℕ) → IsSome (marks_of set t.sets) → IsCarried t.zones set

abbrev pub marked : Row → Marked
marked row = record { set = row.set; is_settled = row.is_settled; is_dropped = row.is_dropped }
