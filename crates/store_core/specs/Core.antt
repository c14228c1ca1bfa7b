-- What a core is to its callers, what each of its steps does, and what an opening does.
use Rattle.std.specs.Prelude.{◌≡◌, ◌≢◌, ◌⊎◌, ℕ, ◌*◌, Bool, true, false, List, [], length, take, drop, Option, option_map, IfSome, Result, Ok, Err, ⊤}
use Rattle.std.specs.Ordering.{nat_cmp}
use Rattle.std.specs.FinSet as set
use Rattle.smore_base.specs.declared.geometry.Geometry.{Geometry}
use Rattle.smore_base.specs.declared.limits.TheConstants.{BLOCK_BYTES}
use Rattle.smore_base.specs.Objects.{Map}
use Rattle.smore_base.specs.Told.{Told}
use Rattle.zone_bay.specs.declared.bay.Bay as bay
use Rattle.zone_bay.specs.Outside.{Rose}
use Rattle.zone_bay.specs.Contents.{Shape, Contents, with_zone, appended}
use Rattle.zone_bay.specs.Bay.{BayState, Becomes, held_in}
use Rattle.zone_bay.specs.Stretch.{GoesOn, OnlyReads, GoesToward, FailsToward}
use Rattle.marker_format.specs.Zone.{Array}
use Rattle.array_model.specs.Reading.{read_of}
use Rattle.array_model.specs.Map.{map_of}
use Rattle.object_machine.specs.declared.op.Op.{Op}
use Rattle.object_machine.specs.declared.op.Op.TheVariants.{Get}
use Rattle.object_machine.specs.declared.reply.Reply.{Reply}
use Rattle.object_machine.specs.declared.reply.Reply.TheVariants.{Done, Object, Refused}
use Rattle.object_machine.specs.declared.reply.Refusal.TheVariants.{TooFewFragments}
use Rattle.object_machine.specs.Coding.{Coding}
use Rattle.store_core.specs.declared.store.Core.{Core}
use Rattle.store_core.specs.declared.store.TheConstants.{DRIVE, ZONE}
use Rattle.store_core.specs.declared.opening.OpenRefusal.{OpenRefusal}
use Rattle.store_core.specs.declared.opening.OpenRefusal.TheVariants.{Memory, NoLabel}
use Rattle.store_core.specs.declared.records.RecordPlace.{RecordPlace}
use Rattle.zone_bay.specs.Contents.{IsOfBay}
use Rattle.store_core.specs.Extent.{Extents}
use Rattle.store_core.specs.Index.{extents_in}
use Rattle.store_core.specs.Store.{Standing, Case, Store, Cause, Move, known_after, standing_after, FitsFrame}
use Rattle.store_core.specs.Zone.{standing_in, opening_bytes}
use Rattle.store_core.specs.Opening.{BeginsSet, HoldsSet, CanOpen, CanNotOpen}
use Rattle.store_core.specs.Stopped.{Keeps, MayStop}

-- ---- what the bytes of a bay say

-- what each name stands for by what the drives hold
abbrev pub map_in : Array → Shape → Contents → Map
map_in array shape held = map_of array.geometry.k (read_of array shape held)

-- the same by what a bay of the array holds
abbrev pub objects_held : Array → BayState → Map
objects_held array bay = map_in array bay.shape (held_in bay)

-- the same bytes, but of zone 2 of drive 0 so many blocks alone
abbrev pub cut_to : ℕ → Contents → Contents
cut_to blocks held = with_zone DRIVE ZONE (take (BLOCK_BYTES * blocks) (held DRIVE ZONE)) held

-- the lost devices, of which there can be one
abbrev pub lost_drives : Bool → set.FinSet nat_cmp
lost_drives false = set.empty
lost_drives true = set.insert set.empty DRIVE

-- how the objects of the calls of an array with this geometry are cut and coded
abbrev pub coding_of : Geometry → Coding
coding_of geometry = record { k = geometry.k; p = geometry.p; shard = geometry.shard }

-- ---- what a core is

module _ {B : Type 0} {g : bay.Ghosts B} where
  -- its array: the geometry and the number in drive 0's label
  abbrev pub array_in : Core B g → Array
  array_in core = record { geometry = core.geometry; id = core.array }

  abbrev pub geometry_of : Core B g → Geometry
  geometry_of core = core.geometry

  -- the bay that it was opened on
  abbrev pub bay_of : Core B g → B
  bay_of core = core.bay

  -- drive 0 is lost
  abbrev pub is_lost_in : Core B g → Bool
  is_lost_in core = core.is_lost

  -- what it knows of each name, without the bytes of its object
  abbrev pub known_in : Core B g → Extents
  known_in core = extents_in core.index

  -- where its next record goes
  abbrev pub standing_of : Core B g → Standing
  standing_of core = record { set = core.zone.set; blocks = core.zone.blocks; records = core.zone.records; is_torn = core.zone.is_torn; stamp = core.next_stamp }

  abbrev pub place_of : Core B g → RecordPlace
  place_of core = record { set = core.zone.set; index = core.zone.index; position = core.zone.records; array = core.array }

  -- the store that a core is, over what the bay holds. What a refused put left behind the used blocks doesn't count.
  abbrev pub store_over : Core B g → BayState → Contents → Store
  store_over core state held = record {
    state = record { objects = map_in (array_in core) state.shape (cut_to core.zone.blocks held); lost = lost_drives core.is_lost };
    moment = state.moment;
    at = standing_of core;
  }

  -- the same, where the bay tells what it holds
  abbrev pub told_store : (B → BayState) → Core B g → Option Store
  told_store state core = option_map (store_over core (state core.bay)) (state core.bay).contents

  -- what each name stands for in the store
  abbrev pub objects_in : (B → BayState) → Core B g → Map
  objects_in state core = (store_over core (state core.bay) (held_in (state core.bay))).state.objects

  -- No call on drive 0 has failed: what is there is enough to recover from.
  abbrev pub HasEnough : Core B g → Type 0
  HasEnough core = is_lost_in core ≡ false

  -- what the answer of a step depends on
  abbrev pub case_of : Core B g → Core B g → Case
  case_of old new = record { geometry = old.geometry; known = known_in old; at = standing_of old; is_lost = new.is_lost }

-- While drive 0 isn't lost, the store's map is that of what the bay holds.
abbrev pub HoldsMap : {B : Type 0} {g : bay.Ghosts B} → (B → BayState) → Core B g → Type 0
HoldsMap state core =
    IfSome (state (bay_of core)).contents (λ held. is_lost_in core ≡ false
    → (store_over core (state (bay_of core)) held).state.objects ≡ map_in (array_in core) (state (bay_of core)).shape held)

-- ---- what calls do to the bay

-- nothing but zone 2 of drive 0 is written
abbrev pub WritesZone : Option Contents → Option Contents → Type 0
WritesZone before after = (bytes : List ℕ) × (after ≡ option_map (with_zone DRIVE ZONE bytes) before)

-- All that zone 2 of drive 0 holds is firm.
abbrev pub IsFirm : BayState → Type 0
IsFirm bay = IfSome bay.contents (λ held. bay.firm DRIVE ZONE ≡ length (held DRIVE ZONE))

-- What any number of calls does to the bay: they are on drive 0 alone, which is lost exactly where its count rose in them, and
-- stays lost.
pub record Goes (was_lost is_lost : Bool) (old new : BayState) : Type 0 where
  pub goes_on : GoesOn old new (λ _ _. ⊤) (λ d _. (d ≡ DRIVE) × (is_lost ≡ true))
  pub zone : WritesZone old.contents new.contents
  pub others : (d : ℕ) → d ≢ DRIVE → new.faults d ≡ old.faults d
  pub kept : is_lost ≡ false → new.faults DRIVE ≡ old.faults DRIVE
  pub rose : was_lost ≡ false → is_lost ≡ true → Rose (old.faults DRIVE) (new.faults DRIVE)
  pub stays : was_lost ≡ true → is_lost ≡ true

-- A call on drive 0 failed when zone 2 held a part of some bytes behind what it held at first, and as much of it was firm.
abbrev pub FailsAppending : BayState → BayState → Type 0
FailsAppending old new = (bytes : List ℕ) × FailsToward (appended DRIVE ZONE bytes) DRIVE old new

-- an answer that comes without a call on a drive: all but Done, an object with bytes, and the loss of drive 0
abbrev pub IsCalm : Reply → Type 0
IsCalm Done = ⊥
IsCalm (Object bytes) = bytes ≡ []
IsCalm (Refused (TooFewFragments of_set missing)) = ⊥
IsCalm reply = ⊤

-- a call that only reads
abbrev pub IsReading : Op → Type 0
IsReading (Get name) = ⊤
IsReading op = ⊥

-- ---- a step

-- What a step does, of any bay. `step` and the functions of its calls share it.
pub record Steps {B : Type 0} {g : bay.Ghosts B} (state : B → BayState) (old : Core B g) (op : Op) (reply : Reply) (new : Core B g) : Type 0 where
  -- where the bay tells what it holds: a move of the store
  pub told : Told (told_store state old) (told_store state new) (λ s t. Move (geometry_of old) s op reply t)
  -- the same without the bytes, also where the bay tells nothing: the answer has its cause in what the core knows, and the
  -- core knows afterwards what the answer says
  pub cause : Cause (case_of old new) op reply
  pub known : known_in new ≡ known_after op reply (known_in old)
  pub at : standing_of new ≡ standing_after op reply (is_lost_in old) (standing_of old)
  pub array : array_in new ≡ array_in old
  -- the calls on the bay
  pub goes : Goes (is_lost_in old) (is_lost_in new) (state (bay_of old)) (state (bay_of new))
  pub failed : is_lost_in old ≡ false → is_lost_in new ≡ true → FailsAppending (state (bay_of old)) (state (bay_of new))
  -- a lost drive gets no call, an answer that needs none makes none, and a get only reads
  pub untouched : is_lost_in old ≡ true → bay_of new ≡ bay_of old
  pub calm : IsCalm reply → bay_of new ≡ bay_of old
  pub reads : IsReading op → OnlyReads (state (bay_of old)) (state (bay_of new)) (λ _ _. ⊤)
  -- what is done is firm
  pub firm : reply ≡ Done → IsFirm (state (bay_of new))
  -- the answer has a frame
  pub fits : FitsFrame reply
  -- stopped at any of its calls, the step leaves the objects of before it or those of after it
  pub stopped : HasEnough new → Keeps (array_in old) (objects_in state old) (state (bay_of old)) → MayStop (array_in old) (objects_in state old) (objects_in state new) (state (bay_of old)) (state (bay_of new))

-- ---- an opening

-- What the zone lacks of the records that a set begins with was put at its end, and made firm. Crashes since left no more than
-- a part of it there.
pub record Begins (array : Array) (bytes : List ℕ) (old new : BayState) : Type 0 where
  pub toward : GoesToward (appended DRIVE ZONE (drop (length bytes) (opening_bytes array))) old new (λ _ _. ⊥)
  pub becomes : Becomes (appended DRIVE ZONE (drop (length bytes) (opening_bytes array))) old new
  pub firm : IsFirm new

-- The core is one of the bay: of the array of its label, with the map of what the bay held at first, and no count rose.
pub record Serves {B : Type 0} {g : bay.Ghosts B} (state : B → BayState) (old : B) (core : Core B g) : Type 0 where
  pub can : IfSome (state old).contents (λ held. CanOpen (state old).shape held (array_in core))
  pub map : Told (state old).contents (told_store state core) (λ held s. s.state.objects ≡ map_in (array_in core) (state old).shape held)
  pub at : IfSome (state (bay_of core)).contents (λ held. standing_of core ≡ standing_in (array_in core) (held DRIVE ZONE))
  pub of_bay : IsOfBay (geometry_of core) (state old).shape
  pub works : is_lost_in core ≡ false
  pub goes : Goes false false (state old) (state (bay_of core))
  -- a zone that begins a set gets the rest of its head and its ready record, which are firm; one that holds a set is only read
  pub begun : IfSome (state old).contents (λ held. BeginsSet (array_in core) (held DRIVE ZONE) → Begins (array_in core) (held DRIVE ZONE) (state old) (state (bay_of core)))
  pub read : IfSome (state old).contents (λ held. HoldsSet (array_in core) (held DRIVE ZONE) → OnlyReads (state old) (state (bay_of core)) (λ _ _. ⊥))
  -- stopped at any of its calls, the opening leaves the objects that it found
  pub stopped : let objects = objects_held (array_in core) (state old) in
      Keeps (array_in core) objects (state old) → MayStop (array_in core) objects objects (state old) (state (bay_of core))

-- A call on drive 0 failed while what the zone lacks of the records that a set begins with was put at its end: no more than a
-- part of that was put there, and crashes since left no more.
pub record FailsBeginning (old new : BayState) : Type 0 where
  pub array : Array
  pub written : ℕ
  pub can : IfSome old.contents (λ held. CanOpen old.shape held array)
  pub begins : IfSome old.contents (λ held. BeginsSet array (held DRIVE ZONE) × (length (held DRIVE ZONE) ≡ written))
  pub toward : GoesToward (appended DRIVE ZONE (drop written (opening_bytes array))) old new (λ d _. d ≡ DRIVE)
  pub rose : Rose (old.faults DRIVE) (new.faults DRIVE)

-- Where the bay can be opened, a device failed. The bay was only read, unless drive 0 failed while a set was begun. Stopped at any
-- of its calls, the opening leaves the objects that it found.
pub record Refuses (old new : BayState) : Type 0 where
  pub cause : IfSome old.contents (λ held. (CanNotOpen old.shape held → ⊥) → (d : ℕ) × Rose (old.faults d) (new.faults d))
  pub left : OnlyReads old new (λ _ _. ⊤) ⊎ FailsBeginning old new
  pub stopped : (array : Array) → Keeps array (objects_held array old) old → MayStop array (objects_held array old) (objects_held array old) old new

-- Want of memory is free, and then the bay was only read.
abbrev pub RefusesFor : OpenRefusal → BayState → BayState → Type 0
RefusesFor Memory old new = OnlyReads old new (λ _ _. ⊥)
RefusesFor NoLabel old new = Refuses old new

-- What an opening does.
abbrev pub Opens : {B : Type 0} {g : bay.Ghosts B} → (B → BayState) → B → Result (Core B g) (OpenRefusal × B) → Type 0
Opens state old (Ok core) = Serves state old core
Opens state old (Err refusal) = RefusesFor refusal.0 (state old) (state refusal.1)
