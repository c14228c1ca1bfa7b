-- What a store is to its callers, and its moves: each answer with its cause, and what becomes of the store. Nothing here
-- speaks of zones or bytes of a drive.
use Rattle.std.specs.Prelude.{◌≡◌, ◌⊎◌, ℕ, ◌+◌, ◌<◌, ◌≤◌, Bool, true, false, List, [], length, take, IsTrue, IsSome, Some, None, ◌↔◌, ◌==◌, if◌then◌else◌, ⊤}
use Rattle.std.specs.List.{All}
use Rattle.std.specs.Ordering.{nat_cmp}
use Rattle.std.specs.FinMap as finmap
use Rattle.std.specs.FinSet as set
use Rattle.smore_base.specs.declared.geometry.Geometry.{Geometry}
use Rattle.smore_base.specs.declared.limits.TheConstants.{MAX_NAME_BYTES, MAX_RECORDS}
use Rattle.smore_base.specs.Name.{IsName}
use Rattle.smore_base.specs.Room.{record_blocks}
use Rattle.marker_format.specs.declared.marker.TheConstants.{COUNTER_END}
use Rattle.object_machine.specs.declared.limits.TheConstants.{MAX_OBJECT_BYTES, MAX_NAMES}
use Rattle.object_machine.specs.declared.op.Op.{Op}
use Rattle.object_machine.specs.declared.op.Op.TheVariants.{Put, Get, Delete, List as ListNames}
use Rattle.object_machine.specs.declared.reply.Reply.{Reply}
use Rattle.object_machine.specs.declared.reply.Reply.TheVariants.{Done, Object, NotFound, Names, Refused}
use Rattle.object_machine.specs.declared.reply.Refusal.TheVariants.{Memory, NameBad, TooLarge, Full, TooFewFragments, Spent, Damaged}
use Rattle.object_machine.specs.State.{State, Step, most_names}
use Rattle.store_core.specs.declared.store.TheConstants.{DRIVE, LOST_FRAGMENTS, FULL_NEED, FULL_ROOM}
use Rattle.store_core.specs.declared.zone.Load.{Load}
use Rattle.store_core.specs.declared.extent.Extent.TheVariants.{Sized, Broken}
use Rattle.store_core.specs.Extent.{ByName, Extents, names_above, extents_of}

-- ---- what answers depend on

-- where a store stands: its open set, how many blocks and records the set has, whether a part of a record stands behind them,
-- and the stamp that comes next
pub record Standing : Type 0 where
  pub set : ℕ
  pub blocks : ℕ
  pub records : ℕ
  pub is_torn : Bool
  pub stamp : ℕ

-- what an answer depends on: what is known of each name and where the store stands, before the call, and whether drive 0 is
-- lost when the answer comes
pub record Case : Type 0 where
  pub geometry : Geometry
  pub known : Extents
  pub at : Standing
  pub is_lost : Bool

-- the load of a note
abbrev pub note_load : Load
note_load = record { blocks = 1; records = 1 }

-- that of a put of so many bytes: its note, and in front of it a part, where there are any
abbrev pub put_load : ℕ → Load
put_load bytes = if bytes == 0 then note_load else record { blocks = record_blocks bytes + 1; records = 2 }

-- they can't be put behind the others: a part of a record stands there, no free block would be left, or there would be more
-- records than have numbers
abbrev pub IsFull : Case → Load → Type 0
IsFull c load = (c.at.is_torn ≡ true) ⊎ (c.geometry.blocks ≤ c.at.blocks + load.blocks) ⊎ (MAX_RECORDS < c.at.records + load.records)

-- there is room for them
pub record HasRoom (c : Case) (load : Load) : Type 0 where
  pub blocks : c.at.blocks + load.blocks < c.geometry.blocks
  pub records : c.at.records + load.records ≤ MAX_RECORDS
  pub whole : c.at.is_torn ≡ false

-- ---- the cause of each answer

-- the name's length is none of a name
abbrev pub IsBadName : List ℕ → ℕ → Type 0
IsBadName name told = (IsName name → ⊥) × (told ≡ length name)

-- drive 0 alone holds the set, of k 1 and p 1: with it lost, both fragments of each record are missing
pub record IsLostSet (c : Case) (of_set missing : ℕ) : Type 0 where
  pub lost : c.is_lost ≡ true
  pub set : of_set ≡ c.at.set
  pub fragments : missing ≡ LOST_FRAGMENTS

-- a stamp is left, and there is room
pub record MayAppend (c : Case) (load : Load) : Type 0 where
  pub stamp : c.at.stamp < COUNTER_END
  pub room : HasRoom c load

-- Why an answer comes to a step that is to append these records.
abbrev pub AppendCause : Case → Load → Reply → Type 0
AppendCause c load Done = MayAppend c load × (c.is_lost ≡ false)
AppendCause c load (Refused Memory) = MayAppend c load × (c.is_lost ≡ false)
AppendCause c load (Refused Spent) = c.at.stamp ≡ COUNTER_END
AppendCause c load (Refused (Full need room)) = (c.at.stamp < COUNTER_END) × IsFull c load × (need ≡ FULL_NEED) × (room ≡ FULL_ROOM)
AppendCause c load (Refused (TooFewFragments of_set missing)) = MayAppend c load × IsLostSet c of_set missing
AppendCause c load reply = ⊥

-- nothing is in the way of a put of so many bytes,
pub record MayPut (c : Case) (name : List ℕ) (bytes : ℕ) : Type 0 where
  pub named : IsName name
  pub small : bytes ≤ c.geometry.shard
  pub may : MayAppend c (put_load bytes)
  pub works : c.is_lost ≡ false

-- nor of a delete
pub record MayDelete (c : Case) (name : List ℕ) : Type 0 where
  pub named : IsName name
  pub there : IsSome (finmap.get c.known name)
  pub may : MayAppend c note_load
  pub works : c.is_lost ≡ false

-- to a put of so many bytes: of a shard at most
abbrev pub PutCause : Case → List ℕ → ℕ → Reply → Type 0
PutCause c name bytes (Refused (NameBad n)) = IsBadName name n
PutCause c name bytes (Refused (TooLarge n)) = IsName name × (c.geometry.shard < bytes) × (n ≡ bytes)
PutCause c name bytes reply = IsName name × (bytes ≤ c.geometry.shard) × AppendCause c (put_load bytes) reply

-- to a delete
abbrev pub DeleteCause : Case → List ℕ → Reply → Type 0
DeleteCause c name (Refused (NameBad n)) = IsBadName name n
DeleteCause c name NotFound = IsName name × (finmap.get c.known name ≡ None)
DeleteCause c name reply = IsName name × IsSome (finmap.get c.known name) × AppendCause c note_load reply

-- the name stands for an object of so many bytes, which has parts and isn't too large
pub record IsReadable (c : Case) (name : List ℕ) (bytes : ℕ) : Type 0 where
  pub known : finmap.get c.known name ≡ Some (Sized bytes)
  pub some : 0 < bytes
  pub small : bytes ≤ MAX_OBJECT_BYTES

-- to a get: an object without bytes needs no drive
abbrev pub GetCause : Case → List ℕ → Reply → Type 0
GetCause c name (Refused (NameBad n)) = IsBadName name n
GetCause c name NotFound = IsName name × (finmap.get c.known name ≡ None)
GetCause c name (Refused (TooLarge n)) = IsName name × (finmap.get c.known name ≡ Some (Sized n)) × (MAX_OBJECT_BYTES < n)
GetCause c name (Refused (Damaged upload part)) = IsName name × (finmap.get c.known name ≡ Some (Broken upload part))
GetCause c name (Refused (TooFewFragments of_set missing)) = IsName name × ((bytes : ℕ) × IsReadable c name bytes) × IsLostSet c of_set missing
GetCause c name (Refused Memory) = IsName name × ((bytes : ℕ) × IsReadable c name bytes) × (c.is_lost ≡ false)
GetCause c name (Object bytes) = IsName name × (finmap.get c.known name ≡ Some (Sized (length bytes))) × (length bytes ≤ MAX_OBJECT_BYTES) × (c.is_lost ≡ true → bytes ≡ [])
GetCause c name reply = ⊥

-- the first of these, and whether others follow
pub record Lists {X : Type 0} (known : ByName X) (after : List ℕ) (limit : ℕ) (names : List (List ℕ)) (more : Bool) : Type 0 where
  pub first : names ≡ take (most_names limit) (names_above known after)
  pub others : IsTrue more ↔ (most_names limit < length (names_above known after))

-- to a list
abbrev pub ListCause : Case → List ℕ → ℕ → Reply → Type 0
ListCause c after limit (Refused (NameBad n)) = (MAX_NAME_BYTES < length after) × (n ≡ length after)
ListCause c after limit (Refused Memory) = length after ≤ MAX_NAME_BYTES
ListCause c after limit (Names names more) = (length after ≤ MAX_NAME_BYTES) × Lists c.known after limit names more
ListCause c after limit reply = ⊥

-- Why an answer comes to a call. Each answer has its cause here, and no other comes.
abbrev pub Cause : Case → Op → Reply → Type 0
Cause c (Put name object) reply = PutCause c name (length object.bytes) reply
Cause c (Get name) reply = GetCause c name reply
Cause c (Delete name) reply = DeleteCause c name reply
Cause c (ListNames after limit) reply = ListCause c after limit reply

-- ---- what becomes of it

-- what is known of each name afterwards
abbrev pub known_after : Op → Reply → Extents → Extents
known_after (Put name object) Done known = finmap.insert known name (Sized (length object.bytes))
known_after (Delete name) Done known = finmap.remove known name
known_after op reply known = known

-- the records of a call that is done
abbrev pub load_of : Op → Load
load_of (Put name object) = put_load (length object.bytes)
load_of (Delete name) = note_load
load_of op = record { blocks = 0; records = 0 }

-- the stamp that comes next, where one was drawn
abbrev pub stamped : Op → Standing → Standing
stamped (Put name object) at = record at { stamp = at.stamp + 1 }
stamped (Delete name) at = record at { stamp = at.stamp + 1 }
stamped op at = at

-- where the store stands afterwards. A call that appended has drawn its stamp, also where it is refused then.
abbrev pub standing_after : Op → Reply → Bool → Standing → Standing
standing_after op Done was_lost at = stamped op (record at { blocks = at.blocks + (load_of op).blocks; records = at.records + (load_of op).records })
standing_after op (Refused (TooFewFragments of_set missing)) false at = stamped op at
standing_after op reply was_lost at = at

-- only an answer that says so makes drive 0 lost
abbrev pub lost_after : Reply → set.FinSet nat_cmp → set.FinSet nat_cmp
lost_after (Refused (TooFewFragments of_set missing)) lost = set.insert lost DRIVE
lost_after reply lost = lost

-- ---- the store

-- the machine's state, the bay's moment, and where the store stands
pub record Store : Type 0 where
  pub state : State
  pub moment : ℕ
  pub at : Standing

-- drive 0 is lost
abbrev pub has_lost : Store → Bool
has_lost store = set.contains store.state.lost DRIVE

-- what an answer depends on that leads from one store to another
abbrev pub case_between : Geometry → Store → Store → Case
case_between geometry old new = record { geometry = geometry; known = extents_of old.state.objects; at = old.at; is_lost = has_lost new }

-- A move of the store, of an array with this geometry: a step of the store machine whose answer has its cause.
pub record Move (geometry : Geometry) (old : Store) (op : Op) (reply : Reply) (new : Store) : Type 0 where
  pub cause : Cause (case_between geometry old new) op reply
  pub step : Step old.state op reply new.state
  pub lost : new.state.lost ≡ lost_after reply old.state.lost
  pub at : new.at ≡ standing_after op reply (has_lost old) old.at
  pub later : old.moment ≤ new.moment

-- ---- how long answers are

-- an answer that has a frame: no object of a get has more bytes, and no list more names
abbrev pub FitsFrame : Reply → Type 0
FitsFrame (Object bytes) = length bytes ≤ MAX_OBJECT_BYTES
FitsFrame (Names names more) = (length names ≤ MAX_NAMES) × All IsName names
FitsFrame reply = ⊤
