-- What `run_batch` does, beside the grammar of `Frames`: what a run took, answered and put, what it leaves, and how it ended.
use Rattle.std.specs.Prelude.{IfSome, IsSome, ◌≡◌, ◌≢◌, ◌⊎◌, ℕ, zero, suc, ◌<◌, ◌≤◌, nat_le, false, List, [], ◌∷◌, ◌++◌, length, map, take, drop, slice_get, codes, Option, Some, None, Ok, ⊤}
use Rattle.std.specs.List.{prefix_len}
use Rattle.std.specs.FinMap as finmap
use Rattle.smore_base.specs.declared.geometry.Geometry.{Geometry}
use Rattle.smore_base.specs.Objects.{Map}
use Rattle.smore_base.specs.Told.{Told}
use Rattle.zone_bay.specs.declared.bay.Bay as bay
use Rattle.zone_bay.specs.Outside.{Rose}
use Rattle.zone_bay.specs.Contents.{Contents}
use Rattle.zone_bay.specs.Images.{moment_of}
use Rattle.zone_bay.specs.Bay.{BayState}
use Rattle.zone_bay.specs.Stretch.{GoesOn}
use Rattle.array_model.specs.Kept.{IsFormatted}
use Rattle.object_machine.specs.declared.op.Op.TheVariants.{Delete}
use Rattle.object_machine.specs.declared.reply.Reply.TheVariants as replies
use Rattle.object_machine.specs.declared.machine.Entry.{Entry}
use Rattle.object_machine.specs.History.{IsLegalHistory}
use Rattle.object_machine.specs.Laws.{HasNoDonePut}
use Rattle.store_core.specs.declared.store.Core.{Core}
use Rattle.store_core.specs.declared.opening.OpenRefusal.TheVariants.{Memory, NoLabel}
use Rattle.store_core.specs.Store.{Store, Move}
use Rattle.store_core.specs.Format.{IsFirmOn}
use Rattle.store_core.specs.Stopped.{Array, RecoversTo, Keeps, MayStop}
use Rattle.store_core.specs.Core.{objects_held, array_in, bay_of, geometry_of, is_lost_in, coding_of, told_store, objects_in, HasEnough, HoldsMap, Goes, Steps, RefusesFor, Opens}
use Rattle.smore_top.specs.declared.batch.Outcome.{Outcome}
use Rattle.smore_top.specs.declared.end.End.{End}
use Rattle.smore_top.specs.declared.end.End.TheVariants.{Done, NoMemory, BadWords, SinkFailed, BadFrame, NotOpened, NotFormatted}
use Rattle.smore_top.specs.End.{end_of, ArePut, EndsOpen}
use Rattle.smore_top.specs.Frames.{SpellsCalls, AreWholeFrames, ops_of, reply_frame, reply_frames}
use Rattle.smore_top.specs.Answering.{StandsBehind}
use Rattle.smore_top.specs.Streams.{PutsAll, PutsPart}

-- ---- what a run has around it

-- what the source has left and the sink holds, each where it is told, and what the run works on: a bay, or its open core
pub record Sides (W : Type 0) : Type 0 where
  pub left : Option (List ℕ)
  pub held : Option (List ℕ)
  pub works_on : W

abbrev pub sides : {W : Type 0} → Option (List ℕ) → Option (List ℕ) → W → Sides W
sides left held works_on = record { left = left; held = held; works_on = works_on }

-- the same streams around something else
abbrev pub around : {V W : Type 0} → W → Sides V → Sides W
around works_on streams = sides streams.left streams.held works_on

-- the bytes that the source has left, those that the sink holds, and the store
pub record Ends : Type 0 where
  pub left : List ℕ
  pub held : List ℕ
  pub store : Store

-- these, where all three are told
abbrev pub ends_of : Option (List ℕ) → Option (List ℕ) → Option Store → Option Ends
ends_of (Some left) (Some held) (Some store) = Some (record { left = left; held = held; store = store })
ends_of left held store = None

-- how a run ended, how many calls it answered, and the bay's moment after each reply that was put whole
pub record Ran : Type 0 where
  pub end : End
  pub calls : ℕ
  pub marks : List ℕ

-- what an outcome tells of it
abbrev pub ran_by : Outcome → Ran
ran_by outcome = record { end = end_of outcome.status; calls = outcome.calls; marks = outcome.marks.items }

-- ---- what is told of a run

-- Behind the replies that were put whole: where the sink failed it has a part of the next one, and else nothing more.
abbrev pub IsPartPut : End → List Entry → List ℕ → Type 0
IsPartPut SinkFailed (entry ∷ entries) part = (rest : List ℕ) × (reply_frame entry.reply ≡ part ++ rest) × (0 < length rest)
IsPartPut SinkFailed [] part = ⊥
IsPartPut end entries part = part ≡ []

-- What the calls and answers of a run made of the bytes and of the store, of an array with this geometry.
pub record Transcript (geometry : Geometry) (ran : Ran) (entries : List Entry) (before after : Ends) : Type 0 where
  -- the bytes that were taken are the frames of the calls, in order, and then some with which the run ends
  pub calls : List ℕ
  pub more : List ℕ
  pub taken : before.left ≡ (calls ++ more) ++ after.left
  pub spelled : SpellsCalls (coding_of geometry) calls (ops_of entries)
  pub behind : StandsBehind (coding_of geometry) ran.end more after.left
  -- the sink got the frames of the replies, in order: of as many as there are marks, and then perhaps a part of the next
  pub part : List ℕ
  pub put : after.held ≡ (before.held ++ reply_frames (take (length ran.marks) entries)) ++ part
  pub part_put : IsPartPut ran.end (drop (length ran.marks) entries) part
  -- the calls and their answers are a legal history of the store
  pub legal : IsLegalHistory (Move geometry) before.store entries after.store

-- ---- a run

module _ {B : Type 0} {g : bay.Ghosts B} (state : B → BayState) where
  abbrev pub moment_in : Core B g → ℕ
  moment_in core = (state (bay_of core)).moment

  -- Each call is answered by a step of the core, one behind the other, and these are the cores after each.
  abbrev pub Leads : Core B g → List Entry → List (Core B g) → Type 0
  Leads core [] [] = ⊤
  Leads core (entry ∷ entries) (next ∷ cores) = Steps state core entry.op entry.reply next × Leads next entries cores
  Leads core entries cores = ⊥

  -- the last of them, or the first where there are none
  abbrev pub last_of : Core B g → List (Core B g) → Core B g
  last_of core [] = core
  last_of core (next ∷ cores) = last_of next cores

  abbrev pub told_ends : Sides (Core B g) → Option Ends
  told_ends sides = ends_of sides.left sides.held (told_store state sides.works_on)

  -- A run over an open core.
  pub record Runs (ran : Ran) (before after : Sides (Core B g)) : Type 0 where
    pub ends : EndsOpen ran.end
    pub entries : List Entry
    pub cores : List (Core B g)
    pub leads : Leads before.works_on entries cores
    pub last : after.works_on ≡ last_of before.works_on cores
    pub counted : ran.calls ≡ length entries
    -- a mark for each reply that was put whole: the moment of the core that gave it
    pub put : ArePut ran.end ran.calls (length ran.marks)
    pub marks : ran.marks ≡ take (length ran.marks) (map moment_in cores)
    pub told : Told (told_ends before) (told_ends after) (Transcript (geometry_of before.works_on) ran entries)

-- ---- a run that is stopped

-- how many calls are acknowledged at a moment: as many as have a mark by then. Marks never fall.
abbrev pub acknowledged : List ℕ → ℕ → ℕ
acknowledged marks moment = prefix_len (λ mark. nat_le mark moment) marks

-- a call is, from its mark on
abbrev pub AcknowledgeEach : List ℕ → Type 0
AcknowledgeEach marks = (call mark moment : ℕ) → slice_get marks call ≡ Some mark → mark ≤ moment → call < acknowledged marks moment

module _ {B : Type 0} {g : bay.Ghosts B} (state : B → BayState) where
  -- the objects after so many calls
  abbrev pub objects_after : Core B g → List (Core B g) → ℕ → Map
  objects_after core cores zero = objects_in state core
  objects_after core [] (suc calls) = objects_in state core
  objects_after core (next ∷ cores) (suc calls) = objects_after next cores calls

  -- The image recovers to the objects after so many calls, or after one more.
  abbrev pub RecoversAfter : Array → Core B g → List (Core B g) → ℕ → Contents → Type 0
  RecoversAfter array opened cores calls image =
      let shape = (state (bay_of opened)).shape in
      RecoversTo array shape (objects_after opened cores calls) image ⊎ RecoversTo array shape (objects_after opened cores (suc calls)) image

  -- After calls in which a delete of a name was done, and then no put of it, the name has no object.
  abbrev pub DeletedStayAbsent : Core B g → List Entry → List (Core B g) → Type 0
  DeletedStayAbsent opened entries cores =
      (name : List ℕ) (first more rest : List Entry) (deleted : Entry) → entries ≡ (first ++ deleted ∷ more) ++ rest → deleted.op ≡ Delete name → deleted.reply ≡ replies.Done → HasNoDonePut name more
      → finmap.get (objects_after opened cores (length (first ++ deleted ∷ more))) name ≡ None

  -- A run, from the bay handed in to the bay given back, that may be stopped at any drive call.
  pub record MayStopRun (marks : List ℕ) (opened : Core B g) (entries : List Entry) (cores : List (Core B g)) (before after : BayState) : Type 0 where
    -- Before the opening has answered, a crash leaves what recovers to the objects of the bay handed in,
    pub opening : MayStop (array_in opened) (objects_held (array_in opened) before) (objects_held (array_in opened) before) before (state (bay_of opened))
    -- at any instant what recovers to those after all calls that are acknowledged then, or after one more,
    pub stopped : GoesOn before after (λ i image. RecoversAfter (array_in opened) opened cores (acknowledged marks (moment_of i)) image) (λ d m. ⊤)
    -- and at the end to those after all calls.
    pub ended : Keeps (array_in opened) (objects_in state (last_of state opened cores)) after
    -- So no deleted object returns.
    pub deleted : DeletedStayAbsent opened entries cores

-- A run from a bay that could be opened to the bay that is given back.
pub record RunsBatch {B : Type 0} (g : bay.Ghosts B) (ran : Ran) (before after : Sides B) : Type 0 where
  pub opened : Core B g
  pub closed : Core B g
  -- the map of the first store is that of the bay handed in
  pub opens : Opens g.state before.works_on (Ok opened)
  pub runs : Runs g.state ran (around opened before) (around closed after)
  pub given_back : after.works_on ≡ bay_of closed
  -- while drive 0 isn't lost, the map of the last store is that of the bay given back
  pub holds : HoldsMap g.state closed
  -- nothing but zone 2 of drive 0 was written, and the drive is lost exactly by a fault since the bay was handed in
  pub goes : Goes false (is_lost_in closed) (g.state before.works_on) (g.state after.works_on)
  -- whole frames, up to a Stop or the end, hold no bad one
  pub complete : IfSome (told_ends g.state (around opened before)) (λ ends. AreWholeFrames (coding_of (geometry_of opened)) ends.left → ran.end ≢ BadFrame)
  -- Where a crash before the run leaves what recovers to the objects of the bay handed in, and no call
  -- on drive 0 fails, a crash in the run loses no acknowledged call.
  pub stopped : HasEnough closed → Keeps (array_in opened) (objects_held (array_in opened) (g.state before.works_on)) (g.state before.works_on)
      → MayStopRun g.state ran.marks opened runs.entries runs.cores (g.state before.works_on) (g.state after.works_on)

-- Why a run never began, and what that left of the bay: the words are no command line, or the bay wasn't opened.
abbrev pub NeverBeganBy : {B : Type 0} → (B → BayState) → End → B → B → Type 0
NeverBeganBy state BadWords old new = new ≡ old
NeverBeganBy state NotOpened old new = RefusesFor NoLabel (state old) (state new)
NeverBeganBy state NoMemory old new = RefusesFor Memory (state old) (state new)
NeverBeganBy state end old new = ⊥

-- A run that never began answers no call.
pub record NeverBegan {B : Type 0} (state : B → BayState) (ran : Ran) (old new : B) : Type 0 where
  pub by : NeverBeganBy state ran.end old new
  pub calls : ran.calls ≡ 0
  pub marks : ran.marks ≡ []

-- ---- formatting

-- what `format` puts: the word and a line end
abbrev pub formatted_text : List ℕ
formatted_text = codes "formatted" ++ 10 ∷ []

-- The bay is a new array: each device holds its label alone, all of it firm, and no call failed. So all that a crash now may
-- leave of it is opened to no object.
pub record MakesArray (array : Array) (old new : BayState) : Type 0 where
  pub formatted : Told old.contents new.contents (λ _ held. IsFormatted array old.shape held)
  pub firm : (d : ℕ) → d < old.shape.devices → IsFirmOn d new
  pub keeps : IsSome new.contents → Keeps array finmap.empty new
  pub counts : (d : ℕ) → new.faults d ≡ old.faults d
  pub same_shape : new.shape ≡ old.shape

-- A call on one device failed: its count rose, and no other.
pub record FailsAtOne (old new : BayState) : Type 0 where
  pub device : ℕ
  pub inside : device < old.shape.devices
  pub rose : Rose (old.faults device) (new.faults device)
  pub others : (d : ℕ) → d ≢ device → new.faults d ≡ old.faults d
  pub same_shape : new.shape ≡ old.shape

-- What `format` makes of the bay, and what it puts, by how it ends: the text is put once the array is made, a part of it where
-- the sink failed, and nothing where a device did.
abbrev pub FormatsBy : {B : Type 0} → (B → BayState) → Array → End → Sides B → Sides B → Type 0
FormatsBy state array Done before after = MakesArray array (state before.works_on) (state after.works_on) × Told before.held after.held (PutsAll formatted_text)
FormatsBy state array SinkFailed before after = MakesArray array (state before.works_on) (state after.works_on) × Told before.held after.held (PutsPart formatted_text)
FormatsBy state array NotFormatted before after = FailsAtOne (state before.works_on) (state after.works_on) × (after.held ≡ before.held)
FormatsBy state array end before after = ⊥

-- A run of `format` answers no call.
pub record RunsFormat {B : Type 0} (state : B → BayState) (array : Array) (ran : Ran) (before after : Sides B) : Type 0 where
  pub by : FormatsBy state array ran.end before after
  pub calls : ran.calls ≡ 0
  pub marks : ran.marks ≡ []
