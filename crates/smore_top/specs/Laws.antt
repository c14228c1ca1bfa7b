-- What follows from the grammar of frames, from the table of statuses, and from what an opening does.
use Rattle.std.specs.Prelude.{◌≡◌, ℕ, ◌<◌, ◌^◌, List, ◌++◌, length, Some, Result, Ok, Err, ⊤}
use Rattle.smore_base.specs.Objects.{Map}
use Rattle.zone_bay.specs.declared.bay.Bay as bay
use Rattle.zone_bay.specs.Outside.{Rose}
use Rattle.zone_bay.specs.Contents.{Shape, Contents}
use Rattle.zone_bay.specs.Bay.{BayState}
use Rattle.object_machine.specs.declared.reply.Reply.{Reply}
use Rattle.object_machine.specs.declared.reply.Reply.TheVariants.{Refused}
use Rattle.object_machine.specs.Coding.{Coding}
use Rattle.store_core.specs.declared.store.Core.{Core}
use Rattle.store_core.specs.declared.opening.OpenRefusal.{OpenRefusal}
use Rattle.store_core.specs.declared.opening.OpenRefusal.TheVariants.{Memory, NoLabel}
use Rattle.store_core.specs.Stopped.{Array, IsLeftOf, RecoversTo, Keeps, MayStop}
use Rattle.store_core.specs.Core.{array_in, bay_of, objects_in, Opens}
use Rattle.smore_top.specs.declared.end.End.{End}
use Rattle.smore_top.specs.declared.request.Request.{Request}
use Rattle.smore_top.specs.End.{status_of, end_of}
use Rattle.smore_top.specs.Frames.{Spells, HasFrame, refusal_fields, reply_frame}

-- Of frames at the front of the same bytes neither ends before the other, and they ask for the same.
abbrev pub FramesAreApart : Type 0
FramesAreApart = (coding : Coding) (front other rest more : List ℕ) (a b : Request) → Spells coding front a → Spells coding other b → front ++ rest ≡ other ++ more → (front ≡ other) × (a ≡ b) × (rest ≡ more)

-- a refusal's values fit their eight bytes
abbrev pub FitsValues : Reply → Type 0
FitsValues (Refused why) = ((refusal_fields why).1 < 2 ^ 64) × ((refusal_fields why).2 < 2 ^ 64)
FitsValues reply = ⊤

-- Replies with one frame are one.
abbrev pub RepliesAreApart : Type 0
RepliesAreApart = (a b : Reply) → HasFrame a → HasFrame b → FitsValues a → FitsValues b → reply_frame a ≡ reply_frame b → a ≡ b

-- Ends with one status are one.
abbrev pub EndsAreApart : Type 0
EndsAreApart = (end : End) → end_of (status_of end) ≡ end

-- ---- reopening

-- the bay holds these bytes, all of them firm
pub record HoldsFirm (shape : Shape) (held : Contents) (bay : BayState) : Type 0 where
  pub same_shape : bay.shape ≡ shape
  pub contents : bay.contents ≡ Some held
  pub firm : (d z : ℕ) → bay.firm d z ≡ length (held d z)

-- An opening is refused for want of memory, or because a call on a device failed. Stopped at any of its calls it leaves the
-- objects too.
abbrev pub RefusesOnly : OpenRefusal → Array → Map → BayState → BayState → Type 0
RefusesOnly Memory array objects old new = MayStop array objects objects old new
RefusesOnly NoLabel array objects old new = ((d : ℕ) × Rose (old.faults d) (new.faults d)) × MayStop array objects objects old new

-- It gives a store of the array with these objects, and stopped at any of its calls it leaves them.
abbrev pub ReopensTo : {B : Type 0} {g : bay.Ghosts B} → (B → BayState) → Array → Map → B → Result (Core B g) (OpenRefusal × B) → Type 0
ReopensTo state array objects old (Ok core) = (array_in core ≡ array) × (objects_in state core ≡ objects) × MayStop array objects objects (state old) (state (bay_of core))
ReopensTo state array objects old (Err refusal) = RefusesOnly refusal.0 array objects (state old) (state refusal.1)

-- What is left of an image that recovers to some objects is opened to them, and a stop in that opening loses none.
abbrev pub ImagesReopen : {B : Type 0} → bay.Ghosts B → Type 0
ImagesReopen {B} g =
    (array : Array) (shape : Shape) (objects : Map) (image left : Contents) → RecoversTo array shape objects image → IsLeftOf image left
    → (old : B) → HoldsFirm shape left (g.state old)
    → (result : Result (Core B g) (OpenRefusal × B)) → Opens g.state old result → ReopensTo g.state array objects old result

-- A bay of which all that a crash now may leave recovers to some objects is opened to them too. So it is of a new array, which has
-- none, and of what a run gives back that kept its objects.
abbrev pub KeptReopen : {B : Type 0} → bay.Ghosts B → Type 0
KeptReopen {B} g =
    (array : Array) (objects : Map) (old : B) → Keeps array objects (g.state old)
    → (result : Result (Core B g) (OpenRefusal × B)) → Opens g.state old result → ReopensTo g.state array objects old result
