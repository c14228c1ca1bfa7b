-- What one turn of a run does.
use Rattle.std.specs.Prelude.{◌≡◌, ℕ, List, [], ◌++◌}
use Rattle.smore_base.specs.declared.geometry.Geometry.{Geometry}
use Rattle.smore_base.specs.Told.{Told}
use Rattle.zone_bay.specs.declared.bay.Bay as bay
use Rattle.zone_bay.specs.Bay.{BayState}
use Rattle.object_machine.specs.declared.machine.Entry.{Entry}
use Rattle.store_core.specs.declared.store.Core.{Core}
use Rattle.store_core.specs.Store.{Move}
use Rattle.store_core.specs.Core.{geometry_of, coding_of, Steps}
use Rattle.smore_top.specs.declared.batch.Run.{Run}
use Rattle.smore_top.specs.declared.turn.Halt.{Halt}
use Rattle.smore_top.specs.declared.request.Request.TheVariants.{Call}
use Rattle.smore_top.specs.Frames.{Spells, reply_frame}
use Rattle.smore_top.specs.Headline.{Sides, Ends, Ran, told_ends}

-- a run by its parts
abbrev pub ran_of : Run → Ran
ran_of run = record { end = run.end; calls = run.calls; marks = run.marks.items }

-- what a turn was that ended a run: it put no reply whole
abbrev pub halted : Halt → Ran
halted halt = record { end = halt.end; calls = halt.calls; marks = [] }

-- A call's frame was taken, its step made, and its reply's frame put.
pub record Exchanges (geometry : Geometry) (entry : Entry) (before after : Ends) : Type 0 where
  pub front : List ℕ
  pub taken : before.left ≡ front ++ after.left
  pub spelled : Spells (coding_of geometry) front (Call entry.op)
  pub put : after.held ≡ before.held ++ reply_frame entry.reply
  pub move : Move geometry before.store entry.op entry.reply after.store

-- The call that this answers.
pub record Answers {B : Type 0} {g : bay.Ghosts B} (state : B → BayState) (before after : Sides (Core B g)) : Type 0 where
  pub entry : Entry
  pub steps : Steps state before.works_on entry.op entry.reply after.works_on
  pub told : Told (told_ends state before) (told_ends state after) (Exchanges (geometry_of before.works_on) entry)
