-- What asking for a call takes, and what sending its reply puts.
use Rattle.std.specs.Prelude.{◌≡◌, ◌⊎◌, ℕ, ◌<◌, List, [], ◌++◌, length, Option, Some, None, Result, Ok, Err, ⊤}
use Rattle.object_machine.specs.declared.op.Op.{Op}
use Rattle.object_machine.specs.declared.reply.Reply.{Reply}
use Rattle.object_machine.specs.Coding.{Coding, IsMadeFor}
use Rattle.smore_top.specs.declared.end.End.{End}
use Rattle.smore_top.specs.declared.end.End.TheVariants.{Done, NoMemory, SourceFailed, SinkFailed, BadFrame}
use Rattle.smore_top.specs.declared.request.Request.{Request}
use Rattle.smore_top.specs.declared.request.Request.TheVariants.{Call, Stop}
use Rattle.smore_top.specs.Frames.{Spells, StartsNoFrame, reply_frame}
use Rattle.smore_top.specs.Streams.{PutsAll, PutsPart}

-- a call that is asked for has an object that is cut and coded as those of the store are
abbrev pub IsMadeRequest : Coding → Request → Type 0
IsMadeRequest coding (Call op) = IsMadeFor coding op
IsMadeRequest coding Stop = ⊤

-- What stands behind the calls of a run, of what was taken, and then of what is left, by how the run ends.
abbrev pub StandsBehind : Coding → End → List ℕ → List ℕ → Type 0
-- a Stop, or nothing, and then nothing is left
StandsBehind coding Done more left = Spells coding more Stop ⊎ ((more ≡ []) × (left ≡ []))
-- what was taken begins with no frame
StandsBehind coding SourceFailed more left = StartsNoFrame coding more
-- what was taken and what is left begin with no frame together, and aren't nothing
StandsBehind coding BadFrame more left = StartsNoFrame coding (more ++ left) × (0 < length (more ++ left))
-- no more was taken
StandsBehind coding SinkFailed more left = more ≡ []
StandsBehind coding NoMemory more left = ⊤
StandsBehind coding end more left = ⊥

-- bytes that were taken, and how the run ends behind them
abbrev pub TakesLast : Coding → End → List ℕ → List ℕ → Type 0
TakesLast coding end before after = (more : List ℕ) × (before ≡ more ++ after) × StandsBehind coding end more after

-- What reading a request took. It answers none at the end between two frames.
abbrev pub ReadsRequest : Coding → Result (Option Request) End → List ℕ → List ℕ → Type 0
ReadsRequest coding (Ok (Some request)) before after = (front : List ℕ) × (before ≡ front ++ after) × Spells coding front request
ReadsRequest coding (Ok None) before after = (before ≡ []) × (after ≡ [])
ReadsRequest coding (Err end) before after = TakesLast coding end before after

-- What asking for the next call took.
abbrev pub AsksCall : Coding → Result Op End → List ℕ → List ℕ → Type 0
AsksCall coding (Ok op) before after = (front : List ℕ) × (before ≡ front ++ after) × Spells coding front (Call op)
AsksCall coding (Err end) before after = TakesLast coding end before after

-- What sending a reply put.
abbrev pub SendsReply : Reply → Result (Unit {0}) End → List ℕ → List ℕ → Type 0
SendsReply reply (Ok x) output held = PutsAll (reply_frame reply) output held
-- for want of memory nothing was put
SendsReply reply (Err NoMemory) output held = held ≡ output
SendsReply reply (Err SinkFailed) output held = PutsPart (reply_frame reply) output held
SendsReply reply (Err end) output held = ⊥
