-- How a run ends.
use Rattle.std.specs.Prelude.{◌≡◌, ◌⊎◌, ℕ, ◌+◌, ◌≤◌, ◌==◌, if◌then◌else◌, ⊤}
use Rattle.zone_bay.specs.Outside.{Rose}
use Rattle.smore_top.specs.declared.end.TheConstants as statuses
use Rattle.smore_top.specs.declared.end.End.{End}
use Rattle.smore_top.specs.declared.end.End.TheVariants.{Done, NoMemory, BadWords, SourceFailed, SinkFailed, BadFrame, NotOpened, NotFormatted}

-- the status of each end
abbrev pub status_of : End → ℕ
status_of Done = statuses.DONE
status_of NoMemory = statuses.NO_MEMORY
status_of BadWords = statuses.BAD_WORDS
status_of SourceFailed = statuses.SOURCE_FAILED
status_of SinkFailed = statuses.SINK_FAILED
status_of BadFrame = statuses.BAD_FRAME
status_of NotOpened = statuses.NOT_OPENED
status_of NotFormatted = statuses.NOT_FORMATTED

-- and the end of each status
abbrev pub end_of : ℕ → End
end_of status =
    if status == statuses.DONE then Done
    else if status == statuses.NO_MEMORY then NoMemory
    else if status == statuses.BAD_WORDS then BadWords
    else if status == statuses.SOURCE_FAILED then SourceFailed
    else if status == statuses.SINK_FAILED then SinkFailed
    else if status == statuses.BAD_FRAME then BadFrame
    else if status == statuses.NOT_OPENED then NotOpened
    else NotFormatted

-- a count that rose; none falls
abbrev pub Counted : ℕ → ℕ → Type 0
Counted before after = (before ≤ after) × Rose before after

-- the count of the source's faults: it rose where the run ended for it, and else it stayed
abbrev pub SourceCount : End → ℕ → ℕ → Type 0
SourceCount SourceFailed before after = Counted before after
SourceCount end before after = after ≡ before

-- the same of the sink
abbrev pub SinkCount : End → ℕ → ℕ → Type 0
SinkCount SinkFailed before after = Counted before after
SinkCount end before after = after ≡ before

-- How many of so many replies were put whole: all, but where the sink failed, which got a part of the last one, and where no
-- memory was found, perhaps for the last one.
abbrev pub ArePut : End → ℕ → ℕ → Type 0
ArePut SinkFailed calls put = put + 1 ≡ calls
ArePut NoMemory calls put = (put ≡ calls) ⊎ (put + 1 ≡ calls)
ArePut end calls put = put ≡ calls

-- where a run may end while it asks for a call, and while it sends a reply
abbrev pub EndsAsking : End → Type 0
EndsAsking Done = ⊤
EndsAsking NoMemory = ⊤
EndsAsking SourceFailed = ⊤
EndsAsking BadFrame = ⊤
EndsAsking end = ⊥

abbrev pub EndsSending : End → Type 0
EndsSending NoMemory = ⊤
EndsSending SinkFailed = ⊤
EndsSending end = ⊥

-- an end that comes once the bay is open
abbrev pub EndsOpen : End → Type 0
EndsOpen BadWords = ⊥
EndsOpen NotOpened = ⊥
EndsOpen NotFormatted = ⊥
EndsOpen end = ⊤
