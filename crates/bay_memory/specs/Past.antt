-- What a zone holds, and what it held at each moment.
use Rattle.std.specs.Prelude.{◌≡◌, ℕ, ◌<◌, ◌≤◌, List, [], ◌∷◌, ◌++◌, length, take, drop, nat_lt, if◌then◌else◌, slice_index_or}
use Rattle.bay_memory.specs.declared.change.Change.{Change}
use Rattle.bay_memory.specs.declared.change.Change.TheVariants.{Flush, Reset}
use Rattle.bay_memory.specs.declared.was.Was.{Was}

-- what a zone holds: bytes, of which so many are firm
pub record State : Type 0 where
  pub bytes : List ℕ
  pub firm : ℕ

abbrev pub blank : State
blank = record { bytes = []; firm = 0 }

-- what the changes of a zone make of it
abbrev pub with_more : List ℕ → State → State
with_more bytes state = record { bytes = state.bytes ++ bytes; firm = state.firm }

abbrev pub all_gone : State → State
all_gone state = blank

abbrev pub all_firm : State → State
all_firm state = record { bytes = state.bytes; firm = length state.bytes }

abbrev pub changed_by : Change → State → State
changed_by Flush = all_firm
changed_by Reset = all_gone

-- a part of all the bytes that the zone ever held
abbrev pub state_then : List ℕ → Was → State
state_then ever was = record { bytes = drop was.start (take was.end ever); firm = was.firm }

-- what the zone held before the first change that was made at the moment or later, or else what it holds now
abbrev pub state_at : List Was → List ℕ → State → ℕ → State
state_at [] ever now moment = now
state_at (was ∷ past) ever now moment = if nat_lt was.moment moment then state_at past ever now moment else state_then ever was

-- the parts lie within so many bytes
abbrev pub LieWithin : List Was → ℕ → Type 0
LieWithin past bytes = (i : ℕ) (was : Was) → i < length past → (slice_index_or past i was).end ≤ bytes

-- a zone: all the bytes that it ever held, from where on it holds them now, how many of those are firm, and its past
pub record Track : Type 0 where
  pub ever : List ℕ
  pub start : ℕ
  pub firm : ℕ
  pub past : List Was

abbrev pub blank_track : Track
blank_track = record { ever = []; start = 0; firm = 0; past = [] }

-- what it holds now
abbrev pub now : Track → State
now track = record { bytes = drop track.start track.ever; firm = track.firm }

-- what it held at the moment
abbrev pub held_at : Track → ℕ → State
held_at track moment = state_at track.past track.ever (now track) moment

-- each change was made before the moment
abbrev pub IsSteady : ℕ → Track → Type 0
IsSteady moment track = (i : ℕ) (was : Was) → i < length track.past → (slice_index_or track.past i was).moment < moment

-- A call made at the moment changes what is held now. What was held until then stays.
pub record Goes (moment : ℕ) (change : State → State) (old new : Track) : Type 0 where
  pub changed : now new ≡ change (now old)
  pub until : (m : ℕ) → m ≤ moment → held_at new m ≡ held_at old m
  pub since : (m : ℕ) → moment < m → IsSteady m new

-- a zone that has held these bytes from the start, all of them firm
pub record IsFresh (bytes : List ℕ) (track : Track) : Type 0 where
  pub holds : now track ≡ record { bytes = bytes; firm = length bytes }
  pub unchanged : track.past ≡ []
