-- Records of a set, without their places. Two records are copies of each other where they are equal.
use Rattle.std.specs.Prelude.{ℕ, Bool, true, false, ◌&&◌, ◌==◌, List, Option, Some, None, if◌then◌else◌}
use Rattle.std.specs.Str.{bytes_eq}

pub data Record : Type 0 where
  Head : Record
  -- the cuts behind the head are all there
  Ready : Record
  -- a part of an upload
  Part : (upload part : ℕ) (payload : List ℕ) → Record
  -- a note: the name stands for the object of an upload, of so many parts and bytes
  Put : (name : List ℕ) (stamp upload parts bytes : ℕ) → Record
  -- a note: the name stands for nothing
  Delete : (name : List ℕ) (stamp : ℕ) → Record
  -- of the target set only so many of the first records count
  Cut : (target kept : ℕ) → Record
  -- a part of the list of this set's records
  Digest : (part parts : ℕ) (payload : List ℕ) → Record
  -- a part of a list of other sets' records, of so many parts and bytes
  Snapshot : (stamp part parts bytes : ℕ) (payload : List ℕ) → Record
  deriving Discrete as Record-discrete

abbrev pub is_ready : Record → Bool
is_ready Ready = true
is_ready item = false

-- the stamp of a note of the name
abbrev pub note_stamp : List ℕ → Record → Option ℕ
note_stamp name (Put other stamp upload parts bytes) = if bytes_eq other name then Some stamp else None
note_stamp name (Delete other stamp) = if bytes_eq other name then Some stamp else None
note_stamp name item = None

-- the payload of this part of this upload
abbrev pub payload_of : ℕ → ℕ → Record → Option (List ℕ)
payload_of upload part (Part u i payload) = if (u == upload) && (i == part) then Some payload else None
payload_of upload part item = None

-- how many of the target's records a cut keeps
abbrev pub kept_of : ℕ → Record → Option ℕ
kept_of target (Cut t kept) = if t == target then Some kept else None
kept_of target item = None
