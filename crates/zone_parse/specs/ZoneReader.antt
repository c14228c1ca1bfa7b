-- What a reader of a zone has still to give.
use Rattle.std.specs.Prelude.{◌≡◌, ℕ, ◌+◌, ◌-◌, ◌*◌, ◌<◌, ◌≤◌, Bool, ◌&&◌, nat_le, List, [], length, Option, None, Some, option_map, IfSome, IfNone, IfOk, IfErr, Result, OnOk, OnErr, IsErr, if◌then◌else◌}
use Rattle.smore_base.specs.declared.limits.TheConstants.{BLOCK_BYTES}
use Rattle.zone_bay.specs.Outside.{HasCause}
use Rattle.zone_bay.specs.Bay.{BayState}
use Rattle.zone_bay.specs.Stretch.{OnlyReads, ReadsAtMost, FailsReading}
use Rattle.marker_format.specs.declared.marker.Marker.{Marker}
use Rattle.marker_format.specs.Block.{marker_in_block}
use Rattle.marker_format.specs.Zone.{Array, blocks_of, belongs, may_stand, where_passes, with_more, records_from, begun, is_rebuilt, whole_records, has_foot}
use Rattle.zone_parse.specs.declared.lost.Lost.{Lost}
use Rattle.zone_parse.specs.declared.walk.Walk.{Walk}
use Rattle.zone_parse.specs.declared.zone_reader.Source.{Source}
use Rattle.zone_parse.specs.declared.zone_reader.End.{End}
use Rattle.zone_parse.specs.declared.zone_reader.Progress.{Progress}
use Rattle.zone_parse.specs.declared.zone_reader.Progress.TheVariants.{Fresh, Walking, Again, Ended}
use Rattle.zone_parse.specs.declared.zone_reader.ZoneReader.{ZoneReader}
use Rattle.zone_parse.specs.Walk.{before_of, records_behind, end_of, foot_at, trailer_at, shown}

-- ---- the zone that is read

abbrev pub array_of : Source → Array
array_of s = record { geometry = s.geometry; id = s.array }

-- what the bay holds in the zone, where it tells that
abbrev pub held_at : Source → BayState → Option (List ℕ)
held_at s bay = option_map (λ held. held s.device s.zone) bay.contents

-- The bay has the zone, and where it tells its contents, the zone holds as many bytes as were written.
pub record IsIn (bay : BayState) (s : Source) : Type 0 where
  pub device : s.device < bay.shape.devices
  pub zone : s.zone < bay.shape.zones
  pub written : IfSome (held_at s bay) (λ bytes. length bytes ≡ s.written)

-- Calls on the zone's device only read. They fail only where its count of faults says so, and over what was held.
pub record OnlyReadsOf {T : Type 0} (s : Source) (old new : BayState) (result : Result T Lost) : Type 0 where
  pub only : OnlyReads old new (λ d _. IsErr result × (d ≡ s.device))
  pub cause : HasCause result (old.faults s.device) (new.faults s.device)
  pub device : IfErr result (λ lost. lost.device ≡ s.device)
  pub over : OnErr result (FailsReading s.device old new)

-- the record in a block, where it goes on with the walk
abbrev pub record_in : Source → Walk → List ℕ → Option Marker
record_in s w block =
    where_passes (λ m. belongs (array_of s) m && may_stand (before_of w) m && nat_le (BLOCK_BYTES * (w.block + blocks_of m)) s.written) (marker_in_block block)

-- the end of a walk from here: its last place, how many records it comes to, and the block behind them
pub record IsEndOf (array : Array) (bytes : List ℕ) (from : Walk) (end : End) : Type 0 where
  pub walk : end.walk ≡ end_of array bytes from
  pub records : end.records ≡ length (records_behind array bytes from)
  pub block : end.block ≡ shown bytes end.walk.block

-- How many records of a rebuilt zone stand behind the walk, and whether a foot follows them: where a trailer follows.
abbrev pub rebuilt_end : Array → List ℕ → Walk → Option (ℕ × Bool)
rebuilt_end array bytes from =
    let end = end_of array bytes from in
    if trailer_at array bytes end then Some (length (records_behind array bytes from), foot_at bytes end) else None

-- ---- what is still to be given

-- the records
abbrev pub records_in : Array → Progress → List ℕ → List Marker
records_in array Fresh bytes = whole_records array bytes
records_in array (Walking w) bytes = records_behind array bytes w
records_in array (Again w left foot) bytes = records_from left array bytes (before_of w) w.block
records_in array (Ended foot) bytes = []

-- whether a foot follows them
abbrev pub foot_in : Array → Progress → List ℕ → Bool
foot_in array Fresh bytes = has_foot array bytes
foot_in array (Walking w) bytes = foot_at bytes (end_of array bytes w)
foot_in array (Again w left foot) bytes = foot
foot_in array (Ended foot) bytes = foot

-- Reads of a walk over records: one for each and one more. In a rebuilt zone each is read twice.
abbrev pub reads_for : List Marker → ℕ
reads_for ms = if is_rebuilt ms then 2 * length ms + 1 else length ms + 1

-- how many reads it takes
abbrev pub reads_in : Array → Progress → List ℕ → ℕ
reads_in array Fresh bytes = reads_for (begun array bytes)
reads_in array (Walking w) bytes = length (records_behind array bytes w) + 1
reads_in array (Again w left foot) bytes = left
reads_in array (Ended foot) bytes = 0

-- the records that the reader has still to give, where the zone holds these bytes
abbrev pub records_left : ZoneReader → List ℕ → List Marker
records_left r bytes = records_in (array_of r.source) r.progress bytes

-- whether a foot follows them
abbrev pub foot_left : ZoneReader → List ℕ → Bool
foot_left r bytes = foot_in (array_of r.source) r.progress bytes

-- how many reads the reader still takes, at most
abbrev pub reads_left : ZoneReader → List ℕ → ℕ
reads_left r bytes = reads_in (array_of r.source) r.progress bytes

-- the block that the reader has come to
abbrev pub place_of : Progress → ℕ
place_of Fresh = 0
place_of (Walking w) = w.block
place_of (Again w left foot) = w.block
place_of (Ended foot) = 0

-- How many bytes of the zone stand from there on. Each record takes some of them, whatever the bay tells.
abbrev pub bytes_left : ZoneReader → ℕ
bytes_left r = r.source.written - BLOCK_BYTES * place_of r.progress

-- the reader gave its last record, and said that there is no other
abbrev pub IsEndedAt : Progress → Type 0
IsEndedAt (Ended foot) = Unit {0}
IsEndedAt progress = ⊥

abbrev pub IsEnded : ZoneReader → Type 0
IsEnded r = IsEndedAt r.progress

-- The reader goes over this zone.
abbrev pub Reads : ZoneReader → (device zone written : ℕ) → Array → Type 0
Reads r device zone written array = r.source ≡ record { device = device; zone = zone; written = written; geometry = array.geometry; array = array.id }

-- The reader can read its zone on the bay.
abbrev pub CanRead : ZoneReader → BayState → Type 0
CanRead r bay = IsIn bay r.source

-- the bytes that the bay holds in the reader's zone, where it tells them
abbrev pub bytes_in : ZoneReader → BayState → Option (List ℕ)
bytes_in r bay = held_at r.source bay

-- the device that the reader reads, and how often it has failed
abbrev pub device_of : ZoneReader → ℕ
device_of r = r.source.device

abbrev pub faults_of : ZoneReader → BayState → ℕ
faults_of r bay = bay.faults (device_of r)

-- both readers go over one zone of one array
abbrev pub SameZone : ZoneReader → ZoneReader → Type 0
SameZone old new = new.source ≡ old.source

-- The reader gave the first of its records, and the others are left; or it gave none, and none is left. The foot stays.
pub record Gives (old new : ZoneReader) (found : Option Marker) (bytes : List ℕ) : Type 0 where
  pub records : records_left old bytes ≡ with_more found (λ _. records_left new bytes)
  pub foot : foot_left new bytes ≡ foot_left old bytes

-- No more reads were made than the reader now takes less.
pub record Spends (old new : ZoneReader) (before after : BayState) (bytes : List ℕ) : Type 0 where
  pub reads : ℕ
  pub fewer : reads + reads_left new bytes ≤ reads_left old bytes
  pub made : ReadsAtMost reads before after

-- What a call of `next` does.
pub record IsNext (old new : ZoneReader) (before after : BayState) (result : Result (Option Marker) Lost) : Type 0 where
  -- it gives the next record, and after the last one none
  pub gives : IfSome (bytes_in old before) (λ bytes. IfOk result (λ found. Gives old new found bytes))
  pub ended : IfOk result (λ found. IfNone found (IsEnded new))
  -- a record takes some of the bytes that are left
  pub nearer : IfOk result (λ found. IfSome found (λ _. bytes_left new < bytes_left old))
  -- the zone stays, and where the device is lost, so does the reader
  pub source : SameZone old new
  pub kept : OnErr result (new ≡ old)
  pub reads : OnlyReadsOf old.source before after result
  pub spends : IfSome (bytes_in old before) (λ bytes. OnOk result (Spends old new before after bytes))
  pub spends_lost : IfSome (bytes_in old before) (λ bytes. OnErr result (ReadsAtMost (reads_left old bytes) before after))
