-- The records that a core writes: their markers, and their blocks.
use Rattle.std.specs.Prelude.{◌≡◌, ℕ, ◌+◌, ◌<◌, ◌≤◌, ◌==◌, List, [], ◌++◌, length, Some, None, if◌then◌else◌}
use Rattle.smore_base.specs.declared.limits.TheConstants.{MAX_RECORDS}
use Rattle.marker_format.specs.declared.marker.TheConstants.{COUNTER_END}
use Rattle.marker_format.specs.declared.kind.Kind.{Kind}
use Rattle.marker_format.specs.declared.kind.Kind.TheVariants.{Part, Put, Delete}
use Rattle.marker_format.specs.declared.marker.Marker.{Marker}
use Rattle.marker_format.specs.Plain.{plain_marker}
use Rattle.marker_format.specs.Fragment.{record_bytes}
use Rattle.store_core.specs.declared.records.RecordPlace.{RecordPlace}

-- a marker without what only some kinds have, of a set of k 1 and p 1
abbrev pub place_marker : RecordPlace → Kind → Marker
place_marker place kind = record (plain_marker place.array 1 2 place.set kind place.position) { index = place.index }

-- the place behind one record more
abbrev pub next_place : RecordPlace → RecordPlace
next_place place = record place { position = place.position + 1 }

-- an upload's only part
abbrev pub part_marker : RecordPlace → ℕ → ℕ → Marker
part_marker place upload bytes = record (place_marker place Part) { fragment = bytes; upload = upload; payload = bytes }

-- the note of a put, whose stamp is its upload's number too
abbrev pub put_marker : RecordPlace → ℕ → ℕ → List ℕ → Marker
put_marker place stamp bytes name = record (place_marker place Put) { stamp = stamp; upload = stamp; parts = if bytes == 0 then 0 else 1; length = bytes; name = Some name }

-- the note of a delete
abbrev pub delete_marker : RecordPlace → ℕ → List ℕ → Marker
delete_marker place stamp name = record (place_marker place Delete) { stamp = stamp; name = Some name }

-- the records of a put: its note, and in front of it a part, where it has bytes
abbrev pub put_bytes : RecordPlace → ℕ → List ℕ → List ℕ → List ℕ
put_bytes place stamp name object =
    if length object == 0 then record_bytes (put_marker place stamp 0 name) []
    else record_bytes (part_marker place stamp (length object)) object ++ record_bytes (put_marker (next_place place) stamp (length object) name) []

-- the place is one of a set of k 1 and p 1
pub record IsPlace (place : RecordPlace) : Type 0 where
  pub set_from : 1 ≤ place.set
  pub set_to : place.set < COUNTER_END
  pub index : place.index < 2
  pub position : place.position < MAX_RECORDS
  pub array : length place.array ≡ 16

-- so many records have places from there on
pub record HasPlaces (place : RecordPlace) (count : ℕ) : Type 0 where
  pub first : IsPlace place
  pub last : place.position + count ≤ MAX_RECORDS

-- a stamp that can be drawn
abbrev pub IsStamp : ℕ → Type 0
IsStamp stamp = (1 ≤ stamp) × (stamp < COUNTER_END)
