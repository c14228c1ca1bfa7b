-- Which of the valid records are needed.
use Rattle.std.specs.Prelude.{◌≡◌, ℕ, Bool, true, false, List}
use Rattle.std.specs.List.{list_any}
use Rattle.std.specs.Str.{bytes_eq}
use Rattle.marker_format.specs.Marker.{bytes_of_name}
use Rattle.marker_format.specs.declared.marker.Marker.{Marker}
use Rattle.array_model.specs.Record.{Record, Part, Put, Delete, Snapshot}
use Rattle.array_model.specs.Sets.{Placed}
use Rattle.array_model.specs.NeedTests as model
use Rattle.array_scan.specs.declared.snapshots.Stamped.{Stamped}

-- records by their markers
abbrev pub put_by : Marker → Record
put_by m = Put (bytes_of_name m.name) m.stamp m.upload m.parts m.length

abbrev pub delete_by : Marker → Record
delete_by m = Delete (bytes_of_name m.name) m.stamp

abbrev pub part_by : Marker → List ℕ → Record
part_by m payload = Part m.upload m.part payload

abbrev pub snapshot_by : Marker → List ℕ → Record
snapshot_by m payload = Snapshot m.stamp m.part m.parts m.length payload

-- what all parts of a snapshot say of it
abbrev pub stamped_by : Stamped → model.Stamped
stamped_by s = record { stamp = s.stamp; parts = s.parts; bytes = s.bytes }

-- records of the kinds that may be wanted
abbrev pub may_be_wanted : Record → Bool
may_be_wanted (Put name stamp upload parts bytes) = true
may_be_wanted (Delete name stamp) = true
may_be_wanted (Part upload part payload) = true
may_be_wanted (Snapshot stamp part parts bytes payload) = true
may_be_wanted item = false

-- copies have equal payloads, where records of the kind have them
abbrev pub payloads_match : Record → List ℕ → List ℕ → Bool
payloads_match (Part upload part payload) one other = bytes_eq one other
payloads_match (Snapshot stamp part parts bytes payload) one other = bytes_eq one other
payloads_match item one other = true

-- a test that one of these passes is passed by one of the others, and the other way round
abbrev pub HasAlike : List Placed → List Placed → Type 0
HasAlike some others = (test : Placed → Bool) → list_any test others ≡ list_any test some
