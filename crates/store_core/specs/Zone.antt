-- What the records of an open set's zone say of where the next one goes, and which records a set begins with.
use Rattle.std.specs.Prelude.{ℕ, ◌+◌, ◌*◌, ◌==◌, not, max, List, [], ◌∷◌, ◌++◌, length, if◌then◌else◌}
use Rattle.smore_base.specs.declared.limits.TheConstants.{BLOCK_BYTES}
use Rattle.marker_format.specs.declared.kind.Kind.TheVariants.{Head, Ready, Cut}
use Rattle.marker_format.specs.declared.marker.Marker.{Marker}
use Rattle.marker_format.specs.Zone.{Array, has_kind, end_from, whole_records}
use Rattle.store_core.specs.declared.store.TheConstants.{FIRST_SET}
use Rattle.store_core.specs.declared.records.RecordPlace.{RecordPlace}
use Rattle.store_core.specs.Records.{place_marker, next_place}
use Rattle.marker_format.specs.Fragment.{record_bytes}
use Rattle.store_core.specs.Store.{Standing}

-- the set of the first of some records
abbrev pub set_of : List Marker → ℕ
set_of [] = 0
set_of (head ∷ ms) = head.set

-- and its index
abbrev pub index_of : List Marker → ℕ
index_of [] = 0
index_of (head ∷ ms) = head.index

-- the greater of a record's stamp and its upload: a cut's upload is a set
abbrev pub counter_of : Marker → ℕ
counter_of m = if has_kind Cut m then m.stamp else max m.stamp m.upload

-- the stamp that comes next: one above all of these, from 1
abbrev pub next_stamp : List Marker → ℕ
next_stamp [] = 1
next_stamp (m ∷ ms) = max (counter_of m + 1) (next_stamp ms)

-- where a store stands behind the records of a zone with these bytes
abbrev pub standing_in : Array → List ℕ → Standing
standing_in array bytes = record {
  set = set_of (whole_records array bytes);
  blocks = end_from 0 (whole_records array bytes);
  records = length (whole_records array bytes);
  is_torn = not (BLOCK_BYTES * end_from 0 (whole_records array bytes) == length bytes);
  stamp = next_stamp (whole_records array bytes);
}

-- where a set begins
abbrev pub first_place : Array → RecordPlace
first_place array = record { set = FIRST_SET; index = 0; position = 0; array = array.id }

-- a set begins with a head and a ready record
abbrev pub first_head : Array → Marker
first_head array = place_marker (first_place array) Head

abbrev pub first_ready : Array → Marker
first_ready array = place_marker (next_place (first_place array)) Ready

abbrev pub first_markers : Array → List Marker
first_markers array = first_head array ∷ first_ready array ∷ []

abbrev pub opening_bytes : Array → List ℕ
opening_bytes array = record_bytes (first_head array) [] ++ record_bytes (first_ready array) []
