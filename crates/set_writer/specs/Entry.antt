-- A record of a set, and its bytes in the zone of an index.
use Rattle.std.specs.Prelude.{◌≡◌, ℕ, ◌<◌, true, List, length, map}
use Rattle.std.specs.List.{flat_map, range_with_len}
use Rattle.gf_field.specs.Field.{AreBytes}
use Rattle.rs_code.specs.Fragments.{piece, fragment_len, padded}
use Rattle.marker_format.specs.declared.marker.Marker.{Marker}
use Rattle.marker_format.specs.Marker.{IsMarker, bytes_of_name}
use Rattle.marker_format.specs.Fragment.{record_bytes}
use Rattle.marker_format.specs.Zone.{Array, belongs}
use Rattle.array_model.specs.Payload.{Fragment, fragment_from}
use Rattle.array_model.specs.Reading.{fragments_of}

-- a record: its marker, of which the index doesn't matter, and its payload
pub record Entry : Type 0 where
  pub marker : Marker
  pub payload : List ℕ

-- the source fragments of a payload
abbrev pub sources_of : ℕ → List ℕ → List Fragment
sources_of k payload = map (λ i. record { index = i; bytes = piece (padded k payload) (fragment_len k (length payload)) i }) (range_with_len 0 k)

-- The fragment of this index of a payload: of each column the value there of the polynomial through the source fragments.
unfoldable pub fragment : ℕ → List ℕ → ℕ → List ℕ
fragment k payload index = fragment_from (sources_of k payload) (fragment_len k (length payload)) index

-- the marker in the zone of an index
abbrev pub at_index : ℕ → Marker → Marker
at_index index m = record m { index = index }

-- a record as it is listed: its index is left aside
abbrev pub entry_for : Marker → List ℕ → Entry
entry_for m payload = record { marker = at_index 0 m; payload = payload }

-- a record's blocks in the zone of an index: its marker's, and those of its fragment
unfoldable pub entry_bytes : ℕ → Entry → ℕ → List ℕ
entry_bytes k e index = record_bytes (at_index index e.marker) (fragment k e.payload index)

-- the blocks of several records, one behind the other
abbrev pub entries_bytes : ℕ → List Entry → ℕ → List ℕ
entries_bytes k es index = flat_map (λ e. entry_bytes k e index) es

-- The record can stand in the zones of a set of the array: its marker is well formed with each index, and its payload has as many
-- bytes as it says.
pub record IsEntry (array : Array) (e : Entry) : Type 0 where
  pub markers : (index : ℕ) → index < fragments_of array → IsMarker (at_index index e.marker)
  pub ours : belongs array e.marker ≡ true
  pub payload : length e.payload ≡ e.marker.payload

-- its payload and its name are bytes
pub record HasBytes (e : Entry) : Type 0 where
  pub payload : AreBytes e.payload
  pub name : AreBytes (bytes_of_name e.marker.name)
