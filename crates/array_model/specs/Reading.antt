-- What is read of an array: from the bytes of its zones to a list of sets. Nothing above this page speaks of bytes.
use Rattle.std.specs.Prelude.{◌≡◌, ◌++◌, ℕ, ◌+◌, ◌-◌, Bool, ◌==◌, nat_lt, List, [], ◌∷◌, length, map, take, Option, Some, None, if◌then◌else◌}
use Rattle.std.specs.List.{list_all, find, filter_map, range_with_len}
use Rattle.std.specs.Str.{bytes_eq}
use Rattle.zone_bay.specs.Contents.{Shape, Contents}
use Rattle.marker_format.specs.declared.kind.Kind.{Kind}
use Rattle.marker_format.specs.declared.kind.Kind.TheVariants as kinds
use Rattle.marker_format.specs.declared.marker.Marker.{Marker}
use Rattle.marker_format.specs.Kind.{code_of, kind_of}
use Rattle.marker_format.specs.Marker.{spelling_of, bytes_of_name}
use Rattle.marker_format.specs.Zone.{Array, has_foot, blocks_of}
use Rattle.array_model.specs.Payload.{Fragment, payload_from}
use Rattle.marker_format.specs.Fragment.{fragment_at}
use Rattle.array_model.specs.Drives.{Place, present, places_on, bytes_at, records_at, head_at, is_of}
use Rattle.array_model.specs.Record.{Record, Head, Ready, Part, Put, Delete, Cut, Digest, Snapshot}
use Rattle.array_model.specs.Sets.{ReadSet}

-- ---- carriers

-- the zone that carries an index
pub record Carrier : Type 0 where
  pub index : ℕ
  pub place : Place

abbrev pub carries : ℕ → Option Place → Option Carrier
carries index None = None
carries index (Some place) = Some (record { index = index; place = place })

-- The carrier of an index is the lowest of these drives that has a zone of the set and the index with a whole head, and
-- of several such zones on it the lowest.
abbrev pub carrier_of : Array → Contents → List Place → ℕ → ℕ → Option Carrier
carrier_of array held places set index = carries index (find (λ place. is_of set index (head_at array held place)) places)

-- how many fragments a record has, and so how many indexes a set
abbrev pub fragments_of : Array → ℕ
fragments_of array = array.geometry.k + array.geometry.p

-- the carriers of a set among these places, by rising index
abbrev pub carriers_of : Array → Contents → List Place → ℕ → List Carrier
carriers_of array held places set = filter_map (carrier_of array held places set) (range_with_len 0 (fragments_of array))

-- ---- the agreed list

-- a marker with its index left aside, and of a head the rebuilt mark
abbrev pub aside : Marker → Marker
aside m = record m { index = 0; part = if m.kind == code_of kinds.Head then 0 else m.part }

-- what the carriers of a set have alike of a marker, in its bytes
abbrev pub alike : Marker → List ℕ
alike m = spelling_of (aside m)

-- the same marker but for what is left aside
abbrev pub agree : Marker → Marker → Bool
agree a b = bytes_eq (alike a) (alike b)

-- the first markers of a list, but for what is left aside
abbrev pub IsPrefixAlike : List Marker → List Marker → Type 0
IsPrefixAlike some all = (rest : List (List ℕ)) × (map alike all ≡ map alike some ++ rest)

-- the longest prefix of the first list on which both agree
abbrev pub common : List Marker → List Marker → List Marker
common [] others = []
common (m ∷ ms) [] = []
common (m ∷ ms) (other ∷ others) = if agree m other then m ∷ common ms others else []

-- the longest prefix on which all agree
abbrev pub common_of : List (List Marker) → List Marker
common_of [] = []
common_of (ms ∷ []) = ms
common_of (ms ∷ more ∷ rest) = common ms (common_of (more ∷ rest))

-- The agreed list of carriers is the longest prefix on which their whole records agree.
abbrev pub agreed : Array → Contents → List Carrier → List Marker
agreed array held carriers = common_of (map (λ carrier. records_at array held carrier.place) carriers)

-- ---- records with their payloads

-- the fragment that a carrier has of a record whose marker stands at this block
abbrev pub fragment_on : Contents → ℕ → Marker → Carrier → Fragment
fragment_on held block m carrier = record { index = carrier.index; bytes = fragment_at (bytes_at held carrier.place) (block + 1) m.fragment }

-- a record's payload: the one whose fragments the k carriers of lowest index hold
abbrev pub payload_of : Array → Contents → List Carrier → ℕ → Marker → List ℕ
payload_of array held carriers block m =
    let k = array.geometry.k in
    payload_from k (map (fragment_on held block m) (take k carriers)) m.payload

-- a record of this kind, by its marker and its payload
abbrev pub record_by : Option Kind → Marker → List ℕ → Record
record_by (Some kinds.Ready) m payload = Ready
record_by (Some kinds.Part) m payload = Part m.upload m.part payload
record_by (Some kinds.Put) m payload = Put (bytes_of_name m.name) m.stamp m.upload m.parts m.length
record_by (Some kinds.Delete) m payload = Delete (bytes_of_name m.name) m.stamp
record_by (Some kinds.Cut) m payload = Cut m.upload m.length
record_by (Some kinds.Digest) m payload = Digest m.part m.parts payload
record_by (Some kinds.Snapshot) m payload = Snapshot m.stamp m.part m.parts m.length payload
record_by kind m payload = Head

-- the records whose markers stand from this block on
abbrev pub records_from : Array → Contents → List Carrier → ℕ → List Marker → List Record
records_from array held carriers block [] = []
records_from array held carriers block (m ∷ ms) =
    record_by (kind_of m.kind) m (payload_of array held carriers block m) ∷ records_from array held carriers (block + blocks_of m) ms

-- ---- sets

-- each of these carriers has a whole foot
abbrev pub are_closed : Array → Contents → List Carrier → Bool
are_closed array held carriers = list_all (λ carrier. has_foot array (bytes_at held carrier.place)) carriers

-- What is read of a set from these carriers.
abbrev pub set_from : Array → Contents → ℕ → List Carrier → ReadSet
set_from array held set carriers = record {
  id = set;
  carriers = length carriers;
  records = records_from array held carriers 0 (agreed array held carriers);
  closed = are_closed array held carriers;
}

-- what is read of a set from its carriers among these places
abbrev pub read_set : Array → Contents → List Place → ℕ → ReadSet
read_set array held places set = set_from array held set (carriers_of array held places set)

-- of how many of its indexes a set has no carrier
abbrev pub missing : Array → ReadSet → ℕ
missing array set = fragments_of array - set.carriers

-- a number among rising ones, once
abbrev pub with_id : ℕ → List ℕ → List ℕ
with_id id [] = id ∷ []
with_id id (other ∷ ids) = if nat_lt id other then id ∷ other ∷ ids else if id == other then other ∷ ids else other ∷ with_id id ids

-- the number of the set of this head among rising ones, once
abbrev pub with_head : Option Marker → List ℕ → List ℕ
with_head None ids = ids
with_head (Some head) ids = with_id head.set ids

-- the sets of which a whole head stands at one of these places, by rising number
abbrev pub ids_at : Array → Contents → List Place → List ℕ
ids_at array held [] = []
ids_at array held (place ∷ places) = with_head (head_at array held place) (ids_at array held places)

-- What is read of an array whose drives are these: its sets by rising number.
abbrev pub reading : Array → Shape → Contents → List ℕ → List ReadSet
reading array shape held drives =
    let places = places_on shape drives in
    map (read_set array held places) (ids_at array held places)

-- What is read of an array: of all its drives that are present.
abbrev pub read_of : Array → Shape → Contents → List ReadSet
read_of array shape held = reading array shape held (present shape held [])
