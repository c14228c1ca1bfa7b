-- A record that stands on the carriers of its set, and what is read of it.
use Rattle.std.specs.Prelude.{◌≡◌, ℕ, ◌*◌, ◌<◌, ◌≤◌, List, ◌++◌, length, map, take, Result, Ok, Err}
use Rattle.std.specs.Int.{div_ceil}
use Rattle.smore_base.specs.declared.place.Place.{Place}
use Rattle.zone_bay.specs.Contents.{Contents}
use Rattle.marker_format.specs.declared.marker.Marker.{Marker}
use Rattle.marker_format.specs.Zone.{Array, IsWhole}
use Rattle.array_model.specs.Reading.{Carrier, aside, fragment_on, payload_of}
use Rattle.set_table.specs.Table.{Table, IsCarrier, fragments_of, missing_of}
use Rattle.set_reader.specs.declared.refusal.ReadRefusal.{ReadRefusal}
use Rattle.set_reader.specs.declared.lengths.Lengths.{Lengths}
use Rattle.set_table.specs.Table.{array_of}
use Rattle.set_reader.specs.Carriers.{AreCarriers, Refuses}
use Rattle.set_reader.specs.Rows.{sources_from}

-- The zone has a whole record with this marker at the block, but for the index and a head's rebuilt mark.
pub record HasRecord (array : Array) (bytes : List ℕ) (block : ℕ) (m : Marker) : Type 0 where
  pub own : Marker
  pub whole : IsWhole array bytes block own
  pub same : aside own ≡ aside m

-- The record with this marker stands at the block in the zone of each live carrier of the set.
abbrev pub StandsAt : Table → ℕ → ℕ → Marker → Contents → Type 0
StandsAt t set block m held = (index d z : ℕ) → index < fragments_of t → IsCarrier t set index d z → HasRecord (array_of t) (held d z) block m

-- a record stands at the place
abbrev pub HasRecordAt : Table → Place → Contents → Type 0
HasRecordAt t place held = (m : Marker) × StandsAt t place.set place.block m held

-- The bytes are the payload of the record with this marker, as the k live carriers of lowest index have it.
pub record IsPayload (t : Table) (place : Place) (held : Contents) (m : Marker) (bytes : List ℕ) : Type 0 where
  pub carriers : List Carrier
  pub are : AreCarriers t place.set carriers
  pub enough : t.geometry.k ≤ length carriers
  pub payload : bytes ≡ payload_of (array_of t) held carriers place.block m

-- the payload of the record that stands at the place was put behind what was there
abbrev pub Appends : Table → Table → Place → Contents → List ℕ → List ℕ → Type 0
Appends t t' place held old new = (m : Marker) → StandsAt t place.set place.block m held → (bytes : List ℕ) × IsPayload t' place held m bytes × (new ≡ old ++ bytes)

-- its payload is cut into k fragments of the least length that holds it
pub record IsCut (k : ℕ) (m : Marker) : Type 0 where
  pub some : 1 ≤ k
  pub fragment : m.fragment ≡ div_ceil m.payload k

-- The lengths are those of the record with this marker.
pub record AreLengths (k : ℕ) (lengths : Lengths) (m : Marker) : Type 0 where
  pub fragment : lengths.fragment ≡ m.fragment
  pub payload : lengths.payload ≡ m.payload
  pub cut : IsCut k m

-- they are those of the record that stands at the place
abbrev pub TellsLengths : Table → Place → Contents → Lengths → Type 0
TellsLengths t place held lengths = (m : Marker) → StandsAt t place.set place.block m held → AreLengths t.geometry.k lengths m

-- a record with fragments of so many bytes stands at the place
abbrev pub HasFragmentsAt : Table → Place → ℕ → Contents → Type 0
HasFragmentsAt t place f held = (m : Marker) × StandsAt t place.set place.block m held × (m.fragment ≡ f)

-- The bytes begin with the source fragments of the record with this marker, as the k live carriers of lowest index have it.
pub record BeginsWith (t : Table) (place : Place) (held : Contents) (m : Marker) (bytes : List ℕ) : Type 0 where
  pub carriers : List Carrier
  pub are : AreCarriers t place.set carriers
  pub enough : t.geometry.k ≤ length carriers
  pub sources : take (t.geometry.k * m.fragment) bytes ≡ sources_from t.geometry.k m.fragment (map (fragment_on held place.block m) (take t.geometry.k carriers))

-- that of the record which stands at the place
abbrev pub BeginsWithSources : Table → Table → Place → ℕ → Contents → List ℕ → Type 0
BeginsWithSources t t' place f held bytes = (m : Marker) → StandsAt t place.set place.block m held → m.fragment ≡ f → BeginsWith t' place held m bytes

-- Whether enough carriers are left says what is answered. Want of memory may stand in the place of both.
abbrev pub Answers : {T : Type 0} → Table → ℕ → Result T ReadRefusal → Type 0
Answers t set (Ok x) = missing_of t set ≤ t.geometry.p
Answers t set (Err e) = Refuses t set e
