-- Markers: which are well formed, and the one spelling of each.
use Rattle.std.specs.Prelude.{◌≡◌, ℕ, ◌+◌, ◌-◌, ◌^◌, ◌<◌, ◌≤◌, Bool, true, false, ◌&&◌, nat_le, nat_lt, ◌==◌, List, [], ◌∷◌, ◌++◌, length, take, drop, replicate, Option, Some, None, codes, if◌then◌else◌}
use Rattle.std.specs.Int.{w8, w16, w32, w64, div_ceil}
use Rattle.smore_base.specs.BigEndian.{big_endian, number_at, Fields, spelled}
use Rattle.smore_base.specs.declared.limits.TheConstants.{MAX_FRAGMENTS, MAX_NAME_BYTES, MAX_RECORDS, MAX_SHARD_BYTES}
use Rattle.marker_format.specs.declared.kind.Kind.{Kind}
use Rattle.marker_format.specs.declared.kind.Kind.TheVariants.{Head, Part, Put, Cut, Digest, Snapshot}
use Rattle.marker_format.specs.declared.marker.Marker.{Marker}
use Rattle.marker_format.specs.declared.marker.TheConstants.{COUNTER_END}
use Rattle.marker_format.specs.Frame.{AreZeros}
use Rattle.marker_format.specs.Kind.{code_of, kind_of, has_stamp, has_upload, has_payload, has_name, most_position}

-- ---- which markers are well formed

-- A number that is from 1 where it is used, and 0 where it isn't.
abbrev pub IsUsed : Bool → ℕ → Type 0
IsUsed true n = 1 ≤ n
IsUsed false n = n ≡ 0

-- a name of at least one byte where it is used, and none where it isn't
abbrev pub IsNamed : Bool → Option (List ℕ) → Type 0
IsNamed true (Some name) = (1 ≤ length name) × (length name ≤ MAX_NAME_BYTES)
IsNamed true None = ⊥
IsNamed false (Some name) = ⊥
IsNamed false None = Unit {0}

-- what each kind says with part, parts and length, and that a cut's target is an earlier set
abbrev pub Counts : Kind → Marker → Type 0
-- The part of a head is the rebuilt mark.
Counts Head m = (m.part ≤ 1) × (m.parts ≡ 0) × (m.length ≡ 0)
Counts Part m = (m.parts ≡ 0) × (m.length ≡ 0)
-- Only an object of no bytes has no parts, and no part is without bytes.
Counts Put m = (m.part ≡ 0) × (m.parts ≤ m.length) × (m.parts ≡ 0 → m.length ≡ 0)
-- A cut's length is the number of records that are kept.
Counts Cut m = (m.part ≡ 0) × (m.parts ≡ 0) × (m.length ≤ MAX_RECORDS) × (m.upload < m.set)
Counts Digest m = (m.part < m.parts) × (m.length ≡ 0)
Counts Snapshot m = m.part < m.parts
Counts _ m = (m.part ≡ 0) × (m.parts ≡ 0) × (m.length ≡ 0)

-- Well formed: each field has its width, keeps its limits, and is 0 where the kind doesn't use it.
pub record IsMarker (m : Marker) : Type 0 where
  pub kind : Kind
  pub coded : m.kind ≡ code_of kind
  pub k_from : 1 ≤ m.k
  pub k_to : m.k < m.n
  pub n_to : m.n ≤ MAX_FRAGMENTS
  pub index_to : m.index < m.n
  -- A payload is cut into k fragments of the least length that holds it.
  pub fragment : m.fragment ≡ div_ceil m.payload m.k
  pub fragment_to : m.fragment ≤ MAX_SHARD_BYTES
  pub set_from : 1 ≤ m.set
  pub set_to : m.set < COUNTER_END
  pub position_to : m.position ≤ most_position kind
  pub stamp : IsUsed (has_stamp kind) m.stamp
  pub stamp_to : m.stamp < COUNTER_END
  pub upload : IsUsed (has_upload kind) m.upload
  pub upload_to : m.upload < COUNTER_END
  pub payload : IsUsed (has_payload kind) m.payload
  pub name : IsNamed (has_name kind) m.name
  pub counts : Counts kind m
  pub part_to : m.part < 2 ^ 32
  pub parts_to : m.parts < 2 ^ 32
  pub length_to : m.length < 2 ^ 32
  pub payload_to : m.payload < 2 ^ 32
  pub array : length m.array ≡ 16

-- ---- the one spelling: 328 bytes

-- the numbers of a marker, in their widths
abbrev pub fields_of : Marker → Fields
fields_of m =
    (w8, m.kind) ∷ (w8, m.index) ∷ (w8, m.k) ∷ (w8, m.n) ∷ (w64, m.set) ∷ (w16, m.position) ∷ (w16, m.fragment)
    ∷ (w64, m.stamp) ∷ (w64, m.upload) ∷ (w32, m.part) ∷ (w32, m.parts) ∷ (w32, m.length) ∷ (w32, m.payload) ∷ []

-- the bytes of a name, which are none where there is no name
abbrev pub bytes_of_name : Option (List ℕ) → List ℕ
bytes_of_name None = []
bytes_of_name (Some name) = name

-- how many there are, they, and zeros to 256 bytes
abbrev pub name_field : List ℕ → List ℕ
name_field name = big_endian w8 (length name) ++ (name ++ replicate (MAX_NAME_BYTES - length name) 0)

unfoldable pub spelling_of : Marker → List ℕ
spelling_of m = codes "SMOREMK1" ++ (spelled (fields_of m) ++ (m.array ++ name_field (bytes_of_name m.name)))

-- ---- the same as tests, and reading

abbrev pub is_used : Bool → ℕ → Bool
is_used true n = nat_le 1 n
is_used false n = n == 0

abbrev pub is_named : Bool → Option (List ℕ) → Bool
is_named true (Some name) = nat_le 1 (length name) && nat_le (length name) MAX_NAME_BYTES
is_named true None = false
is_named false (Some name) = false
is_named false None = true

abbrev pub counts : Kind → Marker → Bool
counts Head m = nat_le m.part 1 && (m.parts == 0) && (m.length == 0)
counts Part m = (m.parts == 0) && (m.length == 0)
counts Put m = (m.part == 0) && nat_le m.parts m.length && (if m.parts == 0 then m.length == 0 else true)
counts Cut m = (m.part == 0) && (m.parts == 0) && nat_le m.length MAX_RECORDS && nat_lt m.upload m.set
counts Digest m = nat_lt m.part m.parts && (m.length == 0)
counts Snapshot m = nat_lt m.part m.parts
counts _ m = (m.part == 0) && (m.parts == 0) && (m.length == 0)

-- the code that the record is spelled in, and its place
abbrev pub is_coded : Marker → Bool
is_coded m =
    nat_le 1 m.k && nat_lt m.k m.n && nat_le m.n MAX_FRAGMENTS && nat_lt m.index m.n
    && (m.fragment == div_ceil m.payload m.k) && nat_le m.fragment MAX_SHARD_BYTES
    && nat_le 1 m.set && nat_lt m.set COUNTER_END

-- what the kind uses
abbrev pub uses : Kind → Marker → Bool
uses kind m =
    nat_le m.position (most_position kind)
    && is_used (has_stamp kind) m.stamp && nat_lt m.stamp COUNTER_END
    && is_used (has_upload kind) m.upload && nat_lt m.upload COUNTER_END
    && is_used (has_payload kind) m.payload && is_named (has_name kind) m.name

-- there is a kind, and it passes the test
abbrev pub passes : (Kind → Bool) → Option Kind → Bool
passes test None = false
passes test (Some kind) = test kind

unfoldable pub is_well_formed : Marker → Bool
is_well_formed m = passes (λ kind. is_coded m && uses kind m && counts kind m) (kind_of m.kind)

abbrev pub has_widths : Marker → Bool
has_widths m = nat_lt m.part (2 ^ 32) && nat_lt m.parts (2 ^ 32) && nat_lt m.length (2 ^ 32) && nat_lt m.payload (2 ^ 32) && (length m.array == 16)

unfoldable pub is_marker : Marker → Bool
is_marker m = has_widths m && is_well_formed m

-- the name of so many bytes at the front
abbrev pub name_of : ℕ → List ℕ → Option (List ℕ)
name_of n bytes = if n == 0 then None else Some (take n bytes)

-- the marker whose fields stand in these bytes, well formed or not
abbrev pub marker_at : List ℕ → Marker
marker_at bytes = record {
  kind = number_at w8 bytes 8;
  index = number_at w8 bytes 9;
  k = number_at w8 bytes 10;
  n = number_at w8 bytes 11;
  set = number_at w64 bytes 12;
  position = number_at w16 bytes 20;
  fragment = number_at w16 bytes 22;
  stamp = number_at w64 bytes 24;
  upload = number_at w64 bytes 32;
  part = number_at w32 bytes 40;
  parts = number_at w32 bytes 44;
  length = number_at w32 bytes 48;
  payload = number_at w32 bytes 52;
  array = take 16 (drop 56 bytes);
  name = name_of (number_at w8 bytes 72) (drop 73 bytes);
}

-- only zeros stand behind the name
abbrev pub IsPadded : List ℕ → Type 0
IsPadded bytes = AreZeros (drop (73 + number_at w8 bytes 72) bytes)
