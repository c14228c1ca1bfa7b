-- Markers are well formed: what they need for their set, and what for their kind.
use Rattle.std.proofs.Common.{◌≡◌, ℕ, ◌+◌, ◌^◌, ◌<◌, ◌≤◌, min, List, length, None, refl, sym, ap₂, ◌∙◌, arith}
use Rattle.std.specs.Int.{div_ceil}
use Rattle.std.proofs.Math.Nat.{zero-div, zero-mod}
use Rattle.marker_format.specs.declared.kind.Kind.{Kind}
use Rattle.marker_format.specs.declared.kind.Kind.TheVariants.{Head, Part, Put, Delete, Cut, Ready, Digest, Snapshot, Trailer}
use Rattle.marker_format.specs.declared.marker.Marker.{Marker}
use Rattle.marker_format.specs.Kind.{code_of, has_stamp, has_upload, has_payload, has_name, most_position}
use Rattle.marker_format.specs.Marker.{IsMarker, IsUsed, IsNamed, Counts}
use Rattle.marker_format.specs.Plain.{plain_marker}

-- a set of an array: its code, its number and the array's
pub record IsSet (array : List ℕ) (k n set : ℕ) : Type 0 where
  pub k_from : 1 ≤ k
  pub k_to : k < n
  pub n_to : n ≤ 20
  pub set_from : 1 ≤ set
  pub set_to : set < 2 ^ 62
  pub id : length array ≡ 16

-- what the kind uses is there, and nothing else
pub record IsFilled (kind : Kind) (m : Marker) : Type 0 where
  pub coded : m.kind ≡ code_of kind
  pub fragment : m.fragment ≡ div_ceil m.payload m.k
  pub fragment_to : m.fragment ≤ 65408
  pub position_to : m.position ≤ most_position kind
  pub stamp : IsUsed (has_stamp kind) m.stamp
  pub stamp_to : m.stamp < 2 ^ 62
  pub upload : IsUsed (has_upload kind) m.upload
  pub upload_to : m.upload < 2 ^ 62
  pub payload : IsUsed (has_payload kind) m.payload
  pub payload_to : m.payload < 2 ^ 32
  pub name : IsNamed (has_name kind) m.name
  pub counts : Counts kind m
  pub part_to : m.part < 2 ^ 32
  pub parts_to : m.parts < 2 ^ 32
  pub length_to : m.length < 2 ^ 32

pub filled_is : (kind : Kind) (m : Marker) → IsSet m.array m.k m.n m.set → m.index < m.n → IsFilled kind m → IsMarker m
filled_is kind m of below filled = record {
  kind = kind;
  coded = filled.coded;
  k_from = of.k_from;
  k_to = of.k_to;
  n_to = of.n_to;
  index_to = below;
  fragment = filled.fragment;
  fragment_to = filled.fragment_to;
  set_from = of.set_from;
  set_to = of.set_to;
  position_to = filled.position_to;
  stamp = filled.stamp;
  stamp_to = filled.stamp_to;
  upload = filled.upload;
  upload_to = filled.upload_to;
  payload = filled.payload;
  name = filled.name;
  counts = filled.counts;
  part_to = filled.part_to;
  parts_to = filled.parts_to;
  length_to = filled.length_to;
  payload_to = filled.payload_to;
  array = of.id;
}

counts_stay : (kind : Kind) (m : Marker) (index : ℕ) → Counts kind m → Counts kind (record m { index = index })
counts_stay Head m index counts = counts
counts_stay Part m index counts = counts
counts_stay Put m index counts = counts
counts_stay Delete m index counts = counts
counts_stay Cut m index counts = counts
counts_stay Ready m index counts = counts
counts_stay Digest m index counts = counts
counts_stay Snapshot m index counts = counts
counts_stay Trailer m index counts = counts

-- well formed with one index, it is so with each
pub with_index : (m : Marker) (index : ℕ) → index < m.n → IsMarker m → IsMarker (record m { index = index })
with_index m index below is =
    filled_is is.kind (record m { index = index })
    (record { k_from = is.k_from; k_to = is.k_to; n_to = is.n_to; set_from = is.set_from; set_to = is.set_to; id = is.array }) below
    (record {
      coded = is.coded;
      fragment = is.fragment;
      fragment_to = is.fragment_to;
      position_to = is.position_to;
      stamp = is.stamp;
      stamp_to = is.stamp_to;
      upload = is.upload;
      upload_to = is.upload_to;
      payload = is.payload;
      payload_to = is.payload_to;
      name = is.name;
      counts = counts_stay is.kind m index is.counts;
      part_to = is.part_to;
      parts_to = is.parts_to;
      length_to = is.length_to;
    })

-- a payload of no bytes has fragments of none
pub no_fragments : (k : ℕ) → 0 ≡ div_ceil 0 k
no_fragments k = sym (ap₂ (λ a b. a + min 1 b) (zero-div k) (zero-mod k) ∙ none)
  where
    none : 0 + min 1 0 ≡ 0
    none = refl

-- ---- plain markers

-- the kinds that use none of what a plain marker has not
abbrev pub IsPlain : Kind → Type 0
IsPlain Head = Unit {0}
IsPlain Ready = Unit {0}
IsPlain Trailer = Unit {0}
IsPlain _ = ⊥

module _ (array : List ℕ) (k n set position : ℕ) where
  with_none : (kind : Kind) → position ≤ most_position kind → IsUsed (has_stamp kind) 0 → IsUsed (has_upload kind) 0 → IsUsed (has_payload kind) 0 → IsNamed (has_name kind) None → Counts kind (plain_marker array k n set kind position) → IsFilled kind (plain_marker array k n set kind position)
  with_none kind few stamp upload payload name counts = record {
    coded = refl;
    fragment = no_fragments k;
    fragment_to = omega arith;
    position_to = few;
    stamp = stamp;
    stamp_to = omega arith;
    upload = upload;
    upload_to = omega arith;
    payload = payload;
    payload_to = omega arith;
    name = name;
    counts = counts;
    part_to = omega arith;
    parts_to = omega arith;
    length_to = omega arith;
  }

  plain_filled : (kind : Kind) → IsPlain kind → position ≤ most_position kind → IsFilled kind (plain_marker array k n set kind position)
  plain_filled Head plain few = with_none Head few refl refl refl tt (omega arith, refl, refl)
  plain_filled Ready plain few = with_none Ready few refl refl refl tt (refl, refl, refl)
  plain_filled Trailer plain few = with_none Trailer few refl refl refl tt (refl, refl, refl)
  plain_filled Part plain few = absurd plain
  plain_filled Put plain few = absurd plain
  plain_filled Delete plain few = absurd plain
  plain_filled Cut plain few = absurd plain
  plain_filled Digest plain few = absurd plain
  plain_filled Snapshot plain few = absurd plain

  -- a head, a ready record or a trailer is well formed
  pub plain_is : (kind : Kind) → IsPlain kind → IsSet array k n set → position ≤ most_position kind → IsMarker (plain_marker array k n set kind position)
  plain_is kind plain of few = filled_is kind (plain_marker array k n set kind position) of (let from = of.k_from in let to = of.k_to in omega (arith, from, to)) (plain_filled kind plain few)
