-- The rules of a marker as tests and as facts.
use Rattle.std.proofs.Common.{◌≡◌, ℕ, ◌^◌, ◌<◌, ◌≤◌, Bool, true, false, ◌&&◌, List, length, Option, Some, None, refl, ap, ◌∙◌, arith}
use Rattle.std.specs.Int.{div_ceil}
use Rattle.std.proofs.lemmas.Bool.{and_parts, and_from, ltb-true, leb-true, eqb-true, lt-ltb, le-leb, eq-eqb}
use Rattle.std.proofs.lemmas.Bool.Decides.{nat_tests}
use Rattle.marker_format.specs.declared.kind.Kind.{Kind}
use Rattle.marker_format.specs.declared.kind.Kind.TheVariants.{Head, Part, Put, Delete, Cut, Ready, Digest, Snapshot, Trailer}
use Rattle.marker_format.specs.declared.marker.Marker.{Marker}
use Rattle.marker_format.specs.Kind.{code_of, kind_of, has_stamp, has_upload, has_payload, has_name, most_position}
use Rattle.marker_format.specs.Marker.{IsMarker, IsUsed, IsNamed, Counts, is_used, is_named, counts, is_coded, uses, passes, is_well_formed, is_marker}

-- ---- each test is its fact

IsUsed-true : (b : Bool) (n : ℕ) → is_used b n ≡ true → IsUsed b n
IsUsed-true true n e = leb-true 1 n e
IsUsed-true false n e = eqb-true n 0 e

is_used-true : (b : Bool) (n : ℕ) → IsUsed b n → is_used b n ≡ true
is_used-true true n h = le-leb 1 n h
is_used-true false n h = eq-eqb n 0 h

IsNamed-true : (b : Bool) (o : Option (List ℕ)) → is_named b o ≡ true → IsNamed b o
IsNamed-true true None e = absurd cc
IsNamed-true false None e = tt
IsNamed-true true (Some name) e = grind (arith, nat_tests)
IsNamed-true false (Some name) e = absurd cc

is_named-true : (b : Bool) (o : Option (List ℕ)) → IsNamed b o → is_named b o ≡ true
is_named-true true None h = absurd h
is_named-true false None h = refl
is_named-true true (Some name) h = grind (arith, nat_tests)
is_named-true false (Some name) h = absurd h

Counts-true : (kind : Kind) (m : Marker) → counts kind m ≡ true → Counts kind m
Counts-true Head m e = grind (arith, nat_tests)
Counts-true Part m e = grind (arith, nat_tests)
Counts-true Put m e = grind (arith, nat_tests)
Counts-true Delete m e = grind (arith, nat_tests)
Counts-true Cut m e = grind (arith, nat_tests)
Counts-true Ready m e = grind (arith, nat_tests)
Counts-true Digest m e = grind (arith, nat_tests)
Counts-true Snapshot m e = grind (arith, nat_tests)
Counts-true Trailer m e = grind (arith, nat_tests)

counts-true : (kind : Kind) (m : Marker) → Counts kind m → counts kind m ≡ true
counts-true Head m h = grind (arith, nat_tests)
counts-true Part m h = grind (arith, nat_tests)
counts-true Put m h = grind (arith, nat_tests)
counts-true Delete m h = grind (arith, nat_tests)
counts-true Cut m h = grind (arith, nat_tests)
counts-true Ready m h = grind (arith, nat_tests)
counts-true Digest m h = grind (arith, nat_tests)
counts-true Snapshot m h = grind (arith, nat_tests)
counts-true Trailer m h = grind (arith, nat_tests)

kind_of-code_of : (kind : Kind) → kind_of (code_of kind) ≡ Some kind
kind_of-code_of Head = refl
kind_of-code_of Part = refl
kind_of-code_of Put = refl
kind_of-code_of Delete = refl
kind_of-code_of Cut = refl
kind_of-code_of Ready = refl
kind_of-code_of Digest = refl
kind_of-code_of Snapshot = refl
kind_of-code_of Trailer = refl

code_of-kind_of : (n : ℕ) (kind : Kind) → kind_of n ≡ Some kind → n ≡ code_of kind
code_of-kind_of n kind e = grind (arith, nat_tests)

passes-true : (test : Kind → Bool) (o : Option Kind) → passes test o ≡ true → (kind : Kind) × (o ≡ Some kind) × (test kind ≡ true)
passes-true test None e = absurd cc
passes-true test (Some kind) e = (kind, refl, e)

-- ---- all of them

record Coded (m : Marker) : Type 0 where
  k_from : 1 ≤ m.k
  k_to : m.k < m.n
  n_to : m.n ≤ 20
  index_to : m.index < m.n
  fragment : m.fragment ≡ div_ceil m.payload m.k
  fragment_to : m.fragment ≤ 65408
  set_from : 1 ≤ m.set
  set_to : m.set < 2 ^ 62

Coded-true : (m : Marker) → is_coded m ≡ true → Coded m
Coded-true m e =
    let g = and_parts _ _ e in
    let f = and_parts _ _ g.0 in
    let d = and_parts _ _ f.0 in
    let c = and_parts _ _ d.0 in
    let b = and_parts _ _ c.0 in
    let a = and_parts _ _ b.0 in
    let z = and_parts _ _ a.0 in
    record {
      k_from = leb-true _ _ z.0;
      k_to = ltb-true _ _ z.1;
      n_to = leb-true _ _ a.1;
      index_to = ltb-true _ _ b.1;
      fragment = eqb-true _ _ c.1;
      fragment_to = leb-true _ _ d.1;
      set_from = leb-true _ _ f.1;
      set_to = ltb-true _ _ g.1;
    }

record Uses (kind : Kind) (m : Marker) : Type 0 where
  position_to : m.position ≤ most_position kind
  stamp : IsUsed (has_stamp kind) m.stamp
  stamp_to : m.stamp < 2 ^ 62
  upload : IsUsed (has_upload kind) m.upload
  upload_to : m.upload < 2 ^ 62
  payload : IsUsed (has_payload kind) m.payload
  name : IsNamed (has_name kind) m.name

Uses-true : (kind : Kind) (m : Marker) → uses kind m ≡ true → Uses kind m
Uses-true kind m e =
    let f = and_parts _ _ e in
    let d = and_parts _ _ f.0 in
    let c = and_parts _ _ d.0 in
    let b = and_parts _ _ c.0 in
    let a = and_parts _ _ b.0 in
    let z = and_parts _ _ a.0 in
    record {
      position_to = leb-true _ _ z.0;
      stamp = IsUsed-true (has_stamp kind) m.stamp z.1;
      stamp_to = ltb-true _ _ a.1;
      upload = IsUsed-true (has_upload kind) m.upload b.1;
      upload_to = ltb-true _ _ c.1;
      payload = IsUsed-true (has_payload kind) m.payload d.1;
      name = IsNamed-true (has_name kind) m.name f.1;
    }

-- what the types of a marker's fields say
pub record Widths (m : Marker) : Type 0 where
  pub part_to : m.part < 2 ^ 32
  pub parts_to : m.parts < 2 ^ 32
  pub length_to : m.length < 2 ^ 32
  pub payload_to : m.payload < 2 ^ 32
  pub array : length m.array ≡ 16

pub IsMarker-from : (m : Marker) → Widths m → is_well_formed m ≡ true → IsMarker m
unfolding is_well_formed
IsMarker-from m wide e =
    let p = passes-true (λ kind. is_coded m && uses kind m && counts kind m) (kind_of m.kind) e in
    let both = and_parts _ _ p.2 in
    let first = and_parts _ _ both.0 in
    let c = Coded-true m first.0 in
    let u = Uses-true p.0 m first.1 in
    record {
      kind = p.0;
      coded = code_of-kind_of m.kind p.0 p.1;
      k_from = c.k_from;
      k_to = c.k_to;
      n_to = c.n_to;
      index_to = c.index_to;
      fragment = c.fragment;
      fragment_to = c.fragment_to;
      set_from = c.set_from;
      set_to = c.set_to;
      position_to = u.position_to;
      stamp = u.stamp;
      stamp_to = u.stamp_to;
      upload = u.upload;
      upload_to = u.upload_to;
      payload = u.payload;
      name = u.name;
      counts = Counts-true p.0 m both.1;
      part_to = wide.part_to;
      parts_to = wide.parts_to;
      length_to = wide.length_to;
      payload_to = wide.payload_to;
      array = wide.array;
    }

is_coded-true : (m : Marker) → IsMarker m → is_coded m ≡ true
is_coded-true m is =
    and_from _ _ (and_from _ _ (and_from _ _ (and_from _ _ (and_from _ _ (and_from _ _ (and_from _ _
    (le-leb 1 m.k is.k_from) (lt-ltb m.k m.n is.k_to)) (le-leb m.n 20 is.n_to)) (lt-ltb m.index m.n is.index_to))
    (eq-eqb m.fragment (div_ceil m.payload m.k) is.fragment)) (le-leb m.fragment 65408 is.fragment_to)) (le-leb 1 m.set is.set_from)) (lt-ltb m.set (2 ^ 62) is.set_to)

uses-true : (m : Marker) (is : IsMarker m) → uses is.kind m ≡ true
uses-true m is =
    and_from _ _ (and_from _ _ (and_from _ _ (and_from _ _ (and_from _ _ (and_from _ _
    (le-leb m.position (most_position is.kind) is.position_to) (is_used-true (has_stamp is.kind) m.stamp is.stamp)) (lt-ltb m.stamp (2 ^ 62) is.stamp_to))
    (is_used-true (has_upload is.kind) m.upload is.upload)) (lt-ltb m.upload (2 ^ 62) is.upload_to)) (is_used-true (has_payload is.kind) m.payload is.payload))
    (is_named-true (has_name is.kind) m.name is.name)

pub is_well_formed-true : (m : Marker) → IsMarker m → is_well_formed m ≡ true
unfolding is_well_formed
is_well_formed-true m is =
    let kind : kind_of m.kind ≡ Some is.kind = ap kind_of is.coded ∙ kind_of-code_of is.kind in
    ap (passes (λ kind. is_coded m && uses kind m && counts kind m)) kind
    ∙ and_from _ _ (and_from _ _ (is_coded-true m is) (uses-true m is)) (counts-true is.kind m is.counts)

pub is_marker-true : (m : Marker) → IsMarker m → is_marker m ≡ true
unfolding is_marker
is_marker-true m is =
    and_from _ _ (and_from _ _ (and_from _ _ (and_from _ _ (and_from _ _ (lt-ltb m.part (2 ^ 32) is.part_to) (lt-ltb m.parts (2 ^ 32) is.parts_to))
    (lt-ltb m.length (2 ^ 32) is.length_to)) (lt-ltb m.payload (2 ^ 32) is.payload_to)) (eq-eqb (length m.array) 16 is.array)) (is_well_formed-true m is)

pub IsMarker-true : (m : Marker) → is_marker m ≡ true → IsMarker m
unfolding is_marker
IsMarker-true m e =
    let both = and_parts _ _ e in
    let d = and_parts _ _ both.0 in
    let c = and_parts _ _ d.0 in
    let b = and_parts _ _ c.0 in
    let a = and_parts _ _ b.0 in
    IsMarker-from m (record {
      part_to = ltb-true _ _ a.0;
      parts_to = ltb-true _ _ a.1;
      length_to = ltb-true _ _ b.1;
      payload_to = ltb-true _ _ c.1;
      array = eqb-true _ _ d.1;
    }) both.1
