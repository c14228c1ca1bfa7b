-- The lines of records.
use Rattle.std.proofs.Common.{◌≡◌, ℕ, ◌+◌, ◌*◌, ◌^◌, ◌<◌, ◌≤◌, ◌≢◌, Bool, true, false, cond, ◌↔◌, List, [], ◌∷◌, ◌++◌, Some, refl, ap, ◌∙◌, arith}
use Rattle.std.specs.Prelude.{not}
use Rattle.std.specs.Int.{div_ceil}
use Rattle.std.proofs.lemmas.Bool.{and_parts, eqb-true}
use Rattle.std.proofs.lemmas.Bool.Decides.{nat_tests}
use Rattle.marker_format.specs.declared.kind.Kind.{Kind}
use Rattle.marker_format.specs.declared.kind.Kind.TheVariants.{Head, Part, Put, Delete, Cut, Ready, Digest, Snapshot, Trailer}
use Rattle.marker_format.specs.declared.marker.Marker.{Marker}
use Rattle.marker_format.specs.Kind.{code_of, most_position}
use Rattle.marker_format.specs.Marker.{IsMarker, Counts}
use Rattle.marker_format.specs.Zone as zone
use Rattle.marker_format.specs.Zone.{Array, Stand, Begin, has_kind, may_stand, end_from}
use Rattle.set_digest.specs.Line.{IsListed, IsFirst, IsLine, said_by}
use Rattle.set_digest.specs.Lines.{ListFrom, IsList}
use Rattle.set_digest.specs.Records.{line_of, lines_from, before_digest, listed_of}

-- ---- one record

-- a fragment has no bytes exactly where there is no payload
none_or_some : (payload k fragment : ℕ) → 1 ≤ k → fragment ≡ div_ceil payload k → (fragment ≡ 0) ↔ (payload ≡ 0)
none_or_some payload k fragment from is = (λ none. forth none, λ none. back none)
  where
    forth : fragment ≡ 0 → payload ≡ 0
    forth none = grind arith

    back : payload ≡ 0 → fragment ≡ 0
    back none = grind arith

part_of : (block : ℕ) (m : Marker) → m.kind ≢ 1 → (line_of block m).part ≡ m.part
part_of block m other = grind (arith, nat_tests)

head_part : (block : ℕ) (m : Marker) → m.kind ≡ 1 → (line_of block m).part ≡ 0
head_part block m head = grind (arith, nat_tests)

is_first : (kind : Kind) (block : ℕ) (m : Marker) → m.kind ≡ code_of kind → m.position ≤ most_position kind → IsFirst kind (line_of block m)
is_first Head block m coded to = (omega (arith, to), head_part block m coded)
is_first Part block m coded to = tt
is_first Put block m coded to = tt
is_first Delete block m coded to = tt
is_first Cut block m coded to = tt
is_first Ready block m coded to = tt
is_first Digest block m coded to = tt
is_first Snapshot block m coded to = tt
is_first Trailer block m coded to = tt

counts_are : (kind : Kind) (block : ℕ) (m : Marker) → m.kind ≡ code_of kind → m.upload < 2 ^ 62 → Counts kind m → Counts kind (said_by (line_of block m))
counts_are Head block m coded to counts = (omega (arith, head_part block m coded), counts.1, counts.2)
counts_are Part block m coded to counts = counts
counts_are Put block m coded to counts = (part_of block m (λ e. omega (arith, e, coded)) ∙ counts.0, counts.1, counts.2)
counts_are Delete block m coded to counts = (part_of block m (λ e. omega (arith, e, coded)) ∙ counts.0, counts.1, counts.2)
counts_are Cut block m coded to counts = (part_of block m (λ e. omega (arith, e, coded)) ∙ counts.0, counts.1, counts.2, to)
counts_are Ready block m coded to counts = (part_of block m (λ e. omega (arith, e, coded)) ∙ counts.0, counts.1, counts.2)
counts_are Digest block m coded to counts = (omega (arith, counts.0, part_of block m (λ e. omega (arith, e, coded))), counts.1)
counts_are Snapshot block m coded to counts = omega (arith, counts, part_of block m (λ e. omega (arith, e, coded)))
counts_are Trailer block m coded to counts = (part_of block m (λ e. omega (arith, e, coded)) ∙ counts.0, counts.1, counts.2)

part_to : (block : ℕ) (m : Marker) → m.part < 2 ^ 32 → (line_of block m).part < 2 ^ 32
part_to block m to = grind (arith, nat_tests)

most_small : (kind : Kind) → most_position kind < 65536
most_small Head = omega arith
most_small Part = omega arith
most_small Put = omega arith
most_small Delete = omega arith
most_small Cut = omega arith
most_small Ready = omega arith
most_small Digest = omega arith
most_small Snapshot = omega arith
most_small Trailer = omega arith

pub record_has_line : (block : ℕ) (m : Marker) (is : IsMarker m) → IsListed is.kind → block < 2 ^ 32 → IsLine (line_of block m)
record_has_line block m is listed within = record {
  kind = is.kind;
  coded = is.coded;
  listed = listed;
  first = is_first is.kind block m is.coded is.position_to;
  stamp = is.stamp;
  stamp_to = is.stamp_to;
  upload = is.upload;
  upload_to = is.upload_to;
  payload = is.payload;
  fragment = none_or_some m.payload m.k m.fragment is.k_from is.fragment;
  name = is.name;
  counts = counts_are is.kind block m is.coded is.upload_to is.counts;
  position_to = omega (arith, is.position_to, most_small is.kind);
  block_to = within;
  fragment_to = omega (arith, is.fragment_to);
  part_to = part_to block m is.part_to;
  parts_to = is.parts_to;
  length_to = is.length_to;
  payload_to = is.payload_to;
}

-- ---- records of a zone

pub lines_from-append : (block : ℕ) (ms more : List Marker) → lines_from block (ms ++ more) ≡ lines_from block ms ++ lines_from (end_from block ms) more
lines_from-append block [] more = refl
lines_from-append block (m ∷ ms) more = ap (λ ls. line_of block m ∷ ls) (lines_from-append (block + zone.blocks_of m) ms more)

blocks_small : (m : Marker) → IsMarker m → zone.blocks_of m ≤ 129
blocks_small m is = omega (arith, is.fragment_to)

kind_listed : (kind : Kind) (m : Marker) → m.kind ≡ code_of kind → has_kind Digest m ≡ false → has_kind Trailer m ≡ false → IsListed kind
kind_listed Head m coded digest trailer = tt
kind_listed Part m coded digest trailer = tt
kind_listed Put m coded digest trailer = tt
kind_listed Delete m coded digest trailer = tt
kind_listed Cut m coded digest trailer = tt
kind_listed Ready m coded digest trailer = tt
kind_listed Digest m coded digest trailer = absurd (grind (arith, nat_tests))
kind_listed Snapshot m coded digest trailer = tt
kind_listed Trailer m coded digest trailer = absurd (grind (arith, nat_tests))

most_of : (kind : Kind) (m : Marker) → m.kind ≡ code_of kind → has_kind Trailer m ≡ false → most_position kind ≤ 65534
most_of Head m coded trailer = omega arith
most_of Part m coded trailer = omega arith
most_of Put m coded trailer = omega arith
most_of Delete m coded trailer = omega arith
most_of Cut m coded trailer = omega arith
most_of Ready m coded trailer = omega arith
most_of Digest m coded trailer = omega arith
most_of Snapshot m coded trailer = omega arith
most_of Trailer m coded trailer = absurd (grind (arith, nat_tests))

-- what is known of a record that stands behind another
record Next (before m : Marker) : Type 0 where
  position : m.position ≡ before.position + 1
  trailer : has_kind Trailer m ≡ false

next_is : (before m : Marker) → may_stand (Some before) m ≡ true → Next before m
next_is before m may =
    let g = and_parts _ _ may in
    let f = and_parts _ _ g.0 in
    let e = and_parts _ _ f.0 in
    let d = and_parts (not (has_kind Head m)) (not (has_kind Trailer m)) e.0 in
    record { position = eqb-true _ _ e.1; trailer = grind (arith, nat_tests, d.1) }

-- the record and those behind it are listed
listed_with : (digest : Bool) (block position : ℕ) (m : Marker) (ms : List Marker) → has_kind Digest m ≡ digest → has_kind Trailer m ≡ false → m.position ≡ position → block ≤ 129 * position → position ≤ 65534 → IsMarker m
    → ListFrom (position + 1) (block + zone.blocks_of m) (lines_from (block + zone.blocks_of m) (before_digest ms)) → ListFrom position block (lines_from block (cond digest [] (m ∷ before_digest ms)))
listed_with true block position m ms kind trailer here below small is rest = tt
listed_with false block position m ms kind trailer here below small is rest = (record_has_line block m is (kind_listed is.kind m is.coded kind trailer) (omega (arith, below, small)), here, refl, rest)

listed_behind : (array : Array) (bytes : List ℕ) (before : Marker) (block position : ℕ) (ms : List Marker) → before.position + 1 ≡ position → block ≤ 129 * position → Stand array bytes (Some before) block ms
    → ListFrom position block (lines_from block (before_digest ms))
listed_behind array bytes before block position [] here below stand = tt
listed_behind array bytes before block position (m ∷ ms) here below stand =
    let next = next_is before m stand.1 in
    let is = stand.0.marker in
    let rest = listed_behind array bytes m (block + zone.blocks_of m) (position + 1) ms (omega (arith, next.position, here)) (omega (arith, below, blocks_small m is)) stand.2 in
    listed_with (has_kind Digest m) block position m ms refl next.trailer (omega (arith, next.position, here)) below (omega (arith, next.position, here, is.position_to, most_of is.kind m is.coded next.trailer)) is rest

first_position : (kind : Kind) (m : Marker) → m.kind ≡ code_of kind → has_kind Head m ≡ true → most_position kind ≡ 0
first_position Head m coded head = refl
first_position Part m coded head = absurd (grind (arith, nat_tests))
first_position Put m coded head = absurd (grind (arith, nat_tests))
first_position Delete m coded head = absurd (grind (arith, nat_tests))
first_position Cut m coded head = absurd (grind (arith, nat_tests))
first_position Ready m coded head = absurd (grind (arith, nat_tests))
first_position Digest m coded head = absurd (grind (arith, nat_tests))
first_position Snapshot m coded head = absurd (grind (arith, nat_tests))
first_position Trailer m coded head = absurd (grind (arith, nat_tests))

head_no_trailer : (m : Marker) → has_kind Head m ≡ true → has_kind Trailer m ≡ false
head_no_trailer m head = grind (arith, nat_tests)

pub records_are_listed : (array : Array) (bytes : List ℕ) (ms : List Marker) → Begin array bytes ms → IsList (listed_of ms)
records_are_listed array bytes [] begin = tt
records_are_listed array bytes (m ∷ ms) begin =
    let is = begin.0.marker in
    let first : m.position ≡ 0 = omega (arith, is.position_to, first_position is.kind m is.coded begin.1) in
    let rest = listed_behind array bytes m (0 + zone.blocks_of m) 1 ms (omega (arith, first)) (omega (arith, blocks_small m is)) begin.2 in
    listed_with (has_kind Digest m) 0 0 m ms refl (head_no_trailer m begin.1) first (omega arith) (omega arith) is rest
