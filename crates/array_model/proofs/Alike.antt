-- What is left aside of markers, and what isn't.
use Rattle.std.proofs.Common.{◌≡◌, ◌<◌, ◌^◌, Bool, true, false, cond, eqb, refl, sym, ap, ◌∙◌, subst, arith}
use Rattle.std.proofs.lemmas.Bool.{cond-true, cond-false}
use Rattle.std.proofs.lemmas.Slice.Eq.{bytes_eq-Decides}
use Rattle.marker_format.specs.declared.kind.Kind.{Kind}
use Rattle.marker_format.specs.declared.kind.Kind.TheVariants.{Head, Part, Put, Delete, Cut, Ready, Digest, Snapshot, Trailer}
use Rattle.marker_format.specs.declared.marker.Marker.{Marker}
use Rattle.marker_format.specs.Kind.{code_of}
use Rattle.marker_format.specs.Marker.{IsMarker, Counts, spelling_of}
use Rattle.marker_format.proofs.MarkerLaws.{one_spelling}
use Rattle.array_model.specs.Reading.{aside, alike}
use Rattle.array_model.specs.ReadingLaws.{IndexIsAside, RebuiltMarkIsAside, NothingElseIsAside}

pub index_is_aside : IndexIsAside
index_is_aside m index = (bytes_eq-Decides (alike m) (alike (record m { index = index }))).1 refl

pub rebuilt_mark_is_aside : RebuiltMarkIsAside
rebuilt_mark_is_aside m mark is =
    (bytes_eq-Decides (alike m) (alike (record m { part = mark }))).1
    (ap (λ part. spelling_of (record m { index = 0; part = part })) (cond-true (eqb m.kind 1) 0 m.part is ∙ sym (cond-true (eqb m.kind 1) 0 mark is)))

-- What a marker of another kind than a head has as its part stays.
pub part_stays : (m : Marker) → eqb m.kind 1 ≡ false → (aside m).part ≡ m.part
part_stays m other = cond-false (eqb m.kind 1) 0 m.part other

counts_aside : (m : Marker) (kind : Kind) → m.kind ≡ code_of kind → Counts kind m → Counts kind (aside m)
counts_aside m Head coded counts = let none = cond-true (eqb m.kind 1) 0 m.part (ap (λ k. eqb k 1) coded) in (omega (arith, none), counts.1, counts.2)
counts_aside m Part coded counts = counts
counts_aside m Put coded counts = (part_stays m (ap (λ k. eqb k 1) coded) ∙ counts.0, counts.1, counts.2)
counts_aside m Delete coded counts = (part_stays m (ap (λ k. eqb k 1) coded) ∙ counts.0, counts.1, counts.2)
counts_aside m Cut coded counts = (part_stays m (ap (λ k. eqb k 1) coded) ∙ counts.0, counts.1, counts.2, counts.3)
counts_aside m Ready coded counts = (part_stays m (ap (λ k. eqb k 1) coded) ∙ counts.0, counts.1, counts.2)
counts_aside m Digest coded counts = (subst (λ p. p < m.parts) (sym (part_stays m (ap (λ k. eqb k 1) coded))) counts.0, counts.1)
counts_aside m Snapshot coded counts = subst (λ p. p < m.parts) (sym (part_stays m (ap (λ k. eqb k 1) coded))) counts
counts_aside m Trailer coded counts = (part_stays m (ap (λ k. eqb k 1) coded) ∙ counts.0, counts.1, counts.2)

-- What is left of a well formed marker is well formed.
aside_is_marker : (m : Marker) → IsMarker m → IsMarker (aside m)
aside_is_marker m is = record {
  kind = is.kind;
  coded = is.coded;
  k_from = is.k_from;
  k_to = is.k_to;
  n_to = is.n_to;
  index_to = let below = is.index_to in omega arith;
  fragment = is.fragment;
  fragment_to = is.fragment_to;
  set_from = is.set_from;
  set_to = is.set_to;
  position_to = is.position_to;
  stamp = is.stamp;
  stamp_to = is.stamp_to;
  upload = is.upload;
  upload_to = is.upload_to;
  payload = is.payload;
  name = is.name;
  counts = counts_aside m is.kind is.coded is.counts;
  part_to = at_one (eqb m.kind 1);
  parts_to = is.parts_to;
  length_to = is.length_to;
  payload_to = is.payload_to;
  array = is.array;
}
  where
    at_one : (b : Bool) → cond b 0 m.part < 2 ^ 32
    at_one true = omega arith
    at_one false = is.part_to

pub nothing_else_is_aside : NothingElseIsAside
nothing_else_is_aside one other one_is other_is same =
    one_spelling (aside one) (aside other) (aside_is_marker one one_is) (aside_is_marker other other_is) ((bytes_eq-Decides (alike one) (alike other)).0 same)
