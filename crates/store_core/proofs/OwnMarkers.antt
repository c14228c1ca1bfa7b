-- The markers that a core writes are well formed, and of the array.
use Rattle.std.proofs.Common.{inl, inr, ◌≡◌, ℕ, ◌+◌, ◌*◌, ◌^◌, ◌<◌, ◌≤◌, Bool, true, false, cond, List, refl, sym, ap, subst, ◌∙◌, arith, le-leb}
use Rattle.std.specs.Prelude.{◌==◌}
use Rattle.std.proofs.lemmas.Bool.{eq-eqb, cases_eq, cases_lt, ne_eqb}
use Rattle.std.proofs.lemmas.Slice.Eq.{bytes_eq-Decides}
use Rattle.smore_base.specs.Name.{IsName}
use Rattle.marker_format.specs.declared.kind.Kind.{Kind}
use Rattle.marker_format.specs.declared.kind.Kind.TheVariants as kinds
use Rattle.marker_format.specs.declared.marker.Marker.{Marker}
use Rattle.marker_format.specs.Kind.{most_position}
use Rattle.marker_format.specs.Marker.{IsMarker}
use Rattle.marker_format.specs.Plain.{plain_marker}
use Rattle.marker_format.proofs.PlainMarkers.{IsPlain, IsSet, filled_is, with_index, no_fragments, plain_is}
use Rattle.marker_format.specs.Zone.{Array, belongs}
use Rattle.store_core.specs.declared.records.RecordPlace.{RecordPlace}
use Rattle.store_core.specs.Records.{IsPlace, place_marker, part_marker, put_marker, delete_marker}
use Rattle.store_core.proofs.SaidLaws.{and_true, one_source}

abbrev one_or_none : Bool → ℕ
one_or_none b = cond b 0 1

-- an object without bytes has no parts, and no other
parts_few : (bytes : ℕ) → cond (bytes == 0) 0 1 ≤ bytes
parts_few bytes = elim (cases_eq bytes 0) [
  | inl is ↦ subst (λ b. cond b 0 1 ≤ bytes) (sym (eq-eqb bytes 0 is)) (omega arith)
  | inr other ↦ subst (λ b. cond b 0 1 ≤ bytes) (sym (ne_eqb bytes 0 other)) (some bytes other)
]
  where
    some : (n : ℕ) → (n ≡ 0 → ⊥) → 1 ≤ n
    some n other = elim (cases_lt 0 n) [
      | inl l ↦ l
      | inr l ↦ absurd (other (omega (arith, l)))
    ]

abbrev parts_of : ℕ → ℕ
parts_of bytes = cond (bytes == 0) 0 1

parts_none : (bytes : ℕ) → parts_of bytes ≡ 0 → bytes ≡ 0
parts_none bytes e = elim (cases_eq bytes 0) [
  | inl is ↦ is
  | inr other ↦ let one : 1 ≡ 0 = sym (ap one_or_none (ne_eqb bytes 0 other)) ∙ e in absurd (omega (arith, one))
]

parts_small : (bytes : ℕ) → cond (bytes == 0) 0 1 < 2 ^ 32
parts_small bytes = at_one (bytes == 0)
  where
    at_one : (b : Bool) → cond b 0 1 < 2 ^ 32
    at_one true = omega arith
    at_one false = omega arith

-- the set is one of the array's
of_place : (place : RecordPlace) → IsPlace place → IsSet place.array 1 2 place.set
of_place place it = record { k_from = omega arith; k_to = omega arith; n_to = omega arith; set_from = it.set_from; set_to = it.set_to; id = it.array }

plain_here : (place : RecordPlace) (kind : Kind) → IsPlain kind → IsPlace place → place.position ≤ most_position kind → IsMarker (place_marker place kind)
plain_here place kind plain it few = with_index (plain_marker place.array 1 2 place.set kind place.position) place.index it.index (plain_is place.array 1 2 place.set place.position kind plain (of_place place it) few)

pub head_is : (place : RecordPlace) → IsPlace place → place.position ≡ 0 → IsMarker (place_marker place kinds.Head)
head_is place it first = plain_here place kinds.Head tt it (omega (arith, first))

pub ready_is : (place : RecordPlace) → IsPlace place → IsMarker (place_marker place kinds.Ready)
ready_is place it = plain_here place kinds.Ready tt it (omega (arith, it.position))

pub part_is : (place : RecordPlace) (upload bytes : ℕ) → IsPlace place → 1 ≤ upload → upload < 2 ^ 62 → 1 ≤ bytes → bytes ≤ 65408 → IsMarker (part_marker place upload bytes)
part_is place upload bytes it from to some few = filled_is kinds.Part (part_marker place upload bytes) (of_place place it) it.index (record {
  coded = refl;
  fragment = sym (one_source bytes);
  fragment_to = few;
  position_to = omega (arith, it.position);
  stamp = refl;
  stamp_to = omega arith;
  upload = from;
  upload_to = to;
  payload = some;
  payload_to = omega (arith, few);
  name = tt;
  counts = (refl, refl);
  part_to = omega arith;
  parts_to = omega arith;
  length_to = omega arith;
})

pub put_is : (place : RecordPlace) (stamp bytes : ℕ) (name : List ℕ) → IsPlace place → 1 ≤ stamp → stamp < 2 ^ 62 → bytes < 2 ^ 32 → IsName name → IsMarker (put_marker place stamp bytes name)
put_is place stamp bytes name it from to few fits = filled_is kinds.Put (put_marker place stamp bytes name) (of_place place it) it.index (record {
  coded = refl;
  fragment = no_fragments 1;
  fragment_to = omega arith;
  position_to = omega (arith, it.position);
  stamp = from;
  stamp_to = to;
  upload = from;
  upload_to = to;
  payload = refl;
  payload_to = omega arith;
  name = fits;
  counts = (refl, parts_few bytes, parts_none bytes);
  part_to = omega arith;
  parts_to = parts_small bytes;
  length_to = few;
})

pub delete_is : (place : RecordPlace) (stamp : ℕ) (name : List ℕ) → IsPlace place → 1 ≤ stamp → stamp < 2 ^ 62 → IsName name → IsMarker (delete_marker place stamp name)
delete_is place stamp name it from to fits = filled_is kinds.Delete (delete_marker place stamp name) (of_place place it) it.index (record {
  coded = refl;
  fragment = no_fragments 1;
  fragment_to = omega arith;
  position_to = omega (arith, it.position);
  stamp = from;
  stamp_to = to;
  upload = refl;
  upload_to = omega arith;
  payload = refl;
  payload_to = omega arith;
  name = fits;
  counts = (refl, refl, refl);
  part_to = omega arith;
  parts_to = omega arith;
  length_to = omega arith;
})

-- ---- of the array

pub ours : (array : Array) (m : Marker) → array.geometry.k ≡ 1 → array.geometry.p ≡ 1 → m.k ≡ 1 → m.n ≡ 2 → m.array ≡ array.id → m.payload ≤ array.geometry.shard → belongs array m ≡ true
ours array m k p one two id small =
    and_true (and_true (and_true (eq-eqb m.k array.geometry.k (one ∙ sym k)) (eq-eqb m.n (array.geometry.k + array.geometry.p) (omega (arith, two, k, p)))) ((bytes_eq-Decides m.array array.id).1 id))
    (le-leb m.payload (array.geometry.k * array.geometry.shard) (subst (λ n. m.payload ≤ n * array.geometry.shard) (sym k) (omega (arith, small))))
