-- The records that a set begins with.
use Rattle.std.proofs.Common.{◌≡◌, ℕ, ◌+◌, ◌*◌, ◌<◌, ◌≤◌, min, true, List, length, refl, sym, ap, ap₂, ◌∙◌, arith}
use Rattle.std.specs.Prelude.{◌==◌, ◌&&◌, nat_le}
use Rattle.std.specs.Str.{bytes_eq}
use Rattle.std.proofs.lemmas.Bool.{and_from, eq-eqb, ne_eqb, le-leb}
use Rattle.std.proofs.lemmas.Slice.Eq.{bytes_eq-Decides}
use Rattle.smore_base.specs.Geometry.{IsWithinLimits}
use Rattle.marker_format.specs.declared.kind.Kind.TheVariants as kinds
use Rattle.marker_format.specs.declared.marker.Marker.{Marker}
use Rattle.marker_format.specs.declared.marker.TheConstants.{COUNTER_END}
use Rattle.marker_format.specs.Marker.{IsMarker}
use Rattle.marker_format.specs.Plain.{plain_of}
use Rattle.marker_format.proofs.PlainMarkers.{IsSet, filled_is, with_index, no_fragments, plain_is}
use Rattle.marker_format.specs.Zone.{Array, belongs, blocks_of}
use Rattle.array_model.specs.Reading.{fragments_of}
use Rattle.set_writer.specs.declared.first.First.{First}
use Rattle.set_writer.specs.declared.first.First.TheVariants as first
use Rattle.set_writer.specs.declared.first.First.TheVariants.{Keeps, IsReady}
use Rattle.set_writer.specs.Entry.{at_index, IsEntry}
use Rattle.set_writer.specs.Writer.{first_marker, first_record, IsRecordAt}
use Rattle.set_writer.specs.Calls.{MayBegin}

-- what a first record needs of its set
pub record CanBegin (array : Array) (set position : ℕ) : Type 0 where
  pub within : IsWithinLimits array.geometry
  pub id : length array.id ≡ 16
  pub set_from : 1 ≤ set
  pub set_to : set < COUNTER_END
  pub few : position ≤ 33

pub same_bytes : (xs : List ℕ) → bytes_eq xs xs ≡ true
same_bytes xs = (bytes_eq-Decides xs xs).1 refl

-- the set is one of the array's
of_array : (array : Array) (set position : ℕ) → CanBegin array set position → IsSet array.id array.geometry.k (array.geometry.k + array.geometry.p) set
of_array array set position can = let w = can.within in record {
  k_from = w.k_from;
  k_to = let p = w.p_from in omega (arith, p);
  n_to = w.fragments;
  set_from = can.set_from;
  set_to = can.set_to;
  id = can.id;
}

cut_is : (array : Array) (set position target kept : ℕ) → CanBegin array set position → MayBegin set position (Keeps target kept) → 0 < fragments_of array → IsMarker (first_marker array set position (Keeps target kept))
cut_is array set position target kept can may some = let few = can.few in let to = can.set_to in
    filled_is kinds.Cut (first_marker array set position (Keeps target kept)) (of_array array set position can) some (record {
      coded = refl;
      fragment = no_fragments array.geometry.k;
      fragment_to = omega arith;
      position_to = omega (arith, few);
      stamp = refl;
      stamp_to = omega arith;
      upload = may.1;
      upload_to = let t = may.2 in omega (arith, t, to);
      payload = refl;
      payload_to = omega arith;
      name = tt;
      counts = (refl, refl, (let k = may.3 in omega (arith, k)), may.2);
      part_to = omega arith;
      parts_to = omega arith;
      length_to = let k = may.3 in omega (arith, k);
    })

first_is : (array : Array) (set position : ℕ) (f : First) → CanBegin array set position → MayBegin set position f → 0 < fragments_of array → IsMarker (first_marker array set position f)
first_is array set position first.Opens can may some = plain_is array.id array.geometry.k (fragments_of array) set position kinds.Head tt (of_array array set position can) (omega (arith, may))
first_is array set position (Keeps target kept) can may some = cut_is array set position target kept can may some
first_is array set position IsReady can may some = plain_is array.id array.geometry.k (fragments_of array) set position kinds.Ready tt (of_array array set position can) (let few = can.few in omega (arith, few))

fragments_are : (array : Array) (set position : ℕ) (f : First) → (first_marker array set position f).n ≡ fragments_of array
fragments_are array set position first.Opens = refl
fragments_are array set position (Keeps target kept) = refl
fragments_are array set position IsReady = refl

first_is_marker : (array : Array) (set position : ℕ) (f : First) (index : ℕ) → CanBegin array set position → MayBegin set position f → index < fragments_of array → IsMarker (at_index index (first_marker array set position f))
first_is_marker array set position f index can may below =
    with_index (first_marker array set position f) index (let n = fragments_are array set position f in omega (arith, n, below)) (first_is array set position f can may (omega (arith, below)))

belongs_plain : (array : Array) (m : Marker) → m.k ≡ array.geometry.k → m.n ≡ array.geometry.k + array.geometry.p → m.array ≡ array.id → m.payload ≡ 0 → belongs array m ≡ true
belongs_plain array m k n id payload =
    let g = array.geometry in
    and_from ((m.k == g.k) && (m.n == g.k + g.p) && bytes_eq m.array array.id) (nat_le m.payload (g.k * g.shard))
    (and_from ((m.k == g.k) && (m.n == g.k + g.p)) (bytes_eq m.array array.id) (and_from (m.k == g.k) (m.n == g.k + g.p) (eq-eqb m.k g.k k) (eq-eqb m.n (g.k + g.p) n)) (ap (λ (l : List ℕ). bytes_eq l array.id) id ∙ same_bytes array.id))
    (le-leb m.payload (g.k * g.shard) (omega (arith, payload)))

first_belongs : (array : Array) (set position : ℕ) (f : First) → belongs array (first_marker array set position f) ≡ true
first_belongs array set position first.Opens = belongs_plain array (plain_of array set kinds.Head position) refl refl refl refl
first_belongs array set position (Keeps target kept) = belongs_plain array (first_marker array set position (Keeps target kept)) refl refl refl refl
first_belongs array set position IsReady = belongs_plain array (plain_of array set kinds.Ready position) refl refl refl refl

no_payload : (array : Array) (set position : ℕ) (f : First) → 0 ≡ (first_marker array set position f).payload
no_payload array set position first.Opens = refl
no_payload array set position (Keeps target kept) = refl
no_payload array set position IsReady = refl

pub first_is_entry : (array : Array) (set position : ℕ) (f : First) → CanBegin array set position → MayBegin set position f → IsEntry array (first_record array set position f)
first_is_entry array set position f can may = record {
  markers = λ index below. first_is_marker array set position f index can may below;
  ours = first_belongs array set position f;
  payload = no_payload array set position f;
}

pub first_is_record : (array : Array) (set position : ℕ) (f : First) → CanBegin array set position → MayBegin set position f → IsRecordAt array set position (first_record array set position f)
first_is_record array set position first.Opens can may = record {
  entry = first_is_entry array set position first.Opens can may;
  set_is = refl;
  index_is = refl;
  position_is = refl;
  head = sym (eq-eqb position 0 may);
  first_zone = λ e. refl;
  no_digest = refl;
  no_trailer = refl;
}
first_is_record array set position (Keeps target kept) can may = record {
  entry = first_is_entry array set position (Keeps target kept) can may;
  set_is = refl;
  index_is = refl;
  position_is = refl;
  head = sym (ne_eqb position 0 (λ e. let m = may.0 in omega (arith, m, e)));
  first_zone = λ e. refl;
  no_digest = refl;
  no_trailer = refl;
}
first_is_record array set position IsReady can may = record {
  entry = first_is_entry array set position IsReady can may;
  set_is = refl;
  index_is = refl;
  position_is = refl;
  head = sym (ne_eqb position 0 (λ e. omega (arith, may, e)));
  first_zone = λ e. refl;
  no_digest = refl;
  no_trailer = refl;
}

-- each is of one block
pub one_block : (array : Array) (set position : ℕ) (f : First) → 1 ≡ blocks_of (first_marker array set position f)
one_block array set position first.Opens = ap (λ n. 1 + n) (no_fragments 511)
one_block array set position (Keeps target kept) = ap (λ n. 1 + n) (no_fragments 511)
one_block array set position IsReady = ap (λ n. 1 + n) (no_fragments 511)
