-- When a record can be appended to a set.
use Rattle.std.proofs.Common.{◌≡◌, ℕ, ◌+◌, ◌*◌, ◌<◌, ◌≤◌, Bool, eqb, true, false, ◌&&◌, List, length, refl, sym, ap, subst, ◌∙◌, arith}
use mathlib.Core.Bool.{false≢true}
use Rattle.std.specs.Prelude.{nat_le, not}
use Rattle.std.specs.Str.{bytes_eq}
use Rattle.std.proofs.lemmas.Bool.{le-leb, eq-eqb}
use Rattle.std.proofs.lemmas.Slice.Eq.{bytes_eq-Decides}
use Rattle.rs_code.specs.Coded.{CodedPayload}
use Rattle.smore_base.specs.declared.geometry.Geometry.{Geometry}
use Rattle.marker_format.specs.declared.marker.Marker.{Marker}
use Rattle.marker_format.specs.Marker.{is_well_formed}
use Rattle.marker_format.specs.Zone.{Array, belongs}
use Rattle.marker_format.proofs.MarkerRules.{Widths, IsMarker-from}
use Rattle.set_table.specs.Table.{Table}
use Rattle.set_writer.specs.Entry.{at_index}
use Rattle.set_writer.specs.Members.{IsOfCode}
use Rattle.set_table.specs.Table.{array_of}
use Rattle.set_writer.specs.Writer.{Writer, array_by, is_appended, IsAppended}

-- What a record's marker says of the array and of its payload, and of the set that it is to be put to.
pub record IsNext (w : Writer) (t : Table) (m : Marker) (body : CodedPayload) : Type 0 where
  pub kind : is_appended m ≡ true
  pub k : m.k ≡ t.geometry.k
  pub n : m.n ≡ t.geometry.k + t.geometry.p
  pub array : m.array ≡ t.array
  pub set_is : m.set ≡ w.set
  pub position_is : m.position ≡ w.records
  pub payload : m.payload ≡ length body.payload
  pub most : m.payload ≤ t.geometry.k * t.geometry.shard

both : (a b : Bool) → a ≡ true → b ≡ true → (a && b) ≡ true
both true b first second = second
both false b first second = first

ours : (w : Writer) (t : Table) (m : Marker) (body : CodedPayload) → IsNext w t m body → belongs (array_of t) m ≡ true
ours w t m body next =
    let n = t.geometry.k + t.geometry.p in
    let code = both (eqb m.k t.geometry.k) (eqb m.n n) (eq-eqb m.k t.geometry.k next.k) (eq-eqb m.n n next.n) in
    let known = both (eqb m.k t.geometry.k && eqb m.n n) (bytes_eq m.array t.array) code ((bytes_eq-Decides m.array t.array).1 next.array) in
    both (eqb m.k t.geometry.k && eqb m.n n && bytes_eq m.array t.array) (nat_le m.payload (t.geometry.k * t.geometry.shard)) known (le-leb m.payload (t.geometry.k * t.geometry.shard) next.most)

-- bytes that don't differ are the same
pub same_bytes : (a b : List ℕ) → false ≡ not (bytes_eq a b) → a ≡ b
same_bytes a b found = (bytes_eq-Decides a b).0 (not_not (bytes_eq a b) found)
  where
    not_not : (x : Bool) → false ≡ not x → x ≡ true
    not_not true h = refl
    not_not false h = absurd (false≢true h)

-- its fields have the same widths with each index
wide_at : (m : Marker) (index : ℕ) → Widths m → Widths (at_index index m)
wide_at m index wide = record {
  part_to = wide.part_to;
  parts_to = wide.parts_to;
  length_to = wide.length_to;
  payload_to = wide.payload_to;
  array = wide.array;
}

-- the record can be appended
pub appendable : (w : Writer) (t : Table) (m : Marker) (body : CodedPayload) → array_by w ≡ array_of t → IsOfCode t.geometry body.k body.p → Widths m
    → ((index : ℕ) → index < m.n → is_well_formed (at_index index m) ≡ true) → IsNext w t m body → IsAppended w m body
appendable w t m body array code wide formed next =
    let geometry : w.geometry ≡ t.geometry = ap (λ (a : Array). a.geometry) array in
    let indexes : m.n ≡ w.geometry.k + w.geometry.p = next.n ∙ sym (ap (λ (g : Geometry). g.k + g.p) geometry) in
    record {
      entry = record {
        markers = λ index below. IsMarker-from (at_index index m) (wide_at m index wide) (formed index (omega (arith, below, indexes)));
        ours = subst (λ (a : Array). belongs a m ≡ true) (sym array) (ours w t m body next);
        payload = sym next.payload;
      };
      kind = next.kind;
      set_is = next.set_is;
      position_is = next.position_is;
      code = (code.0 ∙ sym (ap (λ (g : Geometry). g.k) geometry), code.1 ∙ sym (ap (λ (g : Geometry). g.p) geometry));
    }
