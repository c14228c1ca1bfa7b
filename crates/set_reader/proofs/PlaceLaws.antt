-- Records at their places.
use Rattle.std.proofs.Common.{◌≡◌, ℕ, zero, suc, ◌+◌, ◌*◌, ◌<◌, ◌≤◌, List, [], ◌∷◌, length, get_or, Some, sym, ap, ap₂, ◌∙◌, arith}
use Rattle.std.specs.List.{AllByRecursion}
use Rattle.std.specs.Int.{div_ceil}
use Rattle.std.proofs.lemmas.Bool.{and_parts, eqb-true}
use Rattle.marker_format.specs.declared.marker.Marker.{Marker}
use Rattle.marker_format.specs.Block.{marker_in_block}
use Rattle.marker_format.specs.Zone.{Array, block_at}
use Rattle.marker_format.proofs.BlockLaws.{marker_in_block-again}
use Rattle.set_table.specs.declared.members.Member.{Member}
use Rattle.set_table.specs.Table.{Table}
use Rattle.set_reader.specs.Carriers.{carrier_by, carriers_by, IsOneOf}
use Rattle.set_reader.specs.declared.lengths.Lengths.{Lengths}
use Rattle.set_reader.specs.Record.{HasRecord, IsCut, AreLengths}

-- the member at a place is a carrier
pub one_at : (t : Table) (set : ℕ) (members : List Member) (i : ℕ) (d : Member) → i < length members → AllByRecursion (IsOneOf t set) (carriers_by members) → IsOneOf t set (carrier_by (get_or members i d))
one_at t set [] i d less all = absurd (omega (arith, less))
one_at t set (m ∷ members) zero d less all = all.0
one_at t set (m ∷ members) (suc i) d less all = one_at t set members i d (omega (arith, less)) all.1

-- the zone has the marker's block
pub marker_within : (array : Array) (bytes : List ℕ) (block : ℕ) (m : Marker) → HasRecord array bytes block m → 512 * (block + 1) ≤ length bytes
marker_within array bytes block m has = let w = has.whole.within in omega (arith, w)

-- its payload is cut as its own marker says
cut_of : (array : Array) (bytes : List ℕ) (block : ℕ) (m : Marker) → HasRecord array bytes block m → IsCut array.geometry.k m
cut_of array bytes block m has =
    let own = has.own in
    let k : own.k ≡ array.geometry.k = eqb-true own.k array.geometry.k (and_parts _ _ (and_parts _ _ (and_parts _ _ has.whole.ours).0).0).0 in
    let from = has.whole.marker.k_from in
    let fragment = has.whole.marker.fragment in
    record {
      some = omega (arith, k, from);
      fragment =
          sym (ap (λ (x : Marker). x.fragment) has.same)
          ∙ fragment
          ∙ ap₂ (λ (p k : ℕ). div_ceil p k) (ap (λ (x : Marker). x.payload) has.same) k;
    }

-- the marker that is read there has the record's lengths
pub lengths_are : (array : Array) (bytes : List ℕ) (block : ℕ) (m read : Marker) (lengths : Lengths) → HasRecord array bytes block m → Some read ≡ marker_in_block (block_at bytes block) → lengths ≡ record { fragment = read.fragment; payload = read.payload } → AreLengths array.geometry.k lengths m
lengths_are array bytes block m read lengths has is of_read =
    let own : Some read ≡ Some has.own = is ∙ ap marker_in_block has.whole.stands ∙ marker_in_block-again has.own has.whole.marker in
    let same : read ≡ has.own = some_is read has.own own in
    record {
      fragment = ap (λ (l : Lengths). l.fragment) of_read ∙ ap (λ (m : Marker). m.fragment) same ∙ ap (λ (m : Marker). m.fragment) has.same;
      payload = ap (λ (l : Lengths). l.payload) of_read ∙ ap (λ (m : Marker). m.payload) same ∙ ap (λ (m : Marker). m.payload) has.same;
      cut = cut_of array bytes block m has;
    }
  where
    some_is : (a b : Marker) → Some a ≡ Some b → a ≡ b
    some_is a b e = cc
