-- The whole records of a zone, and those of a zone that holds a set.
use Rattle.std.proofs.Common.{◌≡◌, ℕ, ◌+◌, ◌*◌, ◌≤◌, Bool, true, false, cond, List, [], ◌∷◌, ◌++◌, length, Option, Some, None, refl, sym, ap, subst, ◌∙◌, arith}
use Rattle.std.specs.Prelude.{◌&&◌, ◌||◌, ◌==◌, not}
use Rattle.std.specs.List.{last_or, list_any}
use Rattle.std.proofs.lemmas.Bool.{and_parts, eqb-true, leb-true}
use Rattle.std.proofs.lemmas.List.Folds.{list_any-append}
use Rattle.marker_format.specs.declared.kind.Kind.TheVariants.{Head, Ready, Digest, Trailer}
use Rattle.marker_format.specs.declared.marker.Marker.{Marker}
use Rattle.marker_format.specs.Zone.{Array, blocks_of, end_from, has_kind, shares_zone, keeps_digest, may_stand, IsWhole, Stand, Begin, begun, is_rebuilt, trailer_follows, whole_records}
use Rattle.marker_format.proofs.MarkerRules.{is_well_formed-true}
use Rattle.marker_format.proofs.ZoneLaws.{Begin-begun}
use Rattle.store_core.specs.declared.zone_records.ZoneRecords.{ZoneRecords}
use Rattle.store_core.specs.OpenZone.{IsOpenRecord}
use Rattle.store_core.specs.Opening.{HoldsSet}
use Rattle.store_core.specs.ZoneRecords.{HasRead, CanBeAdded}

pub whole_begin : (array : Array) (bytes : List ℕ) → Begin array bytes (whole_records array bytes)
unfolding whole_records
whole_begin array bytes = at_one (is_rebuilt (begun array bytes) && not (trailer_follows array bytes (begun array bytes)))
  where
    at_one : (b : Bool) → Begin array bytes (cond b [] (begun array bytes))
    at_one true = tt
    at_one false = Begin-begun array bytes

-- one of them, behind those before it
stand_at : (array : Array) (bytes : List ℕ) (before : Option Marker) (block : ℕ) (ms : List Marker) (m : Marker) (rest : List Marker) → Stand array bytes before block (ms ++ m ∷ rest) → IsWhole array bytes (end_from block ms) m × (may_stand (last_or before ms) m ≡ true)
stand_at array bytes before block [] m rest stand = (stand.0, stand.1)
stand_at array bytes before block (x ∷ ms) m rest stand = stand_at array bytes (Some x) (block + blocks_of x) ms m rest stand.2

-- ---- what may stand in a zone that holds a set

-- the head of a rebuilt zone
abbrev pub is_rebuilt_head : Marker → Bool
is_rebuilt_head m = has_kind Head m && (m.part == 1)

-- among the records are none of a digest, and no head of a rebuilt zone
pub record AreOpen (ms : List Marker) : Type 0 where
  pub no_digest : list_any (has_kind Digest) ms ≡ false
  pub first : list_any is_rebuilt_head ms ≡ false

or_false : (a b : Bool) → (a || b) ≡ false → (a ≡ false) × (b ≡ false)
or_false true b e = absurd cc
or_false false b e = (refl, e)

either_false : (a b : Bool) → a ≡ false → b ≡ false → (a || b) ≡ false
either_false a b e f = ap (λ x. x || b) e ∙ f

pub open_more : (shard : ℕ) (ms : List Marker) (m : Marker) → AreOpen ms → IsOpenRecord shard m → AreOpen (ms ++ m ∷ [])
open_more shard ms m it one = record {
  no_digest = list_any-append (has_kind Digest) ms (m ∷ []) ∙ either_false _ _ it.no_digest (either_false _ _ one.no_digest refl);
  first = list_any-append is_rebuilt_head ms (m ∷ []) ∙ either_false _ _ it.first (either_false _ _ one.first refl);
}

-- a set's records are held where the whole ones are such, and a ready record is among them
pub holds_set : (array : Array) (bytes : List ℕ) (ms : List Marker) → whole_records array bytes ≡ ms → AreOpen ms → list_any (has_kind Ready) ms ≡ true → HoldsSet array bytes
holds_set array bytes ms is it ready = record {
  ready = ap (list_any (has_kind Ready)) is ∙ ready;
  no_digest = ap (list_any (has_kind Digest)) is ∙ it.no_digest;
  first = ap is_rebuilt is ∙ at_one ms (subst (Begin array bytes) is (whole_begin array bytes)) it;
}
  where
    at_one : (ms : List Marker) → Begin array bytes ms → AreOpen ms → is_rebuilt ms ≡ false
    at_one [] begin it = refl
    at_one (m ∷ ms) begin it = sym (ap (λ b. b && (m.part == 1)) begin.1) ∙ (or_false _ _ it.first).0

-- a record of such a zone that comes next can be added
module _ (array : Array) (one : array.geometry.k ≡ 1) (two : array.geometry.p ≡ 1) (bytes : List ℕ) (holds : HoldsSet array bytes) (ms rest : List Marker) (m : Marker) (is : whole_records array bytes ≡ ms ++ m ∷ rest) where
  here : IsWhole array bytes (end_from 0 ms) m × (may_stand (last_or None ms) m ≡ true)
  here = stand_at array bytes None 0 ms m rest (subst (Begin array bytes) is (whole_begin array bytes))

  no_digest : has_kind Digest m ≡ false
  no_digest = (or_false _ _ (or_false _ _ (sym (list_any-append (has_kind Digest) ms (m ∷ rest)) ∙ sym (ap (list_any (has_kind Digest)) is) ∙ holds.no_digest)).1).0

  no_rebuilt : is_rebuilt_head m ≡ false
  no_rebuilt = at_one ms is here.1
    where
      no_and : (a b : Bool) → b ≡ false → (a && b) ≡ false
      no_and true b e = e
      no_and false b e = refl

      not_true : (b : Bool) → not b ≡ true → b ≡ false
      not_true true e = absurd cc
      not_true false e = refl

      later : (before : Marker) → may_stand (Some before) m ≡ true → is_rebuilt_head m ≡ false
      later before may =
          let kinds : (not (has_kind Head m) && not (has_kind Trailer m)) ≡ true =
          (and_parts (not (has_kind Head m) && not (has_kind Trailer m)) (m.position == before.position + 1) (and_parts _ (shares_zone before m) (and_parts _ (keeps_digest before m) may).0).0).0 in
          ap (λ b. b && (m.part == 1)) (not_true (has_kind Head m) (and_parts (not (has_kind Head m)) (not (has_kind Trailer m)) kinds).0)

      last_some : (x : Marker) (ms : List Marker) → (y : Marker) × (last_or (Some x) ms ≡ Some y)
      last_some x [] = (x, refl)
      last_some x (y ∷ ms) = last_some y ms

      at_one : (ms : List Marker) → whole_records array bytes ≡ ms ++ m ∷ rest → may_stand (last_or None ms) m ≡ true → is_rebuilt_head m ≡ false
      at_one [] is may = no_and _ _ (sym (ap is_rebuilt is) ∙ holds.first)
      at_one (x ∷ ms) is may = let before = last_some x ms in later before.0 (sym (ap (λ o. may_stand o m) before.1) ∙ may)

  pub can_be_added : (r : ZoneRecords) → HasRead r ms → r.shard ≡ array.geometry.shard → length bytes ≤ 512 * r.blocks → CanBeAdded r m
  can_be_added r read shard fits =
      let ours = and_parts _ _ here.0.ours in
      let id = and_parts _ _ ours.0 in
      let code = and_parts _ _ id.0 in
      let small : m.payload ≤ array.geometry.k * array.geometry.shard = leb-true m.payload _ ours.1 in
      record {
        fitting = record {
          well = is_well_formed-true m here.0.marker;
          one_source = eqb-true m.k array.geometry.k code.0 ∙ one;
          one_parity = eqb-true m.n (array.geometry.k + array.geometry.p) code.1 ∙ omega (arith, one, two);
          small = subst (λ n. m.payload ≤ n) (ap (λ n. n * array.geometry.shard) one ∙ omega (arith, shard)) small;
          no_digest = no_digest;
          first = no_rebuilt;
        };
        room = omega (arith, here.0.within, fits, read.blocks);
      }
