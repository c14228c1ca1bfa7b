-- Records of an open set's zone, by tests.
use Rattle.std.proofs.Common.{suc, inl, inr, ◌^◌, ◌≡◌, ℕ, ◌+◌, ◌<◌, ◌≤◌, Bool, true, false, cond, List, [], ◌∷◌, ◌++◌, length, refl, sym, ap, subst, ◌∙◌, arith, le-leb, leb-true}
use Rattle.std.specs.Prelude.{◌||◌, ◌==◌, not, max}
use Rattle.std.specs.List.{list_any}
use Rattle.std.proofs.lemmas.Bool.{and_parts, eqb-true, eqb-false, eq-eqb, cases_lt}
use Rattle.std.proofs.Math.Dec.{eqb-suc-zero}
use Rattle.marker_format.specs.declared.kind.Kind.TheVariants.{Part, Put, Cut}
use Rattle.marker_format.specs.declared.marker.Marker.{Marker}
use Rattle.marker_format.specs.Zone.{has_kind, blocks_of, end_from}
use Rattle.store_core.specs.declared.zone.OpenZone.{OpenZone}
use Rattle.store_core.specs.OpenZone.{IsOpenRecord, is_open_record, IsOfSet, with_record}
use Rattle.store_core.specs.Zone.{set_of, index_of, counter_of, next_stamp}
use Rattle.store_core.proofs.SaidLaws.{and_true}

not_true : (b : Bool) → not b ≡ true → b ≡ false
not_true true e = absurd cc
not_true false e = refl

pub open_record-is : (shard : ℕ) (m : Marker) → is_open_record shard m ≡ true → IsOpenRecord shard m
open_record-is shard m e =
    let f = and_parts _ _ e in
    let a = and_parts _ _ f.0 in
    let b = and_parts _ _ a.0 in
    let c = and_parts _ _ b.0 in
    let d = and_parts _ _ c.0 in
    record {
      well = d.0;
      one_source = eqb-true m.k 1 d.1;
      one_parity = eqb-true m.n 2 c.1;
      small = leb-true m.payload shard b.1;
      no_digest = not_true _ a.1;
      first = not_true _ f.1;
    }

pub open_record-true : (shard : ℕ) (m : Marker) → IsOpenRecord shard m → is_open_record shard m ≡ true
open_record-true shard m is =
    and_true (and_true (and_true (and_true (and_true is.well (eq-eqb m.k 1 is.one_source)) (eq-eqb m.n 2 is.one_parity)) (le-leb m.payload shard is.small)) (ap not is.no_digest)) (ap not is.first)

-- ---- one record more

not_zero : (n count : ℕ) → n ≡ suc count → (n == 0) ≡ false
not_zero n count is = ap (λ k. k == 0) is ∙ eqb-suc-zero count

positive : (n : ℕ) → (n == 0) ≡ false → 0 < n
positive n e = elim (cases_lt 0 n) [
  | inl l ↦ l
  | inr l ↦ absurd (eqb-false n 0 e (omega (arith, l)))
]

pub set_added : (ms : List Marker) (m : Marker) (set records : ℕ) → set ≡ set_of ms → records ≡ length ms → cond (records == 0) m.set set ≡ set_of (ms ++ m ∷ [])
set_added [] m set records is count = ap (λ n. cond (n == 0) m.set set) count
set_added (x ∷ ms) m set records is count = ap (λ b. cond b m.set set) (not_zero records (length ms) count) ∙ is

pub index_added : (ms : List Marker) (m : Marker) (index records : ℕ) → index ≡ index_of ms → records ≡ length ms → cond (records == 0) m.index index ≡ index_of (ms ++ m ∷ [])
index_added [] m index records is count = ap (λ n. cond (n == 0) m.index index) count
index_added (x ∷ ms) m index records is count = ap (λ b. cond b m.index index) (not_zero records (length ms) count) ∙ is

pub end_added : (block : ℕ) (ms : List Marker) (m : Marker) → end_from block (ms ++ m ∷ []) ≡ end_from block ms + blocks_of m
end_added block [] m = refl
end_added block (x ∷ ms) m = end_added (block + blocks_of x) ms m

pub stamp_added : (ms : List Marker) (m : Marker) → next_stamp (ms ++ m ∷ []) ≡ max (next_stamp ms) (counter_of m + 1)
stamp_added [] m = omega arith
stamp_added (x ∷ ms) m = ap (max (counter_of x + 1)) (stamp_added ms m) ∙ omega arith

pub any_added : (test : Marker → Bool) (ms : List Marker) (m : Marker) → list_any test (ms ++ m ∷ []) ≡ (list_any test ms || test m)
any_added test [] m = alone (test m)
  where
    alone : (b : Bool) → (b || false) ≡ b
    alone true = refl
    alone false = refl
any_added test (x ∷ ms) m = ap (λ b. test x || b) (any_added test ms m) ∙ regroup (test x) (list_any test ms) (test m)
  where
    regroup : (a b c : Bool) → (a || (b || c)) ≡ ((a || b) || c)
    regroup true b c = refl
    regroup false b c = refl

-- the counter of a record is below the end
pub counter-bound : (m : Marker) → m.stamp < 2 ^ 62 → m.upload < 2 ^ 62 → counter_of m < 2 ^ 62
counter-bound m stamp upload = at_one (has_kind Cut m)
  where
    at_one : (b : Bool) → cond b m.stamp (max m.stamp m.upload) < 2 ^ 62
    at_one true = stamp
    at_one false = omega (arith, stamp, upload)

-- and of a part or a put it is no less than its upload
pub part_counted : (m : Marker) → has_kind Part m ≡ true → m.upload ≤ counter_of m
part_counted m part = subst (λ b. m.upload ≤ cond b m.stamp (max m.stamp m.upload)) (sym (ap (λ n. n == 5) (eqb-true m.kind 2 part))) (omega arith)

pub put_counted : (m : Marker) → has_kind Put m ≡ true → m.upload ≤ counter_of m
put_counted m put = subst (λ b. m.upload ≤ cond b m.stamp (max m.stamp m.upload)) (sym (ap (λ n. n == 5) (eqb-true m.kind 3 put))) (omega arith)

-- a set's place stays, and its first record says it
pub placed_added : (zone : OpenZone) (m : Marker) (blocks : ℕ) → 1 ≤ m.set → m.set < 2 ^ 62 → m.index < 2 → (0 < zone.records → IsOfSet zone) → IsOfSet (with_record zone m blocks)
placed_added zone m blocks from to index was = at_one (zone.records == 0) refl
  where
    at_one : (b : Bool) → (zone.records == 0) ≡ b → IsOfSet (record { set = cond b m.set zone.set; index = cond b m.index zone.index; blocks = zone.blocks + blocks; records = zone.records + 1; is_torn = zone.is_torn })
    at_one true e = record { set_from = from; set_to = to; index = index }
    at_one false e = let old = was (positive zone.records e) in record { set_from = old.set_from; set_to = old.set_to; index = old.index }
