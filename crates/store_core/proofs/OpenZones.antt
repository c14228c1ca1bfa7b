-- Zones to which records can be added: their records fill them, and one more is added to them.
use Rattle.std.proofs.Common.{◌≡◌, ◌⊎◌, inl, inr, ℕ, ◌+◌, ◌-◌, ◌*◌, ◌<◌, Bool, true, false, cond, List, [], ◌∷◌, ◌++◌, length, take, Option, Some, None, refl, sym, ap, subst, ◌∙◌, arith}
use Rattle.std.specs.Prelude.{◌&&◌, ◌||◌, ◌==◌, not}
use Rattle.std.specs.Int.{div_ceil}
use Rattle.std.specs.List.{last_or, list_any}
use Rattle.std.proofs.Math.ListN.{drop_of_length-le}
use Rattle.std.proofs.lemmas.Bool.{and_parts, eqb-true, eq-eqb}
use Rattle.marker_format.specs.declared.kind.Kind.TheVariants.{Head, Part, Put, Delete, Cut, Ready, Digest, Snapshot, Trailer}
use Rattle.marker_format.specs.declared.kind.Kind.{Kind}
use Rattle.marker_format.specs.declared.marker.Marker.{Marker}
use Rattle.marker_format.specs.Kind.{code_of, kind_of, most_position}
use Rattle.marker_format.specs.Marker.{IsMarker}
use Rattle.marker_format.specs.Block.{marker_in_block}
use Rattle.marker_format.specs.Zone.{Array, block_at, blocks_of, end_from, has_kind, belongs, shares_zone, keeps_digest, may_stand, Stand, begun, foot_follows, is_trailer, trailer_follows, is_rebuilt, whole_records}
use Rattle.marker_format.specs.Laws.{Fill, MayFollow}
use Rattle.marker_format.proofs.BlockLaws.{marker_in_block-is, length-marker_block}
use Rattle.marker_format.proofs.ZoneLaws.{Begin-begun, begun-full, Fill-appended, whole_records-first}
use Rattle.marker_format.specs.Fragment.{fragment_blocks, record_bytes}
use Rattle.store_core.specs.Opening.{IsOpenZone}
use Rattle.marker_format.proofs.FragmentLaws.{length-blocks_from}
use Rattle.store_core.proofs.SaidLaws.{and_true}
use Rattle.store_core.proofs.OpenRecords.{any_added}

-- ---- nothing stands behind its records

no_marker : marker_in_block [] ≡ None
no_marker = at_one (marker_in_block []) refl
  where
    at_one : (o : Option Marker) → marker_in_block [] ≡ o → o ≡ None
    at_one None e = refl
    at_one (Some m) e = let is = marker_in_block-is [] m e in absurd (omega (arith, ap length is.1, length-marker_block m is.0))

no_trailer : (array : Array) (bytes : List ℕ) (ms : List Marker) → 512 * end_from 0 ms ≡ length bytes → trailer_follows array bytes ms ≡ false
unfolding trailer_follows
no_trailer array bytes ms full =
    let block = end_from 0 ms + cond (foot_follows bytes ms) 1 0 in
    let none : block_at bytes block ≡ [] = ap (λ (l : List ℕ). take 512 l) (drop_of_length-le bytes {i = 512 * block} (omega (arith, full))) in
    ap (is_trailer array (length ms) (last_or None ms)) (ap marker_in_block none ∙ no_marker) ∙ at_one (last_or None ms)
  where
    at_one : (o : Option Marker) → is_trailer array (length ms) o None ≡ false
    at_one None = refl
    at_one (Some last) = refl

whole_cases : (array : Array) (bytes : List ℕ) → ((is_rebuilt (begun array bytes) && not (trailer_follows array bytes (begun array bytes))) ≡ false) × (whole_records array bytes ≡ begun array bytes) ⊎ (whole_records array bytes ≡ [])
unfolding whole_records
whole_cases array bytes = at_one (is_rebuilt (begun array bytes) && not (trailer_follows array bytes (begun array bytes))) refl
  where
    at_one : (b : Bool) → (is_rebuilt (begun array bytes) && not (trailer_follows array bytes (begun array bytes))) ≡ b → ((b ≡ false) × (cond b [] (begun array bytes) ≡ begun array bytes)) ⊎ (cond b [] (begun array bytes) ≡ [])
    at_one true e = inr refl
    at_one false e = inl (refl, refl)

-- some are there, and they fill it
pub record IsFilled (array : Array) (bytes : List ℕ) (ms : List Marker) : Type 0 where
  pub fill : Fill array bytes ms
  pub first : is_rebuilt ms ≡ false

both_false : (a b : Bool) → (a && not b) ≡ false → b ≡ false → a ≡ false
both_false true b e f = absurd cc
both_false false b e f = refl

pub open_filled : (array : Array) (bytes : List ℕ) → IsOpenZone array bytes → IsFilled array bytes (whole_records array bytes)
open_filled array bytes it = at_one (whole_cases array bytes)
  where
    at_one : (((is_rebuilt (begun array bytes) && not (trailer_follows array bytes (begun array bytes))) ≡ false) × (whole_records array bytes ≡ begun array bytes)) ⊎ (whole_records array bytes ≡ []) → IsFilled array bytes (whole_records array bytes)
    at_one (inr none) = let no : list_any (has_kind Ready) [] ≡ true = sym (ap (list_any (has_kind Ready)) none) ∙ it.ready in absurd cc
    at_one (inl some) =
        let is = some.1 in
        let full : 512 * end_from 0 (begun array bytes) ≡ length bytes = ap (λ (l : List Marker). 512 * end_from 0 l) (sym is) ∙ it.full in
        record {
          fill = subst (Fill array bytes) (sym is) (record { begin = Begin-begun array bytes; full = full });
          first = ap is_rebuilt is ∙ both_false (is_rebuilt (begun array bytes)) (trailer_follows array bytes (begun array bytes)) some.0 (no_trailer array bytes (begun array bytes) full);
        }

pub filled_whole : (array : Array) (bytes : List ℕ) (ms : List Marker) → IsFilled array bytes ms → whole_records array bytes ≡ ms
filled_whole array bytes ms it =
    let is = begun-full array bytes ms it.fill.begin it.fill.full in
    whole_records-first array bytes (ap is_rebuilt is ∙ it.first) ∙ is

-- ---- one record more

still_first : (ms : List Marker) (m : Marker) → is_rebuilt ms ≡ false → 0 < length ms → is_rebuilt (ms ++ m ∷ []) ≡ false
still_first [] m first some = absurd (omega (arith, some))
still_first (x ∷ ms) m first some = first

one_less : (n : ℕ) → 512 * n ≡ 512 * ((1 + n) - 1)
one_less n = omega arith

pub length-record : (m : Marker) (fragment : List ℕ) → IsMarker m → m.fragment ≡ length fragment → length (fragment_blocks fragment) ≡ 512 * (blocks_of m - 1)
length-record m fragment fits size = length-blocks_from (div_ceil (length fragment) 511) fragment ∙ ap (λ n. 512 * div_ceil n 511) (sym size) ∙ one_less (div_ceil m.fragment 511)

pub filled_added : (array : Array) (bytes : List ℕ) (ms : List Marker) (m : Marker) (fragment : List ℕ) → IsFilled array bytes ms → 0 < length ms → MayFollow array ms m → m.fragment ≡ length fragment → IsFilled array (bytes ++ record_bytes m fragment) (ms ++ m ∷ [])
filled_added array bytes ms m fragment it some may size = record {
  fill = Fill-appended array bytes (fragment_blocks fragment) ms m it.fill may (length-record m fragment may.marker size);
  first = still_first ms m it.first some;
}

-- it can still be added to
pub open_added : (array : Array) (bytes : List ℕ) (ms : List Marker) (m : Marker) → IsFilled array bytes (ms ++ m ∷ []) → list_any (has_kind Ready) ms ≡ true → list_any (has_kind Digest) ms ≡ false → has_kind Digest m ≡ false → IsOpenZone array bytes
open_added array bytes ms m it ready no_digest other =
    let is = filled_whole array bytes (ms ++ m ∷ []) it in
    record {
      full = ap (λ (l : List Marker). 512 * end_from 0 l) is ∙ it.fill.full;
      ready = ap (list_any (has_kind Ready)) is ∙ any_added (has_kind Ready) ms m ∙ ap (λ b. b || has_kind Ready m) ready;
      no_digest = ap (list_any (has_kind Digest)) is ∙ any_added (has_kind Digest) ms m ∙ ap (λ b. b || has_kind Digest m) no_digest ∙ other;
    }

-- ---- where the last of them stands

-- the last record, behind this one
abbrev pub last_behind : Marker → List Marker → Marker
last_behind before [] = before
last_behind before (m ∷ ms) = last_behind m ms

last_is : (before : Marker) (ms : List Marker) → last_or (Some before) ms ≡ Some (last_behind before ms)
last_is before [] = refl
last_is before (m ∷ ms) = last_is m ms

-- it stands behind so many records, in the same zone
pub record StandsBehind (before : Marker) (count : ℕ) (last : Marker) : Type 0 where
  pub position : last.position ≡ before.position + count
  pub set : last.set ≡ before.set
  pub index : last.index ≡ before.index

last_stands : (array : Array) (bytes : List ℕ) (before : Marker) (block : ℕ) (ms : List Marker) → Stand array bytes (Some before) block ms → StandsBehind before (length ms) (last_behind before ms)
last_stands array bytes before block [] stand = record { position = omega arith; set = refl; index = refl }
last_stands array bytes before block (m ∷ ms) stand =
    let later = last_stands array bytes m (block + blocks_of m) ms stand.2 in
    let rules = and_parts _ _ (and_parts _ _ stand.1).0 in
    let zone = and_parts (m.set == before.set) (m.index == before.index) rules.1 in
    let next = eqb-true m.position (before.position + 1) (and_parts _ _ rules.0).1 in
    record {
      position = omega (arith, later.position, next);
      set = later.set ∙ eqb-true m.set before.set zone.0;
      index = later.index ∙ eqb-true m.index before.index zone.1;
    }

own_kind : (k : Kind) → kind_of (code_of k) ≡ Some k
own_kind Head = refl
own_kind Part = refl
own_kind Put = refl
own_kind Delete = refl
own_kind Cut = refl
own_kind Ready = refl
own_kind Digest = refl
own_kind Snapshot = refl
own_kind Trailer = refl

-- a head has the first position
head_first : {head : Marker} (fits : IsMarker head) → has_kind Head head ≡ true → head.position ≡ 0
head_first {head} fits is =
    let kind : Some fits.kind ≡ Some Head = sym (own_kind fits.kind) ∙ ap kind_of (sym fits.coded ∙ eqb-true head.kind 1 is) in
    let same : fits.kind ≡ Head = cc in
    let most : most_position fits.kind ≡ 0 = ap most_position same in
    omega (arith, fits.position_to, most)

not_any : (test : Marker → Bool) (before : Marker) (ms : List Marker) → list_any test (before ∷ ms) ≡ false → test (last_behind before ms) ≡ false
not_any test before [] e = at_one (test before) e
  where
    at_one : (b : Bool) → (b || false) ≡ false → b ≡ false
    at_one true is = is
    at_one false is = refl
not_any test before (m ∷ ms) e = not_any test m ms (at_one (test before) e)
  where
    at_one : (b : Bool) → (b || list_any test (m ∷ ms)) ≡ false → list_any test (m ∷ ms) ≡ false
    at_one true is = absurd cc
    at_one false is = is

-- a record of another kind, of the same zone and with the position that is next, may stand behind them
pub may_follow : (array : Array) (bytes : List ℕ) (head : Marker) (rest : List Marker) (m : Marker) → Fill array bytes (head ∷ rest) → list_any (has_kind Digest) (head ∷ rest) ≡ false
    → IsMarker m → belongs array m ≡ true → has_kind Head m ≡ false → has_kind Trailer m ≡ false → has_kind Digest m ≡ false
    → m.set ≡ head.set → m.index ≡ head.index → m.position ≡ length (head ∷ rest) → MayFollow array (head ∷ rest) m
may_follow array bytes head rest m fill no_digest fits ours no_head no_trail other set index position = record {
  marker = fits;
  ours = ours;
  may = ap (λ o. may_stand o m) (last_is head rest) ∙ stands;
}
  where
    behind : StandsBehind head (length rest) (last_behind head rest)
    behind = last_stands array bytes head _ rest fill.begin.2

    stands : may_stand (Some (last_behind head rest)) m ≡ true
    stands =
        let zone_is : shares_zone (last_behind head rest) m ≡ true = and_true (eq-eqb m.set (last_behind head rest).set (set ∙ sym behind.set)) (eq-eqb m.index (last_behind head rest).index (index ∙ sym behind.index)) in
        let next : m.position ≡ (last_behind head rest).position + 1 = omega (arith, position, behind.position, head_first fill.begin.0.marker fill.begin.1) in
        let digest : keeps_digest (last_behind head rest) m ≡ true =
        ap (λ b. cond b (has_kind Digest m && (m.part == (last_behind head rest).part + 1) && (m.parts == (last_behind head rest).parts)) (cond (has_kind Digest m) (m.part == 0) true)) (not_any (has_kind Digest) head rest no_digest)
        ∙ ap (λ b. cond b (m.part == 0) true) other in
        and_true (and_true (and_true (and_true (ap not no_head) (ap not no_trail)) (eq-eqb m.position _ next)) zone_is) digest
