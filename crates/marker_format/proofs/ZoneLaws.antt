-- The records that a zone's bytes begin with.
use Rattle.std.proofs.Common.{◌≡◌, ℕ, zero, suc, ◌+◌, ◌-◌, ◌*◌, ◌/◌, ◌≤◌, Bool, true, false, cond, List, [], ◌∷◌, ◌++◌, length, take, drop, Option, Some, None, refl, sym, ap, subst, ◌∙◌, arith}
use Rattle.std.specs.Prelude.{◌&&◌, not, nat_le}
use Rattle.std.specs.List.{last_or}
use Rattle.std.proofs.lemmas.Bool.{and_parts, and_from, and_left, and_right, leb-true, le-leb}
use Rattle.std.proofs.lemmas.List.{append-nil, take_at, take-take, drop-take, length-append, length-take, drop_at}
use Rattle.marker_format.specs.declared.marker.Marker.{Marker}
use Rattle.marker_format.specs.Block.{marker_block, marker_in_block}
use Rattle.marker_format.specs.Zone.{Array, block_at, blocks_of, end_from, belongs, may_stand, IsWhole, Stand, Begin, where_passes, next_at, with_more, records_from, begun, IsPrefix, is_rebuilt, trailer_follows, whole_records, Placed, placed_from, placed_records}
use Rattle.marker_format.specs.Laws.{Fill, MayFollow}
use Rattle.marker_format.proofs.BlockLaws.{marker_in_block-is, marker_in_block-again, length-marker_block}

-- ---- one record

-- its three tests
abbrev is_next : Array → List ℕ → Option Marker → ℕ → Marker → Bool
is_next array bytes before block m = belongs array m && may_stand before m && nat_le (512 * (block + blocks_of m)) (length bytes)

where_passes-is : (test : Marker → Bool) (o : Option Marker) (m : Marker) → where_passes test o ≡ Some m → (o ≡ Some m) × (test m ≡ true)
where_passes-is test None m e = absurd cc
where_passes-is test (Some x) m e = passed (test x) refl e
  where
    passed : (b : Bool) → test x ≡ b → cond b (Some x) None ≡ Some m → (Some x ≡ Some m) × (test m ≡ true)
    passed true is e = (e, ap test (sym (some_is x m e)) ∙ is)
      where
        some_is : (x y : Marker) → cond true (Some x) None ≡ Some y → x ≡ y
        some_is x y e = cc
    passed false is e = absurd cc

pub next_at-is : (array : Array) (bytes : List ℕ) (before : Option Marker) (block : ℕ) (m : Marker) → next_at array bytes before block ≡ Some m → IsWhole array bytes block m × (may_stand before m ≡ true)
unfolding next_at
next_at-is array bytes before block m e =
    let passed = where_passes-is (is_next array bytes before block) (marker_in_block (block_at bytes block)) m e in
    let read = marker_in_block-is (block_at bytes block) m passed.0 in
    let both = and_parts _ _ passed.1 in
    let first = and_parts _ _ both.0 in
    (record { marker = read.0; ours = first.0; stands = read.1; within = leb-true _ _ both.1 }, first.1)

pub next_at-again : (array : Array) (bytes : List ℕ) (before : Option Marker) (block : ℕ) (m : Marker) → IsWhole array bytes block m → may_stand before m ≡ true → next_at array bytes before block ≡ Some m
unfolding next_at
next_at-again array bytes before block m whole may =
    let read : marker_in_block (block_at bytes block) ≡ Some m = ap marker_in_block whole.stands ∙ marker_in_block-again m whole.marker in
    let passed : is_next array bytes before block m ≡ true = and_from _ _ (and_from _ _ whole.ours may) (le-leb _ _ whole.within) in
    ap (where_passes (is_next array bytes before block)) read ∙ ap (λ (b : Bool). cond b (Some m) None) passed

-- ---- the list that is given

pub Stand-records_from : (most : ℕ) (array : Array) (bytes : List ℕ) (before : Option Marker) (block : ℕ) → Stand array bytes before block (records_from most array bytes before block)
unfolding records_from
Stand-records_from zero array bytes before block = tt
Stand-records_from (suc most) array bytes before block = given (next_at array bytes before block) refl (λ m. Stand-records_from most array bytes (Some m) (block + blocks_of m))
  where
    given : (o : Option Marker) → next_at array bytes before block ≡ o → ((m : Marker) → Stand array bytes (Some m) (block + blocks_of m) (records_from most array bytes (Some m) (block + blocks_of m)))
        → Stand array bytes before block (with_more o (λ m. records_from most array bytes (Some m) (block + blocks_of m)))
    given None e more = tt
    given (Some m) e more =
        let is = next_at-is array bytes before block m e in
        (is.0, is.1, more m)

prefix-cons : (m : Marker) (some all : List Marker) → IsPrefix some all → IsPrefix (m ∷ some) (m ∷ all)
prefix-cons m some all p = (p.0, ap (λ (l : List Marker). m ∷ l) p.1)

pub records_from-longest : (most : ℕ) (array : Array) (bytes : List ℕ) (before : Option Marker) (block : ℕ) (ms : List Marker) → Stand array bytes before block ms → length ms ≤ most
    → IsPrefix ms (records_from most array bytes before block)
unfolding records_from
records_from-longest most array bytes before block [] stand few = (records_from most array bytes before block, refl)
records_from-longest zero array bytes before block (m ∷ ms) stand few = absurd (omega (arith, few))
records_from-longest (suc most) array bytes before block (m ∷ ms) stand few =
    let next = next_at-again array bytes before block m stand.0 stand.1 in
    let more = records_from-longest most array bytes (Some m) (block + blocks_of m) ms stand.2 (omega (arith, few)) in
    let cons : with_more (next_at array bytes before block) (λ x. records_from most array bytes (Some x) (block + blocks_of x)) ≡ m ∷ records_from most array bytes (Some m) (block + blocks_of m)
    = ap (λ (o : Option Marker). with_more o (λ x. records_from most array bytes (Some x) (block + blocks_of x))) next in
    let p = prefix-cons m ms (records_from most array bytes (Some m) (block + blocks_of m)) more in
    (p.0, cons ∙ p.1)

-- ---- how far records reach

-- each takes a block at least
pub end_from-length : (block : ℕ) (ms : List Marker) → block + length ms ≤ end_from block ms
end_from-length block [] = omega arith
end_from-length block (m ∷ ms) = omega (arith, end_from-length (block + blocks_of m) ms)

-- they lie within the bytes
pub Stand-within : (array : Array) (bytes : List ℕ) (before : Option Marker) (block : ℕ) (ms : List Marker) → Stand array bytes before block ms → 512 * block ≤ length bytes → 512 * end_from block ms ≤ length bytes
Stand-within array bytes before block [] stand here = here
Stand-within array bytes before block (m ∷ ms) stand here = Stand-within array bytes (Some m) (block + blocks_of m) ms stand.2 stand.0.within

begin-few : (array : Array) (bytes : List ℕ) (ms : List Marker) → Begin array bytes ms → length ms ≤ length bytes / 512
begin-few array bytes ms begin = omega (arith, end_from-length 0 ms, Stand-within array bytes None 0 ms begin (omega arith))

pub Begin-begun : (array : Array) (bytes : List ℕ) → Begin array bytes (begun array bytes)
unfolding begun
Begin-begun array bytes = Stand-records_from (length bytes / 512) array bytes None 0

pub begun-few : (array : Array) (bytes : List ℕ) → 512 * length (begun array bytes) ≤ length bytes
begun-few array bytes = omega (arith, begin-few array bytes (begun array bytes) (Begin-begun array bytes))

pub begun-longest : (array : Array) (bytes : List ℕ) (ms : List Marker) → Begin array bytes ms → IsPrefix ms (begun array bytes)
unfolding begun
begun-longest array bytes ms begin = records_from-longest (length bytes / 512) array bytes None 0 ms begin (begin-few array bytes ms begin)

-- ---- cut zones and longer ones

block_at-take : (n : ℕ) (bytes : List ℕ) (block : ℕ) → 512 * (block + 1) ≤ n → block_at (take n bytes) block ≡ block_at bytes block
block_at-take n bytes block fits =
    let more = n - 512 * block in
    let cut : n ≡ 512 * block + more = omega arith in
    ap (λ (k : ℕ). take 512 (drop (512 * block) (take k bytes))) cut ∙ ap (take 512) (drop-take (512 * block) more bytes) ∙ take-take 512 more (drop (512 * block) bytes) (omega arith)

take-shorter : (n : ℕ) (bytes : List ℕ) → length (take n bytes) ≤ length bytes
take-shorter n bytes = omega (arith, length-take n bytes)

-- what stands in a prefix stands in the whole
pub Stand-more : (n : ℕ) (array : Array) (bytes : List ℕ) (before : Option Marker) (block : ℕ) (ms : List Marker) → Stand array (take n bytes) before block ms → Stand array bytes before block ms
Stand-more n array bytes before block [] stand = tt
Stand-more n array bytes before block (m ∷ ms) stand =
    let whole = stand.0 in
    let within : 512 * (block + blocks_of m) ≤ n = omega (arith, whole.within, length-take n bytes) in (
      record {
        marker = whole.marker;
        ours = whole.ours;
        stands = sym (block_at-take n bytes block (omega (arith, within))) ∙ whole.stands;
        within = omega (arith, whole.within, take-shorter n bytes);
      },
      stand.1,
      Stand-more n array bytes (Some m) (block + blocks_of m) ms stand.2,
    )

-- what stands in the whole and ends in a prefix stands there
pub Stand-less : (n : ℕ) (array : Array) (bytes : List ℕ) (before : Option Marker) (block : ℕ) (ms : List Marker) → Stand array bytes before block ms → 512 * end_from block ms ≤ n → Stand array (take n bytes) before block ms
Stand-less n array bytes before block [] stand ends = tt
Stand-less n array bytes before block (m ∷ ms) stand ends =
    let whole = stand.0 in
    let far : 512 * (block + blocks_of m) ≤ n = omega (arith, ends, end_from-length (block + blocks_of m) ms) in (
      record {
        marker = whole.marker;
        ours = whole.ours;
        stands = block_at-take n bytes block (omega (arith, far)) ∙ whole.stands;
        within = omega (arith, far, whole.within, length-take n bytes);
      },
      stand.1,
      Stand-less n array bytes (Some m) (block + blocks_of m) ms stand.2 ends,
    )

pub begun-cut : (n : ℕ) (array : Array) (bytes : List ℕ) → IsPrefix (begun array (take n bytes)) (begun array bytes)
begun-cut n array bytes = begun-longest array bytes (begun array (take n bytes)) (Stand-more n array bytes None 0 (begun array (take n bytes)) (Begin-begun array (take n bytes)))

pub Begin-cut : (n : ℕ) (array : Array) (bytes : List ℕ) (ms : List Marker) → Begin array bytes ms → 512 * end_from 0 ms ≤ n → Begin array (take n bytes) ms
Begin-cut n array bytes ms begin ends = Stand-less n array bytes None 0 ms begin ends

pub begun-more : (array : Array) (bytes more : List ℕ) → IsPrefix (begun array bytes) (begun array (bytes ++ more))
begun-more array bytes more =
    let cut : take (length bytes) (bytes ++ more) ≡ bytes = take_at bytes more (length bytes) refl in
    subst (λ (xs : List ℕ). IsPrefix (begun array xs) (begun array (bytes ++ more))) cut (begun-cut (length bytes) array (bytes ++ more))

-- ---- records behind whole ones

end_from-append : (block : ℕ) (ms more : List Marker) → end_from block (ms ++ more) ≡ end_from (end_from block ms) more
end_from-append block [] more = refl
end_from-append block (m ∷ ms) more = end_from-append (block + blocks_of m) ms more

pub Stand-append : (array : Array) (bytes : List ℕ) (before : Option Marker) (block : ℕ) (ms more : List Marker) → Stand array bytes before block ms → Stand array bytes (last_or before ms) (end_from block ms) more
    → Stand array bytes before block (ms ++ more)
Stand-append array bytes before block [] more first second = second
Stand-append array bytes before block (m ∷ ms) more first second = (first.0, first.1, Stand-append array bytes (Some m) (block + blocks_of m) ms more first.2 second)

-- records that fill the bytes are all of them
pub begun-full : (array : Array) (bytes : List ℕ) (ms : List Marker) → Begin array bytes ms → 512 * end_from 0 ms ≡ length bytes → begun array bytes ≡ ms
begun-full array bytes ms begin full = ended (begun-longest array bytes ms begin)
  where
    ended : IsPrefix ms (begun array bytes) → begun array bytes ≡ ms
    ended ([], e) = e ∙ append-nil ms
    ended (x ∷ xs, e) =
        let within = Stand-within array bytes None 0 (begun array bytes) (Begin-begun array bytes) (omega arith) in
        let ends : end_from 0 (begun array bytes) ≡ end_from (end_from 0 ms) (x ∷ xs) = ap (end_from 0) e ∙ end_from-append 0 ms (x ∷ xs) in
        absurd (omega (arith, within, ends, full, end_from-length (end_from 0 ms) (x ∷ xs)))

-- the block behind blocks that fill the bytes
block_at-behind : (bytes marker rest : List ℕ) (block : ℕ) → 512 * block ≡ length bytes → length marker ≡ 512 → block_at (bytes ++ (marker ++ rest)) block ≡ marker
block_at-behind bytes marker rest block full len = ap (take 512) (drop_at bytes (marker ++ rest) (512 * block) (sym full)) ∙ take_at marker rest 512 len

pub Fill-appended : (array : Array) (bytes content : List ℕ) (ms : List Marker) (m : Marker) → Fill array bytes ms → MayFollow array ms m → length content ≡ 512 * (blocks_of m - 1) → Fill array (bytes ++ (marker_block m ++ content)) (ms ++ m ∷ [])
Fill-appended array bytes content ms m fill may long =
    let all = bytes ++ (marker_block m ++ content) in
    let block = end_from 0 ms in
    let one = length-marker_block m may.marker in
    let cut : take (length bytes) all ≡ bytes = take_at bytes (marker_block m ++ content) (length bytes) refl in
    let first : Begin array all ms = Stand-more (length bytes) array all None 0 ms (subst (λ (xs : List ℕ). Begin array xs ms) (sym cut) fill.begin) in
    let len : length all ≡ length bytes + 512 * blocks_of m = omega (arith, length-append bytes (marker_block m ++ content), length-append (marker_block m) content, one, long) in
    let whole : IsWhole array all block m = record {
      marker = may.marker;
      ours = may.ours;
      stands = block_at-behind bytes (marker_block m) content block fill.full one;
      within = omega (arith, len, fill.full);
    } in
    record {
      begin = Stand-append array all None 0 ms (m ∷ []) first (whole, may.may, tt);
      full = omega (arith, len, fill.full, end_from-append 0 ms (m ∷ []));
    }

-- ---- what counts in a zone

pub whole_records-first : (array : Array) (bytes : List ℕ) → is_rebuilt (begun array bytes) ≡ false → whole_records array bytes ≡ begun array bytes
unfolding whole_records
whole_records-first array bytes first =
    let ms = begun array bytes in
    ap (λ (b : Bool). cond b [] ms) (and_left (is_rebuilt ms) (not (trailer_follows array bytes ms)) first)

pub whole_records-ended : (array : Array) (bytes : List ℕ) → trailer_follows array bytes (begun array bytes) ≡ true → whole_records array bytes ≡ begun array bytes
unfolding whole_records
whole_records-ended array bytes ends =
    let ms = begun array bytes in
    ap (λ (b : Bool). cond b [] ms) (and_right (is_rebuilt ms) (not (trailer_follows array bytes ms)) (ap not ends))

pub whole_records-none : (array : Array) (bytes : List ℕ) → is_rebuilt (begun array bytes) ≡ true → trailer_follows array bytes (begun array bytes) ≡ false → whole_records array bytes ≡ []
unfolding whole_records
whole_records-none array bytes marked ends =
    let ms = begun array bytes in
    ap (λ (b : Bool). cond b [] ms) (and_from (is_rebuilt ms) (not (trailer_follows array bytes ms)) marked (ap not ends))

-- ---- where the records stand

Stand-placed : (array : Array) (bytes : List ℕ) (before : Option Marker) (block : ℕ) (ms : List Marker) → Stand array bytes before block ms
    → (some more : List Placed) (p : Placed) → placed_from block ms ≡ some ++ (p ∷ more) → IsWhole array bytes p.block p.marker
Stand-placed array bytes before block [] stand [] more p e = absurd cc
Stand-placed array bytes before block [] stand (x ∷ some) more p e = absurd cc
Stand-placed array bytes before block (m ∷ ms) stand [] more p e = subst (λ (q : Placed). IsWhole array bytes q.block q.marker) (first_is _ _ _ _ e) stand.0
  where
    first_is : (x y : Placed) (xs ys : List Placed) → x ∷ xs ≡ y ∷ ys → x ≡ y
    first_is x y xs ys e = cc
Stand-placed array bytes before block (m ∷ ms) stand (x ∷ some) more p e = Stand-placed array bytes (Some m) (block + blocks_of m) ms stand.2 some more p (rest_are _ _ _ _ e)
  where
    rest_are : (x y : Placed) (xs ys : List Placed) → x ∷ xs ≡ y ∷ ys → xs ≡ ys
    rest_are x y xs ys e = cc

-- the whole records are a list that the bytes begin with
Begin-whole : (array : Array) (bytes : List ℕ) → Begin array bytes (whole_records array bytes)
unfolding whole_records
Begin-whole array bytes = either (is_rebuilt (begun array bytes) && not (trailer_follows array bytes (begun array bytes)))
  where
    either : (b : Bool) → Begin array bytes (cond b [] (begun array bytes))
    either true = tt
    either false = Begin-begun array bytes

pub placed-stand : (array : Array) (bytes : List ℕ) (some more : List Placed) (p : Placed) → placed_records array bytes ≡ some ++ (p ∷ more) → IsWhole array bytes p.block p.marker
placed-stand array bytes = Stand-placed array bytes None 0 (whole_records array bytes) (Begin-whole array bytes)
