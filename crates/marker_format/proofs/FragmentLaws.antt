-- A fragment is read again from its blocks, whatever stands before and behind them.
use Rattle.std.proofs.Common.{◌≡◌, ℕ, inl, inr, zero, suc, ◌+◌, ◌-◌, ◌*◌, ◌<◌, ◌≤◌, min, List, [], ◌++◌, length, take, drop, replicate, arith, refl, sym, ap, ◌∙◌, append_assoc, length-append, length-take, length-drop, take-append-drop}
use Rattle.std.specs.List.{flat_map, range_with_len}
use Rattle.std.proofs.lemmas.List.{take_at, drop_at, take_all, take_min, take-take, take-append-le, drop-append-le, drop-drop, drop-take, nil_from_length, append-nil, length-replicate}
use Rattle.std.proofs.lemmas.Slice.{take-put_mid}
use Rattle.std.proofs.Math.Seq.{take-append-add}
use Rattle.std.proofs.lemmas.Bool.{cases_lt}
use borrow.Rule.Slice.PartMut.{put_mid}
use Rattle.marker_format.specs.Block.{block_of, data_block}
use Rattle.marker_format.specs.Fragment.{blocks_of, blocks_from, fragment_blocks, content_at, fragment_at}

-- ---- blocks

length-data_block : (bytes : List ℕ) → length bytes ≤ 511 → length (data_block bytes) ≡ 512
unfolding block_of
length-data_block bytes short = simp (length-append, length-replicate) (omega arith)

front_short : (bytes : List ℕ) → length (take 511 bytes) ≤ 511
front_short bytes = omega (arith, length-take 511 bytes)

pub length-blocks_from : (count : ℕ) (bytes : List ℕ) → length (blocks_from count bytes) ≡ 512 * count
length-blocks_from zero bytes = refl
length-blocks_from (suc count) bytes =
    omega (arith, length-append (data_block (take 511 bytes)) (blocks_from count (drop 511 bytes)), length-data_block (take 511 bytes) (front_short bytes), length-blocks_from count (drop 511 bytes))

blocks_from-more : (count i : ℕ) (rest : List ℕ) → i < count → blocks_from (count - i) rest ≡ data_block (take 511 rest) ++ blocks_from (count - (i + 1)) (drop 511 rest)
blocks_from-more count i rest below = let left : count - i ≡ suc (count - (i + 1)) = omega arith in ap (λ n. blocks_from n rest) left

pub length-put_mid : (a k : ℕ) (out part : List ℕ) → a + k ≤ length out → length part ≡ k → length (put_mid a k out part) ≡ length out
length-put_mid a k out part within size = simp (length-append, length-take, length-drop) (omega arith)

-- the bytes of the next block
next_piece : (bytes : List ℕ) (from to : ℕ) → to ≡ min (length bytes) (from + 511) → take (to - from) (drop from bytes) ≡ take 511 (drop from bytes)
next_piece bytes from to is =
    let short : to - from ≡ min 511 (length (drop from bytes)) = omega (arith, length-drop from bytes) in
    ap (λ n. take n (drop from bytes)) short ∙ take_min 511 (drop from bytes)

-- with one block more written, the blocks so far and those of the rest are those of the fragment
pub written_more : (bytes out block target : List ℕ) (count i to : ℕ) → i < count → length out ≡ 512 * count → to ≡ min (length bytes) (511 * i + 511) → block ≡ data_block (take (to - 511 * i) (drop (511 * i) bytes))
    → take (512 * i) out ++ blocks_from (count - i) (drop (511 * i) bytes) ≡ target
    → take (512 * (i + 1)) (put_mid (512 * i) 512 out block) ++ blocks_from (count - (i + 1)) (drop (511 * (i + 1)) bytes) ≡ target
written_more bytes out block target count i to below long end is so_far =
    let rest = drop (511 * i) bytes in
    let block_is : block ≡ data_block (take 511 rest) = is ∙ ap data_block (next_piece bytes (511 * i) to end) in
    let size : length block ≡ 512 = ap length block_is ∙ length-data_block (take 511 rest) (front_short rest) in
    let later = λ (l : List ℕ). blocks_from (count - (i + 1)) l in
    let next : drop (511 * (i + 1)) bytes ≡ drop 511 rest = ap (λ n. drop n bytes) (omega arith) ∙ sym (drop-drop 511 (511 * i) bytes) in
    ap (λ (l : List ℕ). l ++ later (drop (511 * (i + 1)) bytes)) (take-put_mid (512 * i) 512 out block (512 * (i + 1)) (omega (arith, size)) (omega (arith, long)))
    ∙ ap (λ (l : List ℕ). (take (512 * i) out ++ block) ++ later l) next
    ∙ append_assoc (take (512 * i) out) block (later (drop 511 rest))
    ∙ ap (λ (l : List ℕ). take (512 * i) out ++ (l ++ later (drop 511 rest))) block_is
    ∙ ap (λ (l : List ℕ). take (512 * i) out ++ l) (sym (blocks_from-more count i rest below))
    ∙ so_far

-- ---- their content

-- `bytes` bytes of the fragment whose blocks stand at the front, so many blocks
abbrev pub content_from : ℕ → List ℕ → ℕ → List ℕ
content_from zero zone bytes = []
content_from (suc count) zone bytes = take (min 511 bytes) (drop 1 zone) ++ content_from count (drop 512 zone) (bytes - 511)

content_from-more : (count i : ℕ) (zone : List ℕ) (bytes : ℕ) → i < count → content_from (count - i) zone bytes ≡ take (min 511 bytes) (drop 1 zone) ++ content_from (count - (i + 1)) (drop 512 zone) (bytes - 511)
content_from-more count i zone bytes below = let left : count - i ≡ suc (count - (i + 1)) = omega arith in ap (λ n. content_from n zone bytes) left

-- with one block more filled, what is filled and what the other blocks have is the fragment
pub filled_more : (zone out part target : List ℕ) (count i to : ℕ) → i < count → 511 * i ≤ length out → to ≡ min (length out) (511 * i + 511)
    → part ≡ take (to - 511 * i) (drop (512 * i + 1) zone) → length part ≡ to - 511 * i
    → take (511 * i) out ++ content_from (count - i) (drop (512 * i) zone) (length out - 511 * i) ≡ target
    → take (511 * (i + 1)) (put_mid (511 * i) (to - 511 * i) out part) ++ content_from (count - (i + 1)) (drop (512 * (i + 1)) zone) (length (put_mid (511 * i) (to - 511 * i) out part) - 511 * (i + 1)) ≡ target
filled_more zone out part target count i to below within end is size so_far =
    let new = put_mid (511 * i) (to - 511 * i) out part in
    let long = length-put_mid (511 * i) (to - 511 * i) out part (omega arith) size in
    let at_end : min (511 * (i + 1)) (length new) ≡ to = omega (arith, long) in
    let front : take (511 * (i + 1)) new ≡ take (511 * i) out ++ part =
    sym (take_min (511 * (i + 1)) new) ∙ ap (λ n. take n new) at_end ∙ take-put_mid (511 * i) (to - 511 * i) out part to (omega arith) within in
    let here = drop (512 * i) zone in
    let part_is : part ≡ take (min 511 (length out - 511 * i)) (drop 1 here) =
    is ∙ ap (λ n. take n (drop (512 * i + 1) zone)) (omega arith) ∙ ap (λ (l : List ℕ). take (min 511 (length out - 511 * i)) l) (sym (drop-drop 1 (512 * i) zone)) in
    let next : drop (512 * (i + 1)) zone ≡ drop 512 here = ap (λ n. drop n zone) (omega arith) ∙ sym (drop-drop 512 (512 * i) zone) in
    let left : length new - 511 * (i + 1) ≡ length out - 511 * i - 511 = omega (arith, long) in
    let later = content_from (count - (i + 1)) (drop 512 here) (length out - 511 * i - 511) in
    ap (λ (l : List ℕ). l ++ content_from (count - (i + 1)) (drop (512 * (i + 1)) zone) (length new - 511 * (i + 1))) front
    ∙ ap (λ (l : List ℕ). (take (511 * i) out ++ part) ++ content_from (count - (i + 1)) l (length new - 511 * (i + 1))) next
    ∙ ap (λ n. (take (511 * i) out ++ part) ++ content_from (count - (i + 1)) (drop 512 here) n) left
    ∙ append_assoc (take (511 * i) out) part later
    ∙ ap (λ (l : List ℕ). take (511 * i) out ++ (l ++ later)) part_is
    ∙ ap (λ (l : List ℕ). take (511 * i) out ++ l) (sym (content_from-more count i here (length out - 511 * i) below))
    ∙ so_far

-- ---- the same, as an array reads it

-- the content of one block that the bytes have whole
length-content_at : (zone : List ℕ) (block : ℕ) → 512 * (block + 1) ≤ length zone → length (content_at zone block) ≡ 511
length-content_at zone block within = omega (arith, length-drop 1 (take 512 (drop (512 * block) zone)), length-take 512 (drop (512 * block) zone), length-drop (512 * block) zone)

content_of : (zone : List ℕ) (block n : ℕ) → n ≤ 511 → take n (content_at zone block) ≡ take n (drop 1 (drop (512 * block) zone))
content_of zone block n small =
    let here = drop (512 * block) zone in
    ap (take n) (drop-take 1 511 here) ∙ take-take n 511 (drop 1 here) small

-- a list that is taken behind a first part of it
take-both : (n size : ℕ) (first rest : List ℕ) → length first ≡ size → take n (first ++ rest) ≡ take (min size n) first ++ take (n - size) rest
take-both n size first rest long = elim (cases_lt n size) [
  | inl within ↦
      let all : min size n ≡ n = omega arith in
      let none : n - size ≡ 0 = omega arith in
      take-append-le n first rest (omega (arith, long))
      ∙ sym (ap (λ k. take k first ++ take (n - size) rest) all ∙ ap (λ k. take n first ++ take k rest) none ∙ append-nil (take n first))
  | inr beyond ↦
      let all : min size n ≡ size = omega arith in
      let split : n ≡ size + (n - size) = omega arith in
      ap (λ k. take k (first ++ rest)) split
      ∙ ap (λ k. take (k + (n - size)) (first ++ rest)) (sym long)
      ∙ take-append-add first rest (n - size)
      ∙ ap (λ (l : List ℕ). l ++ take (n - size) rest) (sym (take_all size first (omega (arith, long))) ∙ sym (ap (λ k. take k first) all))
]

-- so many blocks from this one on have the same content, as an array reads them
pub content_read : (count : ℕ) (zone : List ℕ) (block bytes : ℕ) → 512 * (block + count) ≤ length zone → take bytes (flat_map (content_at zone) (range_with_len block count)) ≡ content_from count (drop (512 * block) zone) bytes
content_read zero zone block zero within = refl
content_read zero zone block (suc bytes) within = refl
content_read (suc count) zone block bytes within =
    let here = drop (512 * block) zone in
    let rest = flat_map (content_at zone) (range_with_len (block + 1) count) in
    let next : drop (512 * (block + 1)) zone ≡ drop 512 here = ap (λ n. drop n zone) (omega arith) ∙ sym (drop-drop 512 (512 * block) zone) in
    take-both bytes 511 (content_at zone block) rest (length-content_at zone block (omega arith))
    ∙ ap (λ (l : List ℕ). l ++ take (bytes - 511) rest) (content_of zone block (min 511 bytes) (omega arith))
    ∙ ap (λ (l : List ℕ). take (min 511 bytes) (drop 1 here) ++ l) (content_read count zone (block + 1) (bytes - 511) (omega arith) ∙ ap (λ (l : List ℕ). content_from count l (bytes - 511)) next)

pub fragment_read : (zone : List ℕ) (block bytes : ℕ) → 512 * (block + blocks_of bytes) ≤ length zone → fragment_at zone block bytes ≡ content_from (blocks_of bytes) (drop (512 * block) zone) bytes
fragment_read zone block bytes within = content_read (blocks_of bytes) zone block bytes within

-- ---- a fragment in a zone

-- what stands behind the blocks isn't read
content_from-front : (count : ℕ) (zone more : List ℕ) (bytes : ℕ) → 512 * count ≤ length zone → content_from count (zone ++ more) bytes ≡ content_from count zone bytes
content_from-front zero zone more bytes within = refl
content_from-front (suc count) zone more bytes within =
    let long = length-drop 1 zone in
    let here : take (min 511 bytes) (drop 1 (zone ++ more)) ≡ take (min 511 bytes) (drop 1 zone) =
    ap (λ (l : List ℕ). take (min 511 bytes) l) (drop-append-le 1 zone more (omega arith)) ∙ take-append-le (min 511 bytes) (drop 1 zone) more (omega arith) in
    let later : content_from count (drop 512 (zone ++ more)) (bytes - 511) ≡ content_from count (drop 512 zone) (bytes - 511) =
    ap (λ (l : List ℕ). content_from count l (bytes - 511)) (drop-append-le 512 zone more (omega arith)) ∙ content_from-front count (drop 512 zone) more (bytes - 511) (omega (arith, length-drop 512 zone)) in
    ap (λ (l : List ℕ). l ++ content_from count (drop 512 (zone ++ more)) (bytes - 511)) here
    ∙ ap (λ (l : List ℕ). take (min 511 bytes) (drop 1 zone) ++ l) later

-- the blocks of a fragment give it
content_again : (count : ℕ) (bytes : List ℕ) → length bytes ≤ 511 * count → content_from count (blocks_from count bytes) (length bytes) ≡ bytes
unfolding block_of
content_again zero bytes short = sym (nil_from_length bytes (omega arith))
content_again (suc count) bytes short =
    let b = take 511 bytes in
    let zeros = replicate (511 - length b) 0 in
    let y = blocks_from count (drop 511 bytes) in
    let here : take (min 511 (length bytes)) (b ++ zeros ++ y) ≡ b =
    ap (λ (l : List ℕ). take (min 511 (length bytes)) l) (append_assoc b zeros y) ∙ take_at b (zeros ++ y) (min 511 (length bytes)) (length-take 511 bytes) in
    let behind : drop 512 (data_block b ++ y) ≡ y = drop_at (data_block b) y 512 (length-data_block b (front_short bytes)) in
    let later : content_from count (drop 512 (data_block b ++ y)) (length bytes - 511) ≡ drop 511 bytes =
    ap (λ (l : List ℕ). content_from count l (length bytes - 511)) behind
    ∙ ap (λ n. content_from count y n) (sym (length-drop 511 bytes))
    ∙ content_again count (drop 511 bytes) (omega (arith, length-drop 511 bytes)) in
    ap (λ (l : List ℕ). l ++ content_from count (drop 512 (data_block b ++ y)) (length bytes - 511)) here
    ∙ ap (λ (l : List ℕ). b ++ l) later
    ∙ take-append-drop 511 bytes

-- a fragment stays where it is, whatever is put behind it
pub fragment_at-front : (zone more : List ℕ) (block bytes : ℕ) → 512 * (block + blocks_of bytes) ≤ length zone → fragment_at (zone ++ more) block bytes ≡ fragment_at zone block bytes
fragment_at-front zone more block bytes within =
    fragment_read (zone ++ more) block bytes (omega (arith, length-append zone more))
    ∙ ap (λ (l : List ℕ). content_from (blocks_of bytes) l bytes) (drop-append-le (512 * block) zone more (omega arith))
    ∙ content_from-front (blocks_of bytes) (drop (512 * block) zone) more bytes (omega (arith, length-drop (512 * block) zone))
    ∙ sym (fragment_read zone block bytes within)

-- a fragment that was put at the end is there
pub fragment_at-end : (zone bytes : List ℕ) (block : ℕ) → length zone ≡ 512 * block → fragment_at (zone ++ fragment_blocks bytes) block (length bytes) ≡ bytes
fragment_at-end zone bytes block end =
    fragment_read (zone ++ fragment_blocks bytes) block (length bytes) (omega (arith, length-append zone (fragment_blocks bytes), length-blocks_from (blocks_of (length bytes)) bytes))
    ∙ ap (λ (l : List ℕ). content_from (blocks_of (length bytes)) l (length bytes)) (drop_at zone (fragment_blocks bytes) (512 * block) end)
    ∙ content_again (blocks_of (length bytes)) bytes (omega arith)

-- the blocks of a fragment, taken out of a zone, have it too
pub fragment_at-part : (zone part : List ℕ) (at block bytes : ℕ) → at ≡ 512 * block → part ≡ take (length part) (drop at zone) → length part ≡ 512 * blocks_of bytes → 512 * (block + blocks_of bytes) ≤ length zone → fragment_at part 0 bytes ≡ fragment_at zone block bytes
fragment_at-part zone part at block bytes place is long within =
    let here = drop (512 * block) zone in
    let count = blocks_of bytes in
    let part_is : part ≡ take (512 * count) here = is ∙ ap (λ n. take n (drop at zone)) long ∙ ap (λ n. take (512 * count) (drop n zone)) place in
    fragment_read part 0 bytes (omega (arith, long))
    ∙ ap (λ (l : List ℕ). content_from count l bytes) part_is
    ∙ sym (content_from-front count (take (512 * count) here) (drop (512 * count) here) bytes (omega (arith, length-take (512 * count) here, length-drop (512 * block) zone)))
    ∙ ap (λ (l : List ℕ). content_from count l bytes) (take-append-drop (512 * count) here)
    ∙ sym (fragment_read zone block bytes within)

-- a record's marker and its fragment were written at the front
pub record_written : (out marker block fragment : List ℕ) (n k : ℕ) → block ≡ marker → length block ≡ 512 → n ≡ 512 + k - 512 → length fragment ≡ n → 512 + k ≤ length out
    → put_mid 512 n (block ++ drop 512 out) fragment ≡ (marker ++ fragment) ++ drop (512 + k) out
record_written out marker block fragment n k is long width size room =
    let front : take 512 (block ++ drop 512 out) ≡ block = take_at block (drop 512 out) 512 long in
    let behind : drop n (drop 512 (block ++ drop 512 out)) ≡ drop (512 + k) out =
    ap (drop n) (drop_at block (drop 512 out) 512 long) ∙ drop-drop n 512 out ∙ ap (λ j. drop j out) (omega arith) in
    ap (λ (l : List ℕ). l ++ (fragment ++ drop n (drop 512 (block ++ drop 512 out)))) front
    ∙ ap (λ (l : List ℕ). block ++ (fragment ++ l)) behind
    ∙ sym (append_assoc block fragment (drop (512 + k) out))
    ∙ ap (λ (l : List ℕ). (l ++ fragment) ++ drop (512 + k) out) is
