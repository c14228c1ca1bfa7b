-- A block is read exactly from what it holds.
use Rattle.std.proofs.Common.{◌≡◌, ℕ, ◌+◌, ◌-◌, ◌<◌, ◌≤◌, Bool, true, false, cond, List, [], ◌∷◌, ◌++◌, length, take, drop, replicate, get_or, Option, Some, None, refl, sym, ap, subst, ◌∙◌, arith}
use Rattle.std.specs.Prelude.{◌&&◌, IfNone, MatchOption}
use Rattle.std.specs.Int.{w8}
use Rattle.std.specs.Str.{bytes_eq}
use Rattle.std.proofs.lemmas.Bool.{and_parts, and_from}
use Rattle.std.proofs.lemmas.List.{take_at, drop_at, drop-drop, take-append-drop, length-append, length-take, length-drop, length-replicate}
use Rattle.std.proofs.lemmas.Slice.{take-put_mid}
use Rattle.std.proofs.lemmas.Slice.Eq.{bytes_eq-Decides}
use borrow.Rule.Slice.PartMut.{put_mid}
use Rattle.smore_base.specs.BigEndian.{big_endian, IsWritten}
use Rattle.smore_base.proofs.BigEndianLaws.{byte_is}
use Rattle.marker_format.specs.declared.tag.Tag.{Tag}
use Rattle.marker_format.specs.declared.tag.Tag.TheVariants as tags
use Rattle.marker_format.specs.declared.marker.Marker.{Marker}
use Rattle.marker_format.specs.Tag.{code_of}
use Rattle.marker_format.specs.Frame.{AreZeros}
use Rattle.marker_format.specs.Marker.{IsMarker, spelling_of, marker_at, is_marker}
use Rattle.marker_format.specs.Block.{block_of, marker_block, marker_in_block}
use Rattle.marker_format.proofs.MarkerLaws.{zeros_are, are_zeros, marker_at-again, length-spelling_of}
use Rattle.marker_format.proofs.MarkerRules.{is_marker-true, IsMarker-true}

code_small : (tag : Tag) → code_of tag < 256
code_small tags.Marker = omega arith
code_small tags.Data = omega arith
code_small tags.Foot = omega arith
code_small tags.Label = omega arith

-- ---- writing

length-put_mid : (at many : ℕ) (xs ys : List ℕ) → length ys ≡ many → at + many ≤ length xs → length (put_mid at many xs ys) ≡ length xs
length-put_mid at many xs ys same fits =
    omega (arith, length-append (take at xs) (ys ++ drop many (drop at xs)), length-append ys (drop many (drop at xs)), length-take at xs, length-drop many (drop at xs), length-drop at xs)

-- a tag, a text and no more than zeros
pub block_of-parts : (tag : Tag) (code at left : ℕ) (old first text start new : List ℕ) → IsWritten 0 at (big_endian w8 code) old first → code ≡ code_of tag
    → new ≡ start ++ replicate left 0 → start ≡ take at first ++ text → left ≡ 511 - length text → new ≡ block_of tag text
unfolding block_of
block_of-parts tag code at left old first text start new written code-is e start-is left-is =
    let tagged : take at first ≡ code_of tag ∷ [] = written.prefix ∙ byte_is code (omega (arith, code-is, code_small tag)) ∙ ap (λ (n : ℕ). n ∷ []) code-is in
    e ∙ (λ i. start-is i ++ replicate (left-is i) 0) ∙ ap (λ (l : List ℕ). (l ++ text) ++ replicate (511 - length text) 0) tagged

-- a text that was written in the middle
pub take-middle : (at n : ℕ) (first text spelled : List ℕ) → text ≡ spelled → length spelled ≡ n → at ≤ length first → take (at + n) (put_mid at (at + n - at) first text) ≡ take at first ++ spelled
take-middle at n first text spelled is len fits = take-put_mid at (at + n - at) first text (at + n) (omega (arith, ap length is)) fits ∙ ap (λ (l : List ℕ). take at first ++ l) is

pub zeros_left : (at n : ℕ) (first text spelled : List ℕ) → text ≡ spelled → length spelled ≡ n → length first ≡ 512 → at ≡ 1 → n ≤ 511 → length (put_mid at (at + n - at) first text) - (at + n) ≡ 511 - length spelled
zeros_left at n first text spelled is len long one short =
    omega (arith, length-put_mid at (at + n - at) first text (omega (arith, ap length is, len)) (omega arith), long, len)

-- ---- reading

first_byte : (bytes : List ℕ) → 0 < length bytes → bytes ≡ get_or bytes 0 0 ∷ drop 1 bytes
first_byte [] h = absurd (omega arith)
first_byte (x ∷ xs) h = refl

pub text_found : (tag : Tag) (block : List ℕ) (n : ℕ) → length block ≡ 512 → get_or block 0 0 ≡ code_of tag → AreZeros (drop (1 + n) block) → n ≤ 511
    → (length (take n (drop 1 block)) ≡ n) × (block ≡ block_of tag (take n (drop 1 block)))
unfolding block_of
text_found tag block n long tagged zeros short =
    let text = take n (drop 1 block) in
    let len : length text ≡ n = omega (arith, length-take n (drop 1 block), length-drop 1 block) in
    let behind : drop n (drop 1 block) ≡ replicate (511 - length text) 0 = drop-drop n 1 block ∙ zeros_are (drop (1 + n) block) zeros ∙ ap (λ (k : ℕ). replicate k 0) (omega (arith, length-drop (1 + n) block)) in
    (len, first_byte block (omega arith) ∙ (λ i. tagged i ∷ (sym (take-append-drop n (drop 1 block))) i) ∙ ap (λ (l : List ℕ). code_of tag ∷ (text ++ l)) behind)

-- what a block with a text is like
pub record HasText (tag : Tag) (block text : List ℕ) (n : ℕ) : Type 0 where
  pub long : length block ≡ 512
  pub tagged : get_or block 0 0 ≡ code_of tag
  pub zeros : AreZeros (drop (1 + n) block)
  pub text_is : take n (drop 1 block) ≡ text

pub has_text : (tag : Tag) (block text : List ℕ) (n : ℕ) → block ≡ block_of tag text → length text ≡ n → n ≤ 511 → HasText tag block text n
unfolding block_of
has_text tag block text n e len short =
    let zeros = replicate (511 - length text) 0 in
    let rest : drop 1 block ≡ text ++ zeros = ap (drop 1) e in
    record {
      long = ap length e ∙ omega (arith, length-append text zeros, length-replicate {A = ℕ} (511 - length text) 0);
      tagged = ap (λ (l : List ℕ). get_or l 0 0) e;
      zeros = subst AreZeros (sym (sym (drop-drop n 1 block) ∙ ap (drop n) rest ∙ drop_at text zeros n len)) (are_zeros (511 - length text));
      text_is = ap (take n) rest ∙ take_at text zeros n len;
    }

pub same_text : (tag : Tag) (block a b : List ℕ) (n : ℕ) → block ≡ block_of tag a → block ≡ block_of tag b → length a ≡ n → length b ≡ n → n ≤ 511 → a ≡ b
same_text tag block a b n ea eb la lb short = sym (has_text tag block a n ea la short).text_is ∙ (has_text tag block b n eb lb short).text_is

pub IfNone-map : {A : Type 0} {P Q : Type 0} (o : Option A) → IfNone o P → (P → Q) → IfNone o Q
IfNone-map None h f = f h
IfNone-map (Some x) h f = tt

-- ---- markers in blocks

if_some : {A : Type 0} (b : Bool) (x y : A) → cond b (Some x) None ≡ Some y → (b ≡ true) × (x ≡ y)
if_some true x y e = (refl, cc)
if_some false x y e = absurd cc

pub marker_in_block-is : (block : List ℕ) (m : Marker) → marker_in_block block ≡ Some m → IsMarker m × (block ≡ marker_block m)
unfolding marker_in_block
marker_in_block-is block m e =
    let read = marker_at (take 328 (drop 1 block)) in
    let g = if_some (is_marker read && bytes_eq block (marker_block read)) read m e in
    let both = and_parts (is_marker read) (bytes_eq block (marker_block read)) g.0 in
    subst (λ (x : Marker). IsMarker x × (block ≡ marker_block x)) g.1 (IsMarker-true read both.0, (bytes_eq-Decides block (marker_block read)).0 both.1)

pub marker_in_block-again : (m : Marker) → IsMarker m → marker_in_block (marker_block m) ≡ Some m
unfolding marker_in_block
marker_in_block-again m is =
    let block = marker_block m in
    let text : take 328 (drop 1 block) ≡ spelling_of m = (has_text tags.Marker block (spelling_of m) 328 refl (length-spelling_of m is) (omega arith)).text_is in
    let read : marker_at (take 328 (drop 1 block)) ≡ m = ap marker_at text ∙ marker_at-again m is in
    ap (λ (x : Marker). cond (is_marker x && bytes_eq block (marker_block x)) (Some x) None) read
    ∙ ap (λ (b : Bool). cond b (Some m) None) (and_from (is_marker m) (bytes_eq block block) (is_marker-true m is) ((bytes_eq-Decides block block).1 refl))

-- what reads a block exactly, gives the marker that it holds
pub marker_in_block-exact : (block : List ℕ) (o : Option Marker) → MatchOption o ((m : Marker) → IsMarker m → block ≡ marker_block m → ⊥) (λ m. IsMarker m × (block ≡ marker_block m)) → o ≡ marker_in_block block
marker_in_block-exact block (Some m) h = sym (ap marker_in_block h.1 ∙ marker_in_block-again m h.0)
marker_in_block-exact block None h = none_is (marker_in_block block) (λ m e. let read = marker_in_block-is block m e in h m read.0 read.1)
  where
    none_is : (o : Option Marker) → ((m : Marker) → o ≡ Some m → ⊥) → None ≡ o
    none_is None h = refl
    none_is (Some m) h = absurd (h m refl)

pub length-marker_block : (m : Marker) → IsMarker m → length (marker_block m) ≡ 512
length-marker_block m is = (has_text tags.Marker (marker_block m) (spelling_of m) 328 refl (length-spelling_of m is) (omega arith)).long
