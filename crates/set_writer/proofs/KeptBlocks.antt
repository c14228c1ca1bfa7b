-- The blocks of a zone of a set: which of them spell a trailer or a foot.
use Rattle.std.proofs.Common.{◌≡◌, inl, inr, ℕ, zero, suc, ◌+◌, ◌-◌, ◌*◌, ◌<◌, ◌≤◌, true, false, cond, List, [], ◌∷◌, ◌++◌, length, take, drop, get_or, Option, Some, None, refl, sym, ap, subst, ◌∙◌, append_assoc, arith, length-append, length-take, length-drop}
use Rattle.std.specs.List.{AllByRecursion, last_or}
use Rattle.std.proofs.Math.Seq.{drop-append-add}
use Rattle.std.proofs.lemmas.Bool.{and_parts, both_ways}
use Rattle.std.proofs.lemmas.List.{take_at, take-take, drop-take, take-append-le, drop-append-le}
use Rattle.marker_format.specs.declared.kind.Kind.TheVariants as kinds
use Rattle.marker_format.specs.declared.tag.Tag.{Tag}
use Rattle.marker_format.specs.declared.tag.Tag.TheVariants as tags
use Rattle.marker_format.specs.declared.marker.Marker.{Marker}
use Rattle.marker_format.specs.declared.foot.Foot.{Foot}
use Rattle.marker_format.specs.Tag.{code_of}
use Rattle.marker_format.specs.Marker as marker
use Rattle.marker_format.specs.Foot as foot
use Rattle.marker_format.specs.Block.{block_of, data_block, marker_block, foot_block, marker_in_block}
use Rattle.marker_format.specs.Fragment as blocks
use Rattle.marker_format.specs.Zone.{Array, block_at, end_from, has_kind, begun, is_trailer, shares_zone, trailer_follows, foot_follows, has_foot, whole_records}
use Rattle.marker_format.proofs.BlockLaws.{marker_in_block-is, marker_in_block-again, length-marker_block}
use Rattle.marker_format.proofs.FragmentLaws.{length-blocks_from}
use Rattle.array_model.specs.Kept.{IsLastBlock, SpellsTrailer, SpellsFoot, HasTrailerAt, EndsAreFound}
use Rattle.set_writer.specs.Entry.{Entry, fragment, at_index, entry_bytes, entries_bytes}

-- ---- each whole block

abbrev pub EachBlock : (List ℕ → Type 0) → List ℕ → Type 0
EachBlock P bytes = (b : ℕ) → 512 * (b + 1) ≤ length bytes → P (block_at bytes b)

-- a block in front of others
pub each_front : (P : List ℕ → Type 0) (block rest : List ℕ) → length block ≡ 512 → P block → EachBlock P rest → EachBlock P (block ++ rest)
each_front P block rest long here each zero within = subst P (sym (take_at block rest 512 long)) here
each_front P block rest long here each (suc b) within =
    let past : drop (512 * suc b) (block ++ rest) ≡ drop (512 * b) rest = ap (λ n. drop n (block ++ rest)) (let e : 512 * suc b ≡ length block + 512 * b = omega (arith, long) in e) ∙ drop-append-add block rest (512 * b) in
    subst P (sym (ap (take 512) past)) (each b (omega (arith, within, long, length-append block rest)))

-- a block of the first so many bytes
cut_block : (n b : ℕ) (bytes : List ℕ) → 512 * (b + 1) ≤ n → block_at (take n bytes) b ≡ block_at bytes b
cut_block n b bytes within =
    let m = n - 512 * b in
    let split : n ≡ 512 * b + m = omega (arith, within) in
    ap (λ k. take 512 (drop (512 * b) (take k bytes))) split
    ∙ ap (take 512) (drop-take (512 * b) m bytes)
    ∙ take-take 512 m (drop (512 * b) bytes) (omega (arith, within))

pub each_cut : (P : List ℕ → Type 0) (n : ℕ) (bytes : List ℕ) → EachBlock P bytes → EachBlock P (take n bytes)
each_cut P n bytes each b within =
    let long = length-take n bytes in
    subst P (sym (cut_block n b bytes (omega (arith, within, long)))) (each b (omega (arith, within, long)))

-- where less than a block more is left than these have, of which each is whole
pub each_short : (P : List ℕ → Type 0) (n whole : ℕ) (bytes more : List ℕ) → length bytes ≡ 512 * whole → n < length bytes + 512 → EachBlock P bytes → EachBlock P (take n (bytes ++ more))
each_short P n whole bytes more long short each b within =
    let left = length-take n (bytes ++ more) in
    let here : 512 * (b + 1) ≤ length bytes = omega (arith, within, left, long, short) in
    let same : block_at (bytes ++ more) b ≡ block_at bytes b =
    ap (take 512) (drop-append-le (512 * b) bytes more (omega (arith, here))) ∙ take-append-le 512 (drop (512 * b) bytes) more (omega (arith, here, length-drop (512 * b) bytes)) in
    subst P (sym (cut_block n b (bytes ++ more) (omega (arith, within, left)) ∙ same)) (each b here)

-- ---- what blocks spell

-- the block spells no trailer, and no foot
abbrev pub NoTrailer : List ℕ → Type 0
NoTrailer block = SpellsTrailer block → ⊥

abbrev pub NoFoot : List ℕ → Type 0
NoFoot block = SpellsFoot block → ⊥

-- blocks of the same bytes have one tag
one_tag : (a b : Tag) (x y : List ℕ) → block_of a x ≡ block_of b y → code_of a ≡ code_of b
unfolding block_of
one_tag a b x y same = ap (λ (l : List ℕ). get_or l 0 0) same

marker_no_foot : (m : Marker) → NoFoot (marker_block m)
marker_no_foot m spells = let same = one_tag tags.Marker tags.Foot (marker.spelling_of m) (foot.spelling_of spells.0) spells.2 in omega (arith, same)

pub foot_no_trailer : (f : Foot) → NoTrailer (foot_block f)
foot_no_trailer f spells = let same = one_tag tags.Foot tags.Marker (foot.spelling_of f) (marker.spelling_of spells.0) spells.3 in omega (arith, same)

data_no_foot : (bytes : List ℕ) → NoFoot (data_block bytes)
data_no_foot bytes spells = let same = one_tag tags.Data tags.Foot bytes (foot.spelling_of spells.0) spells.2 in omega (arith, same)

data_no_trailer : (bytes : List ℕ) → NoTrailer (data_block bytes)
data_no_trailer bytes spells = let same = one_tag tags.Data tags.Marker bytes (marker.spelling_of spells.0) spells.3 in omega (arith, same)

one_marker : (m other : Marker) → marker.IsMarker m → marker.IsMarker other → marker_block m ≡ marker_block other → m ≡ other
one_marker m other is is_other same = let e : Some m ≡ Some other = sym (marker_in_block-again m is) ∙ ap marker_in_block same ∙ marker_in_block-again other is_other in cc

marker_no_trailer : (m : Marker) → marker.IsMarker m → has_kind kinds.Trailer m ≡ false → NoTrailer (marker_block m)
marker_no_trailer m is none spells = both_ways (has_kind kinds.Trailer m) none (ap (has_kind kinds.Trailer) (one_marker m spells.0 is spells.1 spells.3) ∙ spells.2)

-- ---- records

-- the record's marker is well formed in the zone of the index, and no trailer's
abbrev pub IsPlain : ℕ → Entry → Type 0
IsPlain index e = marker.IsMarker (at_index index e.marker) × (has_kind kinds.Trailer e.marker ≡ false)

module _ (P : List ℕ → Type 0) (pieces : (bytes : List ℕ) → P (data_block bytes)) where
  each_fragment : (count : ℕ) (bytes rest : List ℕ) → EachBlock P rest → EachBlock P (blocks.blocks_from count bytes ++ rest)
  each_fragment zero bytes rest each = each
  each_fragment (suc count) bytes rest each =
      let long : length (data_block (take 511 bytes)) ≡ 512 = let one = length-blocks_from 1 bytes in omega (arith, one, length-append (data_block (take 511 bytes)) []) in
      subst (EachBlock P) (sym (append_assoc (data_block (take 511 bytes)) (blocks.blocks_from count (drop 511 bytes)) rest))
      (each_front P (data_block (take 511 bytes)) (blocks.blocks_from count (drop 511 bytes) ++ rest) long (pieces (take 511 bytes)) (each_fragment count (drop 511 bytes) rest each))

  module _ (k index : ℕ) (marks : (e : Entry) → IsPlain index e → P (marker_block (at_index index e.marker))) where
    each_entry : (e : Entry) (rest : List ℕ) → IsPlain index e → EachBlock P rest → EachBlock P (entry_bytes k e index ++ rest)
    unfolding entry_bytes
    each_entry e rest plain each =
        let f = fragment k e.payload index in
        subst (EachBlock P) (sym (append_assoc (marker_block (at_index index e.marker)) (blocks.fragment_blocks f) rest))
        (each_front P (marker_block (at_index index e.marker)) (blocks.fragment_blocks f ++ rest) (length-marker_block (at_index index e.marker) plain.0) (marks e plain) (each_fragment (blocks.blocks_of (length f)) f rest each))

    pub each_entries : (es : List Entry) (rest : List ℕ) → AllByRecursion (IsPlain index) es → EachBlock P rest → EachBlock P (entries_bytes k es index ++ rest)
    each_entries [] rest all each = each
    each_entries (e ∷ es) rest all each =
        subst (EachBlock P) (sym (append_assoc (entry_bytes k e index) (entries_bytes k es index) rest))
        (each_entry e (entries_bytes k es index ++ rest) all.0 (each_entries es rest all.1 each))

-- no block of records spells either
pub no_trailers : (k index : ℕ) (es : List Entry) (rest : List ℕ) → AllByRecursion (IsPlain index) es → EachBlock NoTrailer rest → EachBlock NoTrailer (entries_bytes k es index ++ rest)
no_trailers k index es rest all each = each_entries NoTrailer data_no_trailer k index (λ e plain. marker_no_trailer (at_index index e.marker) plain.0 plain.1) es rest all each

pub no_feet : (k index : ℕ) (es : List Entry) (rest : List ℕ) → AllByRecursion (IsPlain index) es → EachBlock NoFoot rest → EachBlock NoFoot (entries_bytes k es index ++ rest)
no_feet k index es rest all each = each_entries NoFoot data_no_foot k index (λ e plain. marker_no_foot (at_index index e.marker)) es rest all each

-- ---- what is found at the end

-- a trailer that follows is spelled there
trailer_is : (array : Array) (count : ℕ) (last o : Option Marker) → is_trailer array count last o ≡ true → (m : Marker) × (o ≡ Some m) × (has_kind kinds.Trailer m ≡ true)
trailer_is array count None o is = absurd (both_ways false refl is)
trailer_is array count (Some last) None is = absurd (both_ways false refl is)
trailer_is array count (Some last) (Some m) is = (m, refl, (and_parts _ _ (and_parts _ _ (and_parts _ (shares_zone last m) is).0).0).0)

trailer_spelled : (array : Array) (bytes : List ℕ) (ms : List Marker) → trailer_follows array bytes ms ≡ true → (b : ℕ) × (512 * (b + 1) ≤ length bytes) × SpellsTrailer (block_at bytes b)
unfolding trailer_follows
trailer_spelled array bytes ms is =
    let b = end_from 0 ms + cond (foot_follows bytes ms) 1 0 in
    let there = trailer_is array (length ms) (last_or None ms) (marker_in_block (block_at bytes (end_from 0 ms + cond (foot_follows bytes ms) 1 0))) is in
    let spelled = marker_in_block-is (block_at bytes (end_from 0 ms + cond (foot_follows bytes ms) 1 0)) there.0 there.1 in
    let long = ap length spelled.1 in (
      end_from 0 ms + cond (foot_follows bytes ms) 1 0,
      omega (arith, long, length-marker_block there.0 spelled.0, length-take 512 (drop (512 * (end_from 0 ms + cond (foot_follows bytes ms) 1 0)) bytes), length-drop (512 * (end_from 0 ms + cond (foot_follows bytes ms) 1 0)) bytes),
      (there.0, spelled.0, there.2, spelled.1),
    )

-- the last whole block is whole
last_whole : (bytes : List ℕ) (b : ℕ) → IsLastBlock bytes b → 512 * (b + 1) ≤ length bytes
last_whole bytes b last = omega (arith, last)

module _ (array : Array) (bytes : List ℕ) (trailers : EachBlock NoTrailer bytes) where
  no_trailer : (ms : List Marker) → trailer_follows array bytes ms ≡ true → ⊥
  no_trailer ms is = let spelled = trailer_spelled array bytes ms is in trailers spelled.0 spelled.1 spelled.2

  none_at : (b : ℕ) → HasTrailerAt array bytes b → ⊥
  none_at b has = no_trailer (begun array bytes) has.0

  -- where there is no foot,
  pub ends_without : EachBlock NoFoot bytes → (has_foot array bytes ≡ true → ⊥) → EndsAreFound array bytes
  ends_without feet none = record {
    trailer = λ b last spells. absurd (trailers b (last_whole bytes b last) spells);
    foot = λ b some may spells. elim may [
      | inl last ↦ absurd (feet b (last_whole bytes b last) spells)
      | inr behind ↦ absurd (none_at (b + 1) behind)
    ];
    trailer_is_last = λ b has. absurd (none_at b has);
    foot_is_last = λ b has. absurd (none has.0);
  }

  -- and where one is at the end
  pub ends_with : has_foot array bytes ≡ true → 512 * end_from 0 (whole_records array bytes) + 512 ≡ length bytes → EndsAreFound array bytes
  ends_with is at_end = record {
    trailer = λ b last spells. absurd (trailers b (last_whole bytes b last) spells);
    foot = λ b some may spells. elim may [
      | inl last ↦ (is, omega (arith, last, at_end))
      | inr behind ↦ absurd (none_at (b + 1) behind)
    ];
    trailer_is_last = λ b has. absurd (none_at b has);
    foot_is_last = λ b has. inl (let here = has.1 in omega (arith, here, at_end));
  }
