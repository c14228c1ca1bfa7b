-- The digest of a set: its records, and the blocks that they take.
use Rattle.std.proofs.Common.{◌≡◌, inl, inr, ℕ, zero, suc, ◌+◌, ◌-◌, ◌*◌, ◌/◌, ◌%◌, ◌^◌, ◌<◌, ◌≤◌, min, Bool, true, false, cond, [], ◌∷◌, ◌++◌, length, drop, refl, sym, ap, subst, ◌∙◌, arith, length-take, length-drop}
use Rattle.std.specs.Prelude.{◌==◌, ◌&&◌, nat_le}
use Rattle.std.specs.Int.{div_ceil}
use Rattle.std.specs.Str.{bytes_eq}
use Rattle.std.proofs.Math.Nat.{mul-le-mul_right, div-mul-le_self}
use Rattle.std.proofs.lemmas.Bool.{cases_lt, and_from, eq-eqb, le-leb}
use Rattle.std.proofs.lemmas.List.FromFn.{map-range_with_len_more}
use Rattle.std.proofs.lemmas.Grind.{div_ceil_times}
use Rattle.smore_base.specs.Room.{payload_room, record_blocks, digest_blocks}
use Rattle.marker_format.specs.declared.kind.Kind.TheVariants as kinds
use Rattle.marker_format.specs.Marker.{IsMarker}
use Rattle.marker_format.proofs.PlainMarkers.{filled_is}
use Rattle.marker_format.specs.Zone.{belongs, blocks_of}
use Rattle.array_model.specs.Reading.{fragments_of}
use Rattle.set_writer.specs.Entry.{at_index, IsEntry}
use Rattle.set_writer.specs.Writer.{Writer, array_by, parts_of, part_of, digest_marker, digest_record, first_digests, blocks_in}
use Rattle.set_writer.specs.Writer.{CanDigest}
use Rattle.set_writer.proofs.FitLaws.{ceil_below}
use Rattle.set_writer.proofs.FirstLaws.{same_bytes}
use Rattle.set_writer.proofs.WroteLaws.{blocks_in-more}

-- ---- parts

part_before : (bytes size part : ℕ) → 1 ≤ size → part < div_ceil bytes size → part * size < bytes
part_before bytes size part some below =
    let most = (div_ceil_times bytes size some).1 in
    let more = mul-le-mul_right size (let s : suc part ≤ div_ceil bytes size = below in s) in
    omega (arith, most, more)

pub digests-more : (w : Writer) (n : ℕ) → first_digests w (n + 1) ≡ first_digests w n ++ digest_record w n ∷ []
digests-more w n = map-range_with_len_more (digest_record w) 0 n n (omega arith)

pub digests_blocks-more : (w : Writer) (n : ℕ) → blocks_in (first_digests w (n + 1)) ≡ blocks_in (first_digests w n) + blocks_of (digest_marker w n)
digests_blocks-more w n = ap blocks_in (digests-more w n) ∙ blocks_in-more (first_digests w n) (digest_record w n)

module _ (w : Writer) (can : CanDigest w) where
  pub room_some : 1 ≤ payload_room w.geometry
  room_some = let m = mul-le-mul_right w.geometry.shard can.within.k_from in let f = can.within.shard_from in omega (arith, m, f)

  room_most : payload_room w.geometry < 2 ^ 32
  room_most = let m = mul-le-mul_right w.geometry.shard (let k : w.geometry.k ≤ 20 = let t = can.within.k_to in omega (arith, t) in k) in let s = can.within.shard_to in omega (arith, m, s)

  pub length-part : (part : ℕ) → length (part_of w part) ≡ min (length w.lines) (part * payload_room w.geometry + payload_room w.geometry) - part * payload_room w.geometry
  length-part part = omega (arith, length-take (payload_room w.geometry) (drop (part * payload_room w.geometry) w.lines), length-drop (part * payload_room w.geometry) w.lines)

  pub part_starts : (part : ℕ) → part < parts_of w → part * payload_room w.geometry < length w.lines
  part_starts part below = let l = can.lines in let b = part_before (320 * w.records) (payload_room w.geometry) part room_some below in omega (arith, l, b)

  pub part_some : (part : ℕ) → part < parts_of w → 1 ≤ length (part_of w part)
  part_some part below = let starts = part_starts part below in let some = room_some in omega (arith, length-part part, starts, some)

  pub part_most : (part : ℕ) → length (part_of w part) ≤ payload_room w.geometry
  part_most part = omega (arith, length-part part)

  pub fragment_most : (part : ℕ) → div_ceil (length (part_of w part)) w.geometry.k ≤ w.geometry.shard
  fragment_most part = ceil_below (length (part_of w part)) w.geometry.k w.geometry.shard can.within.k_from (part_most part)

  pub digest_is_marker : (part index : ℕ) → part < parts_of w → index < fragments_of (array_by w) → IsMarker (at_index index (digest_marker w part))
  digest_is_marker part index below below' = let v = can.within in let r = can.records in let p = part_most part in let most = room_most in
      filled_is kinds.Digest (at_index index (digest_marker w part))
      (record { k_from = v.k_from; k_to = (let x = v.p_from in omega (arith, x)); n_to = v.fragments; set_from = can.set_from; set_to = can.set_to; id = can.id }) below'
      (record {
        coded = refl;
        fragment = refl;
        fragment_to = let f = fragment_most part in let s = v.shard_to in omega (arith, f, s);
        position_to = omega (arith, r, below);
        stamp = refl;
        stamp_to = omega arith;
        upload = refl;
        upload_to = omega arith;
        payload = part_some part below;
        payload_to = omega (arith, p, most);
        name = tt;
        counts = (below, refl);
        part_to = omega (arith, r, below);
        parts_to = omega (arith, r);
        length_to = omega arith;
      })

  digest_belongs : (part : ℕ) → belongs (array_by w) (digest_marker w part) ≡ true
  digest_belongs part =
      let g = w.geometry in
      let m = digest_marker w part in
      and_from ((m.k == g.k) && (m.n == g.k + g.p) && bytes_eq m.array w.id) (nat_le m.payload (g.k * g.shard))
      (and_from ((m.k == g.k) && (m.n == g.k + g.p)) (bytes_eq m.array w.id) (and_from (m.k == g.k) (m.n == g.k + g.p) (eq-eqb m.k g.k refl) (eq-eqb m.n (g.k + g.p) refl)) (same_bytes w.id))
      (le-leb m.payload (g.k * g.shard) (part_most part))

  pub digest_is_entry : (part : ℕ) → part < parts_of w → IsEntry (array_by w) (digest_record w part)
  digest_is_entry part below = record { markers = λ index b. digest_is_marker part index below b; ours = digest_belongs part; payload = refl }

  -- ---- the blocks of them

  -- a part that is full
  full_blocks : (part : ℕ) → part < 320 * w.records / payload_room w.geometry → blocks_of (digest_marker w part) ≡ record_blocks w.geometry.shard
  full_blocks part below =
      let size = payload_room w.geometry in
      let all = div-mul-le_self (320 * w.records) size in
      let more = mul-le-mul_right size (let s : suc part ≤ 320 * w.records / size = below in s) in
      let l = can.lines in
      let long : length (part_of w part) ≡ w.geometry.k * w.geometry.shard = omega (arith, length-part part, all, more, l) in
      ap (λ n. 1 + div_ceil n 511) (ap (λ n. div_ceil n w.geometry.k) long ∙ whole w.geometry.k w.geometry.shard can.within.k_from)
    where
      whole : (k shard : ℕ) → 1 ≤ k → div_ceil (k * shard) k ≡ shard
      whole k shard some =
          let most = ceil_below (k * shard) k shard some (omega arith) in
          let least = (div_ceil_times (k * shard) k some).0 in
          elim (cases_lt (div_ceil (k * shard) k) shard) [
            | inl less ↦ let few = mul-le-mul_right k (let s : suc (div_ceil (k * shard) k) ≤ shard = less in s) in absurd (omega (arith, few, least, some))
            | inr no_less ↦ omega (arith, most, no_less)
          ]

  first_blocks : (n : ℕ) → n ≤ 320 * w.records / payload_room w.geometry → blocks_in (first_digests w n) ≡ n * record_blocks w.geometry.shard
  first_blocks zero within = omega arith
  first_blocks (suc n) within =
      let before = first_blocks n (omega (arith, within)) in
      let one = full_blocks n within in
      let more = digests_blocks-more w n in
      ap (λ i. blocks_in (first_digests w i)) (let e : suc n ≡ n + 1 = omega arith in e) ∙ more ∙ omega (arith, before, one)

  -- so many of them take no more than all
  pub digests_most : (n : ℕ) → n ≤ parts_of w → blocks_in (first_digests w n) ≤ digest_blocks w.geometry (320 * w.records)
  digests_most n within = elim (cases_lt (320 * w.records / payload_room w.geometry) n) [
    | inr few ↦ few_parts n few
    | inl more ↦ last_part n more within
  ]
    where
      either : (b : Bool) (x y : ℕ) → x ≤ x + cond b y 0
      either true x y = omega arith
      either false x y = omega arith

      few_parts : (n : ℕ) → n ≤ 320 * w.records / payload_room w.geometry → blocks_in (first_digests w n) ≤ digest_blocks w.geometry (320 * w.records)
      few_parts n few =
          let full = 320 * w.records / payload_room w.geometry in
          let rest = 320 * w.records - full * payload_room w.geometry in
          let sum = first_blocks n few in
          let all = mul-le-mul_right (record_blocks w.geometry.shard) few in
          let more = either (nat_le 1 rest) (full * record_blocks w.geometry.shard) (record_blocks (div_ceil rest w.geometry.k)) in
          omega (arith, sum, all, more)

      last_part : (n : ℕ) → 320 * w.records / payload_room w.geometry < n → n ≤ parts_of w → blocks_in (first_digests w n) ≤ digest_blocks w.geometry (320 * w.records)
      last_part n more within =
          let size = payload_room w.geometry in
          let bytes = 320 * w.records in
          let full = bytes / size in
          let left = bytes % size in
          let some = room_some in
          let split : bytes ≡ size * full + left = omega (arith, some) in
          let less : left < size = omega (arith, some) in
          let one : n ≡ full + 1 = omega (arith, more, within) in
          let rest_some : 1 ≤ left = omega (arith, more, within) in
          let rest_is : bytes - full * size ≡ left = omega (arith, split) in
          let l = can.lines in
          let long : length (part_of w full) ≡ bytes - full * size = omega (arith, length-part full, split, less, l) in
          let before = first_blocks full (omega arith) in
          let step = digests_blocks-more w full in
          let here : blocks_of (digest_marker w full) ≡ record_blocks (div_ceil (bytes - full * size) w.geometry.k) = ap (λ x. 1 + div_ceil (div_ceil x w.geometry.k) 511) long in
          let last : cond (nat_le 1 (bytes - full * size)) (record_blocks (div_ceil (bytes - full * size) w.geometry.k)) 0 ≡ record_blocks (div_ceil (bytes - full * size) w.geometry.k) =
          ap (λ b. cond b (record_blocks (div_ceil (bytes - full * size) w.geometry.k)) 0) (le-leb 1 (bytes - full * size) (omega (arith, rest_is, rest_some))) in
          subst (λ m. blocks_in (first_digests w m) ≤ digest_blocks w.geometry (320 * w.records)) (sym one) (omega (arith, before, step, here, last))
