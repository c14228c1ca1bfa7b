-- The records of the zones of a closed set, and their foot.
use Rattle.std.proofs.Common.{◌≡◌, ℕ, zero, suc, ◌+◌, ◌-◌, ◌*◌, ◌<◌, ◌≤◌, Bool, true, false, cond, List, [], ◌∷◌, ◌++◌, length, take, replicate, Option, Some, None, refl, sym, ap, ap₂, subst, ◌∙◌, append_assoc, arith, length-append}
use Rattle.std.specs.Prelude.{◌==◌, ◌&&◌}
use Rattle.std.specs.Int.{div_ceil}
use Rattle.std.specs.List.{last_or}
use Rattle.std.specs.Str.{bytes_eq}
use Rattle.std.proofs.Math.Nat.{mul-le-mul_right}
use Rattle.std.proofs.lemmas.Bool.{and_from, and_parts, eq-eqb, eqb-true, ne_eqb}
use Rattle.std.proofs.lemmas.List.{append-nil, length-replicate, take_at, take_all, drop_at}
use Rattle.std.proofs.lemmas.Grind.{div_ceil_times}
use Rattle.smore_base.specs.Room.{payload_room}
use Rattle.marker_format.specs.declared.kind.Kind.{Kind}
use Rattle.marker_format.specs.declared.kind.Kind.TheVariants as kinds
use Rattle.marker_format.specs.declared.kind.Kind.TheVariants.{Head, Digest, Trailer}
use Rattle.marker_format.specs.declared.marker.Marker.{Marker}
use Rattle.marker_format.specs.declared.foot.Foot.{Foot}
use Rattle.marker_format.specs.Kind.{code_of}
use Rattle.marker_format.specs.Marker.{IsMarker, Counts}
use Rattle.marker_format.specs.Block.{block_of, foot_block}
use Rattle.marker_format.specs.Foot as foot
use Rattle.marker_format.specs.Zone.{Array, block_at, blocks_of, end_from, has_kind, keeps_digest, may_stand, IsWhole, Stand, Begin, begun, first_digest, foot_between, foot_of, stands_at, foot_follows, is_rebuilt, whole_records, has_foot, IsPrefix}
use Rattle.marker_format.specs.Laws.{Fill}
use Rattle.marker_format.proofs.FootLaws.{length-spelling}
use Rattle.marker_format.proofs.ZoneLaws.{Begin-begun, begun-longest, Stand-more, whole_records-first}
use Rattle.set_writer.specs.Entry.{Entry, at_index, entry_bytes, entries_bytes}
use Rattle.set_writer.specs.Writer.{Writer, array_by, written, parts_of, digest_marker, digest_record, first_digests, digest, foot_at, foot_bytes, blocks_in, zone_bytes, CanDigest, AreRecordsFrom, Wrote}
use Rattle.set_writer.specs.Laws.{markers_at}
use Rattle.set_writer.proofs.FirstLaws.{same_bytes}
use Rattle.set_writer.proofs.DigestLaws.{digests-more, digest_is_entry}
use Rattle.set_writer.proofs.WroteLaws.{Stays, entries-more, written-stays, written-records, written-used, length-entries}
use Rattle.set_writer.proofs.ZoneRecords.{last-more, entry_fills, records_fill}

-- ---- digest records behind the others

-- the record before the digest record of this part
abbrev pub PartIs : Writer → ℕ → Marker → Type 0
PartIs w zero b = has_kind Digest b ≡ false
PartIs w (suc n) b = (has_kind Digest b ≡ true) × (b.part ≡ n) × (b.parts ≡ parts_of w)

pub record PartBefore (w : Writer) (index n : ℕ) (b : Marker) : Type 0 where
  pub set_is : b.set ≡ w.set
  pub index_is : b.index ≡ index
  pub next : b.position + 1 ≡ w.records + n
  pub part_is : PartIs w n b

keeps : (w : Writer) (index n : ℕ) (b : Marker) → PartIs w n b → keeps_digest b (at_index index (digest_marker w n)) ≡ true
keeps w index zero b is = rw is refl
keeps w index (suc n) b is = rw (is.0) (and_from ((suc n) == b.part + 1) (parts_of w == b.parts) (eq-eqb (suc n) (b.part + 1) (let p = is.1 in omega (arith, p))) (eq-eqb (parts_of w) b.parts (sym is.2)))

part_may : (w : Writer) (index n : ℕ) (b : Marker) → PartBefore w index n b → may_stand (Some b) (at_index index (digest_marker w n)) ≡ true
part_may w index n b was =
    and_from _ _ (and_from _ _ (eq-eqb (w.records + n) (b.position + 1) (sym was.next)) (and_from _ _ (eq-eqb w.set b.set (sym was.set_is)) (eq-eqb index b.index (sym was.index_is)))) (keeps w index n b was.part_is)

pub record Digests (w : Writer) (index n : ℕ) (bytes : List ℕ) (ms : List Marker) : Type 0 where
  pub fill : Fill (array_by w) (bytes ++ entries_bytes w.geometry.k (first_digests w n) index) (ms ++ markers_at index (first_digests w n))
  pub last : Marker
  pub last_is : last_or None (ms ++ markers_at index (first_digests w n)) ≡ Some last
  pub before : PartBefore w index n last

markers-append : (index : ℕ) (es : List Entry) (e : Entry) → markers_at index (es ++ e ∷ []) ≡ markers_at index es ++ at_index index e.marker ∷ []
markers-append index [] e = refl
markers-append index (x ∷ es) e = ap (λ (l : List Marker). at_index index x.marker ∷ l) (markers-append index es e)

pub markers-join : (index : ℕ) (es more : List Entry) → markers_at index (es ++ more) ≡ markers_at index es ++ markers_at index more
markers-join index [] more = refl
markers-join index (x ∷ es) more = ap (λ (l : List Marker). at_index index x.marker ∷ l) (markers-join index es more)

pub digests : (w : Writer) (index n : ℕ) (bytes : List ℕ) (ms : List Marker) (b : Marker) → CanDigest w → index < w.geometry.k + w.geometry.p → last_or None ms ≡ Some b → PartBefore w index 0 b → Fill (array_by w) bytes ms → n ≤ parts_of w → Digests w index n bytes ms
digests w index zero bytes ms b can below last_is before fill within = record {
  fill = subst (λ (l : List ℕ). Fill (array_by w) l (ms ++ [])) (sym (append-nil bytes)) (subst (λ (l : List Marker). Fill (array_by w) bytes l) (sym (append-nil ms)) fill);
  last = b;
  last_is = ap (last_or None) (append-nil ms) ∙ last_is;
  before = before;
}
digests w index (suc n) bytes ms b can below last_is before fill within =
    let it = digests w index n bytes ms b can below last_is before fill (omega (arith, within)) in
    let more : first_digests w (suc n) ≡ first_digests w n ++ digest_record w n ∷ [] = ap (first_digests w) (let e : suc n ≡ n + 1 = omega arith in e) ∙ digests-more w n in
    let one = entry_fills (array_by w) w.geometry.k index (bytes ++ entries_bytes w.geometry.k (first_digests w n) index) (ms ++ markers_at index (first_digests w n)) (digest_record w n) refl below (digest_is_entry w can n within) (ap (λ (o : Option Marker). may_stand o (at_index index (digest_marker w n))) it.last_is ∙ part_may w index n it.last it.before) it.fill in
    let bytes_are : (bytes ++ entries_bytes w.geometry.k (first_digests w n) index) ++ entry_bytes w.geometry.k (digest_record w n) index ≡ bytes ++ entries_bytes w.geometry.k (first_digests w (suc n)) index =
    append_assoc bytes (entries_bytes w.geometry.k (first_digests w n) index) (entry_bytes w.geometry.k (digest_record w n) index)
    ∙ ap (λ (l : List ℕ). bytes ++ l) (sym (entries-more w.geometry.k (first_digests w n) (digest_record w n) index) ∙ ap (λ (es : List Entry). entries_bytes w.geometry.k es index) (sym more)) in
    let marks_are : (ms ++ markers_at index (first_digests w n)) ++ at_index index (digest_marker w n) ∷ [] ≡ ms ++ markers_at index (first_digests w (suc n)) =
    append_assoc ms (markers_at index (first_digests w n)) (at_index index (digest_marker w n) ∷ [])
    ∙ ap (λ (l : List Marker). ms ++ l) (sym (markers-append index (first_digests w n) (digest_record w n)) ∙ ap (markers_at index) (sym more)) in
    record {
      fill = subst (λ (l : List ℕ). Fill (array_by w) l (ms ++ markers_at index (first_digests w (suc n)))) bytes_are
          (subst (λ (l : List Marker). Fill (array_by w) ((bytes ++ entries_bytes w.geometry.k (first_digests w n) index) ++ entry_bytes w.geometry.k (digest_record w n) index) l) marks_are one);
      last = at_index index (digest_marker w n);
      last_is = ap (last_or None) (sym marks_are) ∙ last-more (ms ++ markers_at index (first_digests w n)) (at_index index (digest_marker w n)) None;
      before = record { set_is = refl; index_is = refl; next = omega arith; part_is = (refl, refl, refl) };
    }

-- ---- nothing follows the last of them

pub Stand-behind : (array : Array) (bytes : List ℕ) (before : Option Marker) (block : ℕ) (ms : List Marker) (m : Marker) (more : List Marker) → Stand array bytes before block (ms ++ m ∷ more) → IsWhole array bytes (end_from block ms) m × (may_stand (last_or before ms) m ≡ true)
Stand-behind array bytes before block [] m more stand = (stand.0, stand.1)
Stand-behind array bytes before block (x ∷ ms) m more stand = Stand-behind array bytes (Some x) (block + blocks_of x) ms m more stand.2

pub digest_counts : (kind : Kind) (m : Marker) → code_of kind ≡ 7 → Counts kind m → m.part < m.parts
digest_counts kinds.Digest m is counts = counts.0
digest_counts kinds.Head m is counts = absurd (omega (arith, is))
digest_counts kinds.Part m is counts = absurd (omega (arith, is))
digest_counts kinds.Put m is counts = absurd (omega (arith, is))
digest_counts kinds.Delete m is counts = absurd (omega (arith, is))
digest_counts kinds.Cut m is counts = absurd (omega (arith, is))
digest_counts kinds.Ready m is counts = absurd (omega (arith, is))
digest_counts kinds.Snapshot m is counts = absurd (omega (arith, is))
digest_counts kinds.Trailer m is counts = absurd (omega (arith, is))

none_follows : (w : Writer) (index n : ℕ) (b m : Marker) → suc n ≡ parts_of w → PartBefore w index (suc n) b → IsMarker m → may_stand (Some b) m ≡ true → ⊥
none_follows w index n b m all before is stands =
    let part = before.part_is in
    let kept : keeps_digest b m ≡ true = (and_parts _ (keeps_digest b m) stands).1 in
    let here : (has_kind Digest m && (m.part == b.part + 1)) && (m.parts == b.parts) ≡ true = sym (rw (part.0) refl) ∙ kept in
    let first = and_parts (has_kind Digest m && (m.part == b.part + 1)) (m.parts == b.parts) here in
    let second = and_parts (has_kind Digest m) (m.part == b.part + 1) first.0 in
    let kind = eqb-true m.kind 7 second.0 in
    let part_of = eqb-true m.part (b.part + 1) second.1 in
    let parts = eqb-true m.parts b.parts first.1 in
    let counts = digest_counts is.kind m (sym is.coded ∙ kind) is.counts in
    let p = part.1 in
    let q = part.2 in
    omega (arith, part_of, parts, counts, p, q, all)

-- ---- the foot

pub length-foot_block : (f : Foot) → length (foot_block f) ≡ 512
unfolding block_of
length-foot_block f = omega (arith, length-spelling f, length-append (foot.spelling_of f) (replicate (511 - length (foot.spelling_of f)) 0), length-replicate {A = ℕ} (511 - length (foot.spelling_of f)) 0)

-- the first digest record is behind records of which none is one
first_behind : (array : Array) (set' position index block : ℕ) (es : List Entry) (more : List Marker) → AreRecordsFrom array set' position es → first_digest block (markers_at index es ++ more) ≡ first_digest (end_from block (markers_at index es)) more
first_behind array set' position index block [] more are = refl
first_behind array set' position index block (e ∷ es) more are = rw (are.0.no_digest) (first_behind array set' (position + 1) index (block + blocks_of e.marker) es more are.1)

first_of : (w : Writer) (index block p : ℕ) → first_digest block (markers_at index (first_digests w (suc p))) ≡ Some (record { marker = at_index index (digest_marker w 0); block = block })
first_of w index block p = refl

-- the last of some records
pub last_of : (array : Array) (w : Writer) (position index : ℕ) (e : Entry) (es : List Entry) (before : Option Marker) → AreRecordsFrom array w.set position (e ∷ es) → w.records ≡ position + length (e ∷ es) → (b : Marker) × (last_or before (markers_at index (e ∷ es)) ≡ Some b) × PartBefore w index 0 b
last_of array w position index e [] before are count = (at_index index e.marker, refl, record { set_is = are.0.set_is; index_is = refl; next = (let p = are.0.position_is in omega (arith, p, count)); part_is = are.0.no_digest })
last_of array w position index e (x ∷ es) before are count = last_of array w (position + 1) index x es (Some (at_index index e.marker)) are.1 (omega (arith, count))

module _ (w : Writer) (e : Entry) (es : List Entry) (index : ℕ) (can : CanDigest w) (below : index < w.geometry.k + w.geometry.p) (are : AreRecordsFrom (array_by w) w.set 0 (e ∷ es)) (count : w.records ≡ length (e ∷ es)) (used : w.used ≡ blocks_in (e ∷ es)) where
  pub some_parts : (p : ℕ) × (parts_of w ≡ suc p)
  some_parts = at (parts_of w) refl
    where
      at : (n : ℕ) → parts_of w ≡ n → (p : ℕ) × (parts_of w ≡ suc p)
      at (suc p) is = (p, is)
      at zero is =
          let some : 1 ≤ payload_room w.geometry = (let m = mul-le-mul_right w.geometry.shard can.within.k_from in let f = can.within.shard_from in omega (arith, m, f)) in
          let all = (div_ceil_times (320 * w.records) (payload_room w.geometry) some).0 in
          let none : div_ceil (320 * w.records) (payload_room w.geometry) * payload_room w.geometry ≡ 0 * payload_room w.geometry = ap (λ n. n * payload_room w.geometry) is in
          absurd (omega (arith, all, none, count))

  records_of : Fill (array_by w) (entries_bytes w.geometry.k (e ∷ es) index) (markers_at index (e ∷ es))
  records_of = records_fill (array_by w) w.geometry.k w.set index 0 [] [] (e ∷ es) refl below (record { begin = tt; full = refl }) refl are

  all_of : (p : ℕ) → parts_of w ≡ suc p → Digests w index (suc p) (entries_bytes w.geometry.k (e ∷ es) index) (markers_at index (e ∷ es))
  all_of p is =
      let last = last_of (array_by w) w 0 index e es None are (count ∙ omega arith) in
      digests w index (suc p) (entries_bytes w.geometry.k (e ∷ es) index) (markers_at index (e ∷ es)) last.0 can below last.1 last.2 records_of (omega (arith, is))

  abbrev pub full_bytes : ℕ → List ℕ
  full_bytes n = entries_bytes w.geometry.k (e ∷ es) index ++ entries_bytes w.geometry.k (first_digests w n) index

  abbrev pub marks : ℕ → List Marker
  marks n = markers_at index (e ∷ es) ++ markers_at index (first_digests w n)

  module _ (p : ℕ) (is : parts_of w ≡ suc p) where
    it : Digests w index (suc p) (entries_bytes w.geometry.k (e ∷ es) index) (markers_at index (e ∷ es))
    it = all_of p is

    begins : Begin (array_by w) (full_bytes (suc p) ++ foot_bytes w index) (marks (suc p))
    begins =
        let cut : take (length (full_bytes (suc p))) (full_bytes (suc p) ++ foot_bytes w index) ≡ full_bytes (suc p) = take_at (full_bytes (suc p)) (foot_bytes w index) (length (full_bytes (suc p))) refl in
        Stand-more (length (full_bytes (suc p))) (array_by w) (full_bytes (suc p) ++ foot_bytes w index) None 0 (marks (suc p)) (subst (λ (l : List ℕ). Begin (array_by w) l (marks (suc p))) (sym cut) it.fill.begin)

    pub begun_is : begun (array_by w) (full_bytes (suc p) ++ foot_bytes w index) ≡ marks (suc p)
    begun_is = ended (begun-longest (array_by w) (full_bytes (suc p) ++ foot_bytes w index) (marks (suc p)) begins)
      where
        ended : IsPrefix (marks (suc p)) (begun (array_by w) (full_bytes (suc p) ++ foot_bytes w index)) → begun (array_by w) (full_bytes (suc p) ++ foot_bytes w index) ≡ marks (suc p)
        ended ([], same) = same ∙ append-nil (marks (suc p))
        ended (x ∷ xs, same) =
            let stand = subst (λ (l : List Marker). Begin (array_by w) (full_bytes (suc p) ++ foot_bytes w index) l) same (Begin-begun (array_by w) (full_bytes (suc p) ++ foot_bytes w index)) in
            let here = Stand-behind (array_by w) (full_bytes (suc p) ++ foot_bytes w index) None 0 (marks (suc p)) x xs stand in
            absurd (none_follows w index p it.last x (sym is) it.before here.0.marker (ap (λ (o : Option Marker). may_stand o x) (sym it.last_is) ∙ here.1))

    pub whole_is : whole_records (array_by w) (full_bytes (suc p) ++ foot_bytes w index) ≡ marks (suc p)
    whole_is = whole_records-first (array_by w) (full_bytes (suc p) ++ foot_bytes w index) (ap is_rebuilt begun_is ∙ ne_eqb e.marker.part 1 (λ one. let zero_ = are.0.first_zone refl in omega (arith, one, zero_))) ∙ begun_is

    -- and its block is the last of the zone
    pub length_is : 512 * end_from 0 (marks (suc p)) + 512 ≡ length (full_bytes (suc p) ++ foot_bytes w index)
    length_is = let full = it.fill.full in omega (arith, full, length-append (full_bytes (suc p)) (foot_bytes w index), length-foot_block (foot_at w index))

    block_is : end_from 0 (markers_at index (e ∷ es)) ≡ w.used
    block_is =
        let full = records_of.full in
        let long = length-entries (array_by w) w.set 0 w.geometry.k index (e ∷ es) refl below are in
        omega (arith, full, long, used)

    foot_is : foot_of (marks (suc p)) ≡ Some (foot_at w index)
    foot_is =
        let first : first_digest 0 (marks (suc p)) ≡ Some (record { marker = at_index index (digest_marker w 0); block = w.used }) =
        first_behind (array_by w) w.set 0 index 0 (e ∷ es) (markers_at index (first_digests w (suc p))) are
        ∙ ap (λ n. first_digest n (markers_at index (first_digests w (suc p)))) block_is in
        ap₂ foot_between first it.last_is
        ∙ between it.last it.before
      where
        between : (b : Marker) → PartBefore w index (suc p) b → foot_between (Some (record { marker = at_index index (digest_marker w 0); block = w.used })) (Some b) ≡ Some (foot_at w index)
        between b before =
            let part = before.part_is in
            let whole : has_kind Digest b && (b.part + 1 == b.parts) ≡ true = and_from (has_kind Digest b) (b.part + 1 == b.parts) part.0 (eq-eqb (b.part + 1) b.parts (let q = part.1 in let r = part.2 in omega (arith, q, r, is))) in
            ap (λ (c : Bool). cond c (Some (record { set = b.set; index = b.index; position = w.records + 0; block = w.used; count = b.parts })) None) whole
            ∙ ap Some (ap₂ (λ s i. record { set = s; index = i; position = w.records + 0; block = w.used; count = b.parts }) before.set_is before.index_is
            ∙ ap₂ (λ n c. record { set = w.set; index = index; position = n; block = w.used; count = c }) (let z : w.records + 0 ≡ w.records = omega arith in z) part.2)

    foot_there : foot_follows (full_bytes (suc p) ++ foot_bytes w index) (marks (suc p)) ≡ true
    unfolding foot_follows
    foot_there =
        let full = it.fill.full in
        let bytes = full_bytes (suc p) ++ foot_bytes w index in
        let here : block_at (full_bytes (suc p) ++ foot_bytes w index) (end_from 0 (marks (suc p))) ≡ foot_bytes w index =
        ap (take 512) (drop_at (full_bytes (suc p)) (foot_bytes w index) (512 * end_from 0 (marks (suc p))) (sym full)) ∙ take_all 512 (foot_bytes w index) (let l = length-foot_block (foot_at w index) in omega (arith, l)) in
        ap (stands_at (full_bytes (suc p) ++ foot_bytes w index) (end_from 0 (marks (suc p)))) foot_is
        ∙ ap (λ (l : List ℕ). bytes_eq l (foot_bytes w index)) here ∙ same_bytes (foot_bytes w index)

    pub foot_whole : has_foot (array_by w) (full_bytes (suc p) ++ foot_bytes w index) ≡ true
    unfolding has_foot
    foot_whole = ap (foot_follows (full_bytes (suc p) ++ foot_bytes w index)) whole_is ∙ foot_there

-- ---- a closed writer

pub closed_zone : (w : Writer) (es : List Entry) (index : ℕ) → index < w.geometry.k + w.geometry.p → w.is_closed ≡ true → Wrote w es
    → (whole_records (array_by w) (zone_bytes w es index) ≡ markers_at index (es ++ digest (written w w.set es))) × (has_foot (array_by w) (zone_bytes w es index) ≡ true)
    × (begun (array_by w) (zone_bytes w es index) ≡ markers_at index (es ++ digest (written w w.set es)))
    × (512 * end_from 0 (markers_at index (es ++ digest (written w w.set es))) + 512 ≡ length (zone_bytes w es index))
closed_zone w [] index below is wrote = let some = wrote.some in absurd (omega (arith, some))
closed_zone w (e ∷ es) index below is wrote = (
  ap₂ whole_records (sym array) bytes_are ∙ whole_is before e es index can below_then are count used p some.1 ∙ marks_are,
  ap₂ has_foot (sym array) bytes_are ∙ foot_whole before e es index can below_then are count used p some.1,
  ap₂ begun (sym array) bytes_are ∙ begun_is before e es index can below_then are count used p some.1 ∙ marks_are,
  ap (λ (ms : List Marker). 512 * end_from 0 ms + 512) (sym marks_are) ∙ length_is before e es index can below_then are count used p some.1 ∙ ap length (sym bytes_are),
)
  where
    before : Writer
    before = written w w.set (e ∷ es)

    st : Stays w (written w w.set (e ∷ es)) w.set
    st = written-stays w w.set (e ∷ es)

    array : array_by (written w w.set (e ∷ es)) ≡ array_by w
    array = ap₂ (λ g i. record { geometry = g; id = i }) st.geometry st.id

    can : CanDigest (written w w.set (e ∷ es))
    can = wrote.can is

    below_then : index < (written w w.set (e ∷ es)).geometry.k + (written w w.set (e ∷ es)).geometry.p
    below_then = subst (λ a. index < a.geometry.k + a.geometry.p) (sym array) below

    are : AreRecordsFrom (array_by (written w w.set (e ∷ es))) (written w w.set (e ∷ es)).set 0 (e ∷ es)
    are = subst (λ s. AreRecordsFrom (array_by (written w w.set (e ∷ es))) s 0 (e ∷ es)) (sym st.set_is) (subst (λ a. AreRecordsFrom a w.set 0 (e ∷ es)) (sym array) wrote.records)

    count : (written w w.set (e ∷ es)).records ≡ length (e ∷ es)
    count = written-records w w.set (e ∷ es)

    used : (written w w.set (e ∷ es)).used ≡ blocks_in (e ∷ es)
    used = written-used w w.set (e ∷ es)

    some : (p : ℕ) × (parts_of (written w w.set (e ∷ es)) ≡ suc p)
    some = some_parts (written w w.set (e ∷ es)) e es index can below_then are count used

    p : ℕ
    p = some.0

    bytes_are : zone_bytes w (e ∷ es) index ≡ (entries_bytes (written w w.set (e ∷ es)).geometry.k (e ∷ es) index ++ entries_bytes (written w w.set (e ∷ es)).geometry.k (first_digests (written w w.set (e ∷ es)) (suc some.0)) index) ++ foot_bytes (written w w.set (e ∷ es)) index
    bytes_are =
        ap (λ c. entries_bytes w.geometry.k (e ∷ es) index ++ cond c (entries_bytes w.geometry.k (digest (written w w.set (e ∷ es))) index ++ foot_bytes (written w w.set (e ∷ es)) index) []) is
        ∙ ap (λ n. entries_bytes n (e ∷ es) index ++ (entries_bytes n (digest (written w w.set (e ∷ es))) index ++ foot_bytes (written w w.set (e ∷ es)) index)) (sym (ap (λ g. g.k) st.geometry))
        ∙ sym (append_assoc (entries_bytes (written w w.set (e ∷ es)).geometry.k (e ∷ es) index) (entries_bytes (written w w.set (e ∷ es)).geometry.k (digest (written w w.set (e ∷ es))) index) (foot_bytes (written w w.set (e ∷ es)) index))
        ∙ ap (λ n. (entries_bytes (written w w.set (e ∷ es)).geometry.k (e ∷ es) index ++ entries_bytes (written w w.set (e ∷ es)).geometry.k (first_digests (written w w.set (e ∷ es)) n) index) ++ foot_bytes (written w w.set (e ∷ es)) index) some.1

    marks_are : markers_at index (e ∷ es) ++ markers_at index (first_digests (written w w.set (e ∷ es)) (suc some.0)) ≡ markers_at index ((e ∷ es) ++ digest (written w w.set (e ∷ es)))
    marks_are =
        ap (λ n. markers_at index (e ∷ es) ++ markers_at index (first_digests (written w w.set (e ∷ es)) n)) (sym some.1)
        ∙ sym (markers-join index (e ∷ es) (digest (written w w.set (e ∷ es))))
