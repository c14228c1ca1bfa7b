-- What is left of a zone of a set that was cut off.
use Rattle.std.proofs.Common.{◌≡◌, ℕ, ◌+◌, ◌*◌, ◌<◌, ◌≤◌, Bool, true, false, cond, List, [], ◌∷◌, ◌++◌, length, take, drop, Option, Some, None, refl, sym, ap, subst, ◌∙◌, arith, length-append, length-take, length-drop}
use Rattle.std.specs.Prelude.{◌&&◌, ◌==◌}
use Rattle.std.specs.List.{last_or}
use Rattle.std.proofs.lemmas.Bool.{and_parts, eqb-true, ne_eqb}
use Rattle.std.proofs.lemmas.List.{append-nil, length-map, map-append, take-append-drop, take_at, take_all, take-map}
use Rattle.std.proofs.lemmas.Slice.Eq.{bytes_eq-Decides}
use Rattle.marker_format.specs.declared.kind.Kind.TheVariants.{Digest}
use Rattle.marker_format.specs.declared.marker.Marker.{Marker}
use Rattle.marker_format.specs.declared.foot.Foot.{Foot}
use Rattle.marker_format.specs.Block.{foot_block}
use Rattle.marker_format.specs.Zone.{Array, block_at, blocks_of, end_from, has_kind, keeps_digest, may_stand, Placed, Stand, begun, first_digest, foot_between, foot_of, stands_at, foot_follows, is_rebuilt, has_foot}
use Rattle.marker_format.proofs.ZoneLaws.{Begin-begun, begun-longest, begun-cut, begun-full, Begin-cut, whole_records-first}
use Rattle.std.proofs.lemmas.Grind.{flat_map-append}
use Rattle.set_writer.specs.Entry.{Entry, at_index, entries_bytes, entry_bytes}
use Rattle.set_writer.specs.Writer.{Writer, array_by, written, digest, blocks_in, zone_bytes, AreRecordsFrom, Wrote, CanDigest, parts_of, first_digests}
use Rattle.set_writer.specs.Laws.{markers_at, records_of}
use Rattle.set_writer.specs.ImageLaws.{HasFirst}
use Rattle.set_writer.proofs.WroteLaws.{zone_open, length-entries, open_is, written-records}
use Rattle.set_writer.proofs.ZoneRecords.{records_fill, wrote_fills}
use Rattle.set_writer.proofs.ClosedZones.{Stand-behind, digest_counts, length-foot_block, closed_zone, last_of, digests, markers-join}
use Rattle.set_writer.proofs.AgreedRecords.{zone_all}

-- ---- records

-- where records stand, so do the first of them
Stand-first : (array : Array) (bytes : List ℕ) (before : Option Marker) (block : ℕ) (ms more : List Marker) → Stand array bytes before block (ms ++ more) → Stand array bytes before block ms
Stand-first array bytes before block [] more stand = tt
Stand-first array bytes before block (m ∷ ms) more stand = (stand.0, stand.1, Stand-first array bytes (Some m) (block + blocks_of m) ms more stand.2)

pub end_from-blocks : (index block : ℕ) (es : List Entry) → end_from block (markers_at index es) ≡ block + blocks_in es
end_from-blocks index block [] = omega arith
end_from-blocks index block (e ∷ es) = let rest = end_from-blocks index (block + blocks_of (at_index index e.marker)) es in rest ∙ omega arith

-- the first of a list are so many of it
first_is_take : (ms rest all : List Marker) → all ≡ ms ++ rest → ms ≡ take (length ms) all
first_is_take ms rest all is = sym (ap (take (length ms)) is ∙ take_at ms rest (length ms) refl)

pub markers-take : (index n : ℕ) (es : List Entry) → take n (markers_at index es) ≡ markers_at index (take n es)
markers-take index n es = take-map (λ (e : Entry). at_index index e.marker) n es

-- the first of a first zone's records are those of one
rebuilt-first : (ms rest : List Marker) → is_rebuilt (ms ++ rest) ≡ false → is_rebuilt ms ≡ false
rebuilt-first [] rest first = refl
rebuilt-first (m ∷ ms) rest first = first

-- the records of a set are no rebuilt zone's, whatever stands behind them
pub set_not_rebuilt : (array : Array) (set' index : ℕ) (es more : List Entry) → 0 < length es → AreRecordsFrom array set' 0 es → is_rebuilt (markers_at index (es ++ more)) ≡ false
set_not_rebuilt array set' index [] more some are = absurd (omega (arith, some))
set_not_rebuilt array set' index (e ∷ es) more some are = let zero_ = are.0.first_zone refl in ne_eqb e.marker.part 1 (λ one. omega (arith, zero_, one))

-- ---- what is left

module _ (n : ℕ) (array : Array) (index : ℕ) (es : List Entry) (bytes : List ℕ) (all : begun array bytes ≡ markers_at index es) (first : is_rebuilt (markers_at index es) ≡ false) where
  split : (rest : List Marker) × (markers_at index es ≡ begun array (take n bytes) ++ rest)
  split = let part = begun-cut n array bytes in (part.0, sym all ∙ part.1)

  left_first : is_rebuilt (begun array (take n bytes)) ≡ false
  left_first = rebuilt-first (begun array (take n bytes)) split.0 (ap is_rebuilt (sym split.1) ∙ first)

  left : ℕ
  left = length (begun array (take n bytes))

  pub left_is : begun array (take n bytes) ≡ markers_at index (take (length (begun array (take n bytes))) es)
  left_is = first_is_take (begun array (take n bytes)) split.0 (markers_at index es) split.1 ∙ markers-take index (length (begun array (take n bytes))) es

  left_most : length (begun array (take n bytes)) ≤ length es
  left_most =
      let whole = ap length split.1 in
      omega (arith, whole, length-append (begun array (take n bytes)) split.0, length-map es (λ (e : Entry). at_index index e.marker))

  left_least : (c : ℕ) → c ≤ length es → 512 * blocks_in (take c es) ≤ n → c ≤ length (begun array (take n bytes))
  left_least c few ends =
      let parts : markers_at index es ≡ markers_at index (take c es) ++ markers_at index (drop c es) = ap (markers_at index) (sym (take-append-drop c es)) ∙ map-append (λ (e : Entry). at_index index e.marker) (take c es) (drop c es) in
      let stand = Stand-first array bytes None 0 (markers_at index (take c es)) (markers_at index (drop c es)) (subst (λ (ms : List Marker). Stand array bytes None 0 ms) (all ∙ parts) (Begin-begun array bytes)) in
      let cut = Begin-cut n array bytes (markers_at index (take c es)) stand (omega (arith, ends, end_from-blocks index 0 (take c es))) in
      let p = begun-longest array (take n bytes) (markers_at index (take c es)) cut in
      let long = ap length p.1 in
      omega (arith, long, few, length-append (markers_at index (take c es)) p.0, length-map (take c es) (λ (e : Entry). at_index index e.marker), length-take c es)

  pub cut_has_first : HasFirst array index es n (take n bytes)
  cut_has_first = record {
    count = length (begun array (take n bytes));
    within = left_most;
    records = whole_records-first array (take n bytes) left_first ∙ left_is;
    begins = left_is;
    least = left_least;
  }

pub cut_list_has_first : (n : ℕ) (array : Array) (set' index : ℕ) (es : List Entry) → index < array.geometry.k + array.geometry.p → AreRecordsFrom array set' 0 es → HasFirst array index es n (take n (entries_bytes array.geometry.k es index))
cut_list_has_first n array set' index es below are =
    let fill = records_fill array array.geometry.k set' index 0 [] [] es refl below (record { begin = tt; full = refl }) refl are in
    cut_has_first n array index es (entries_bytes array.geometry.k es index) (begun-full array (entries_bytes array.geometry.k es index) (markers_at index es) fill.begin fill.full) (first es are)
  where
    first : (es : List Entry) → AreRecordsFrom array set' 0 es → is_rebuilt (markers_at index es) ≡ false
    first [] are = refl
    first (e ∷ es) are = let zero_ = are.0.first_zone refl in ne_eqb e.marker.part 1 (λ one. omega (arith, zero_, one))

-- the first digest records behind a set's records
pub cut_digests_have_first : (n count : ℕ) (w : Writer) (es : List Entry) (index : ℕ) → index < w.geometry.k + w.geometry.p → w.is_closed ≡ false → CanDigest w → Wrote w es → count ≤ parts_of w
    → HasFirst (array_by w) index (es ++ first_digests w count) n (take n (entries_bytes w.geometry.k (es ++ first_digests w count) index))
cut_digests_have_first n count w [] index below open_ can wrote few = let some = wrote.some in absurd (omega (arith, some))
cut_digests_have_first n count w (e ∷ es) index below open_ can wrote few =
    let listed : w.records ≡ 0 + length (e ∷ es) = ap (λ (v : Writer). v.records) (open_is w (e ∷ es) open_ wrote) ∙ written-records w w.set (e ∷ es) ∙ omega arith in
    let last = last_of (array_by w) w 0 index e es None wrote.records listed in
    let fill = (digests w index count (entries_bytes w.geometry.k (e ∷ es) index) (markers_at index (e ∷ es)) last.0 can below last.1 last.2 (wrote_fills w (e ∷ es) index below wrote) few).fill in
    let bytes : entries_bytes w.geometry.k ((e ∷ es) ++ first_digests w count) index ≡ entries_bytes w.geometry.k (e ∷ es) index ++ entries_bytes w.geometry.k (first_digests w count) index = flat_map-append (λ (x : Entry). entry_bytes w.geometry.k x index) (e ∷ es) (first_digests w count) in
    let all : begun (array_by w) (entries_bytes w.geometry.k ((e ∷ es) ++ first_digests w count) index) ≡ markers_at index ((e ∷ es) ++ first_digests w count) =
    ap (begun (array_by w)) bytes ∙ begun-full (array_by w) (entries_bytes w.geometry.k (e ∷ es) index ++ entries_bytes w.geometry.k (first_digests w count) index) (markers_at index (e ∷ es) ++ markers_at index (first_digests w count)) fill.begin fill.full ∙ sym (markers-join index (e ∷ es) (first_digests w count)) in
    cut_has_first n (array_by w) index ((e ∷ es) ++ first_digests w count) (entries_bytes w.geometry.k ((e ∷ es) ++ first_digests w count) index) all (set_not_rebuilt (array_by w) w.set index (e ∷ es) (first_digests w count) wrote.some wrote.records)

-- a writer's zones
module _ (w : Writer) (es : List Entry) (index : ℕ) (below : index < w.geometry.k + w.geometry.p) (wrote : Wrote w es) where
  pub zone_is : begun (array_by w) (zone_bytes w es index) ≡ markers_at index (records_of w es)
  zone_is = zone_all w.is_closed w es index refl below wrote

  zone_first : is_rebuilt (markers_at index (records_of w es)) ≡ false
  zone_first = set_not_rebuilt (array_by w) w.set index es (cond w.is_closed (digest (written w w.set es)) []) wrote.some wrote.records

  pub cut_zone_has_those : (n : ℕ) → HasFirst (array_by w) index (records_of w es) n (take n (zone_bytes w es index))
  cut_zone_has_those n = cut_has_first n (array_by w) index (records_of w es) (zone_bytes w es index) zone_is zone_first

-- ---- feet

-- a foot is that of a last digest record
last_digest : (first : Option Placed) (last : Option Marker) (f : Foot) → foot_between first last ≡ Some f → (b : Marker) × (last ≡ Some b) × (has_kind Digest b && (b.part + 1 == b.parts) ≡ true)
last_digest None last f is = absurd cc
last_digest (Some first) None f is = absurd cc
last_digest (Some first) (Some b) f is = (b, refl, at (has_kind Digest b && (b.part + 1 == b.parts)) is)
  where
    at : (c : Bool) → cond c (Some (record { set = b.set; index = b.index; position = first.marker.position; block = first.block; count = b.parts })) None ≡ Some f → c ≡ true
    at true is = refl
    at false is = absurd cc

-- no record stands behind the last digest record
none_behind : (array : Array) (bytes : List ℕ) (ms : List Marker) (m : Marker) (more : List Marker) (f : Foot) → Stand array bytes None 0 (ms ++ m ∷ more) → foot_of ms ≡ Some f → ⊥
none_behind array bytes ms m more f stand is =
    let last = last_digest (first_digest 0 ms) (last_or None ms) f is in
    let b = last.0 in
    let whole = and_parts (has_kind Digest b) (b.part + 1 == b.parts) last.2 in
    let behind = Stand-behind array bytes None 0 ms m more stand in
    let stands : may_stand (Some b) m ≡ true = ap (λ (o : Option Marker). may_stand o m) (sym last.1) ∙ behind.1 in
    let kept : keeps_digest b m ≡ true = (and_parts _ (keeps_digest b m) stands).1 in
    let here : (has_kind Digest m && (m.part == b.part + 1)) && (m.parts == b.parts) ≡ true = sym (rw (whole.0) refl) ∙ kept in
    let first = and_parts (has_kind Digest m && (m.part == b.part + 1)) (m.parts == b.parts) here in
    let second = and_parts (has_kind Digest m) (m.part == b.part + 1) first.0 in
    let marker = behind.0.marker in
    let counts = digest_counts marker.kind m (sym marker.coded ∙ eqb-true m.kind 7 second.0) marker.counts in
    let part_is = eqb-true m.part (b.part + 1) second.1 in
    let parts_are = eqb-true m.parts b.parts first.1 in
    let all = eqb-true (b.part + 1) b.parts whole.1 in
    omega (arith, part_is, parts_are, counts, all)

-- a foot that stands has a whole block
foot_stands : (bytes : List ℕ) (block : ℕ) (o : Option Foot) → stands_at bytes block o ≡ true → (f : Foot) × (o ≡ Some f) × (512 * block + 512 ≤ length bytes)
foot_stands bytes block None is = absurd cc
foot_stands bytes block (Some f) is =
    let same = (bytes_eq-Decides (block_at bytes block) (foot_block f)).0 is in
    let long = ap length same in
    (f, refl, omega (arith, long, length-foot_block f, length-take 512 (drop (512 * block) bytes), length-drop (512 * block) bytes))

-- Where a cut zone has a foot, it has all records of the zone, and a block behind them.
pub foot_is_last : (n : ℕ) (array : Array) (bytes : List ℕ) (ms : List Marker) → begun array bytes ≡ ms → is_rebuilt ms ≡ false → has_foot array (take n bytes) ≡ true → 512 * end_from 0 ms + 512 ≤ length (take n bytes)
unfolding has_foot foot_follows
foot_is_last n array bytes ms all first foot =
    let part = begun-cut n array bytes in
    let split : ms ≡ begun array (take n bytes) ++ part.0 = sym all ∙ part.1 in
    let whole = whole_records-first array (take n bytes) (rebuilt-first (begun array (take n bytes)) part.0 (ap is_rebuilt (sym split) ∙ first)) in
    let stands : stands_at (take n bytes) (end_from 0 (begun array (take n bytes))) (foot_of (begun array (take n bytes))) ≡ true = ap (foot_follows (take n bytes)) (sym whole) ∙ foot in
    let there = foot_stands (take n bytes) (end_from 0 (begun array (take n bytes))) (foot_of (begun array (take n bytes))) stands in
    at part.0 split there.0 there.1 there.2
  where
    at : (rest : List Marker) → ms ≡ begun array (take n bytes) ++ rest → (f : Foot) → foot_of (begun array (take n bytes)) ≡ Some f → 512 * end_from 0 (begun array (take n bytes)) + 512 ≤ length (take n bytes) → 512 * end_from 0 ms + 512 ≤ length (take n bytes)
    at [] split f is within = let same = ap (end_from 0) (split ∙ append-nil (begun array (take n bytes))) in omega (arith, same, within)
    at (m ∷ more) split f is within = absurd (none_behind array bytes (begun array (take n bytes)) m more f (subst (λ (l : List Marker). Stand array bytes None 0 l) (all ∙ split) (Begin-begun array bytes)) is)

module _ (n : ℕ) (w : Writer) (es : List Entry) (index : ℕ) (below : index < w.geometry.k + w.geometry.p) (wrote : Wrote w es) (foot : has_foot (array_by w) (take n (zone_bytes w es index)) ≡ true) where
  reaches : 512 * end_from 0 (markers_at index (records_of w es)) + 512 ≤ length (take n (zone_bytes w es index))
  reaches = foot_is_last n (array_by w) (zone_bytes w es index) (markers_at index (records_of w es)) (zone_is w es index below wrote) (zone_first w es index below wrote) foot

  pub foot_is_whole : (w.is_closed ≡ true) × (take n (zone_bytes w es index) ≡ zone_bytes w es index)
  foot_is_whole = at w.is_closed refl reaches
    where
      at : (b : Bool) → w.is_closed ≡ b → 512 * end_from 0 (markers_at index (es ++ cond b (digest (written w w.set es)) [])) + 512 ≤ length (take n (zone_bytes w es index)) → (w.is_closed ≡ true) × (take n (zone_bytes w es index) ≡ zone_bytes w es index)
      at true is far = let long = (closed_zone w es index below is wrote).3 in (is, take_all n (zone_bytes w es index) (omega (arith, far, long, length-take n (zone_bytes w es index))))
      at false is far =
          let long = ap length (zone_open w es index is) in
          let here = length-entries (array_by w) w.set 0 w.geometry.k index es refl below wrote.records in
          let nothing = ap (λ (l : List Entry). blocks_in l) (append-nil es) in
          absurd (omega (arith, far, long, here, nothing, end_from-blocks index 0 (es ++ []), length-take n (zone_bytes w es index)))
