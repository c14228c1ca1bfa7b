-- The zones of a set, cut off anywhere: what is found at their ends, and how many blocks they take.
use Rattle.std.proofs.Common.{◌≡◌, inl, inr, ℕ, zero, suc, ◌+◌, ◌*◌, ◌<◌, ◌≤◌, Bool, true, false, cond, List, [], ◌∷◌, ◌++◌, length, take, refl, sym, ap, subst, ◌∙◌, append_assoc, arith, length-append, length-take}
use Rattle.std.specs.List.{AllByRecursion}
use Rattle.std.proofs.lemmas.Bool.{cases_lt}
use Rattle.std.proofs.lemmas.Grind.{flat_map-append}
use Rattle.std.proofs.lemmas.List.{append-nil, take_all}
use Rattle.smore_base.specs.declared.geometry.Geometry.{Geometry}
use Rattle.marker_format.specs.Zone.{Array, end_from, begun, is_rebuilt, has_foot}
use Rattle.marker_format.proofs.ZoneLaws.{begun-full}
use Rattle.array_model.specs.Kept.{EndsAreFound, TakesFewer}
use Rattle.array_model.proofs.SameZones.{all-append}
use Rattle.set_table.specs.Table.{Table}
use Rattle.set_writer.specs.declared.first.First.TheVariants.{IsReady}
use Rattle.set_writer.specs.Entry.{Entry, entry_bytes, entries_bytes}
use Rattle.set_table.specs.Table.{array_of}
use Rattle.set_writer.specs.Writer.{Writer, array_by, written, parts_of, first_record, cuts_from, opening, digest_record, first_digests, digest, foot_at, foot_bytes, blocks_in, zone_bytes, CanDigest, AreRecordsFrom, Wrote}
use Rattle.set_writer.specs.Laws.{markers_at, records_of}
use Rattle.set_writer.specs.ImageLaws.{HasFirst, bytes_by, bytes_opened, MayOpen}
use Rattle.set_writer.specs.KeptLaws.{AreKept}
use Rattle.set_writer.proofs.DigestLaws.{digests-more, digest_is_entry, digests_most}
use Rattle.set_writer.proofs.WroteLaws.{Stays, written-stays, written-used, open_is, zone_open, length-entries}
use Rattle.set_writer.proofs.ZoneRecords.{records_fill}
use Rattle.set_writer.proofs.ClosedZones.{length-foot_block, closed_zone}
use Rattle.set_writer.proofs.CutZones.{end_from-blocks, set_not_rebuilt, cut_list_has_first, cut_zone_has_those, foot_is_last, foot_is_whole}
use Rattle.set_writer.proofs.WriterImages.{first_blocks}
use Rattle.set_writer.proofs.OpeningImages.{opening_are}
use Rattle.set_writer.proofs.KeptBlocks.{EachBlock, NoTrailer, NoFoot, IsPlain, each_front, each_cut, each_short, foot_no_trailer, no_trailers, no_feet, ends_without, ends_with}

-- ---- records

plain_records : (array : Array) (set' position index : ℕ) (es : List Entry) → index < array.geometry.k + array.geometry.p → AreRecordsFrom array set' position es → AllByRecursion (IsPlain index) es
plain_records array set' position index [] below are = tt
plain_records array set' position index (e ∷ es) below are = ((are.0.entry.markers index below, are.0.no_trailer), plain_records array set' (position + 1) index es below are.1)

plain_digests : (w : Writer) (index n : ℕ) → CanDigest w → index < w.geometry.k + w.geometry.p → n ≤ parts_of w → AllByRecursion (IsPlain index) (first_digests w n)
plain_digests w index zero can below few = tt
plain_digests w index (suc n) can below few =
    subst (AllByRecursion (IsPlain index)) (sym (ap (first_digests w) (let e : suc n ≡ n + 1 = omega arith in e) ∙ digests-more w n))
    (all-append (IsPlain index) (first_digests w n) (digest_record w n ∷ []) (plain_digests w index n can below (omega (arith, few))) (((digest_is_entry w can n few).markers index below, refl), tt))

none_left : (P : List ℕ → Type 0) → EachBlock P []
none_left P b within = absurd (omega (arith, within))

blocks_join : (es more : List Entry) → blocks_in (es ++ more) ≡ blocks_in es + blocks_in more
blocks_join [] more = omega arith
blocks_join (e ∷ es) more = let rest = blocks_join es more in omega (arith, rest)

-- ---- how many blocks

one_at_most : (b : Bool) → cond b 1 0 ≤ 1
one_at_most true = omega arith
one_at_most false = omega arith

takes_fewer : (array : Array) (index n blocks : ℕ) (es : List Entry) (zone : List ℕ) → HasFirst array index es n zone → blocks_in es + 2 ≤ blocks → TakesFewer array blocks zone
takes_fewer array index n blocks es zone has free some =
    let ends = ap (end_from 0) has.records in
    let most = one_at_most (has_foot array zone) in
    omega (arith, ends, most, free, end_from-blocks index 0 (take has.count es), first_blocks has.count es)

-- ---- records alone

module _ (array : Array) (set' index : ℕ) (es : List Entry) (below : index < array.geometry.k + array.geometry.p) (are : AreRecordsFrom array set' 0 es) (some : 0 < length es) (n : ℕ) where
  begun_is : begun array (entries_bytes array.geometry.k es index) ≡ markers_at index es
  begun_is =
      let fill = records_fill array array.geometry.k set' index 0 [] [] es refl below (record { begin = tt; full = refl }) refl are in
      begun-full array (entries_bytes array.geometry.k es index) (markers_at index es) fill.begin fill.full

  first : is_rebuilt (markers_at index es) ≡ false
  first = ap (λ (l : List Entry). is_rebuilt (markers_at index l)) (sym (append-nil es)) ∙ set_not_rebuilt array set' index es [] some are

  pub no_foot : has_foot array (take n (entries_bytes array.geometry.k es index)) ≡ true → ⊥
  no_foot foot =
      let far = foot_is_last n array (entries_bytes array.geometry.k es index) (markers_at index es) begun_is first foot in
      let long = length-entries array set' 0 array.geometry.k index es refl below are in
      omega (arith, far, long, end_from-blocks index 0 es, length-take n (entries_bytes array.geometry.k es index))

  pub list_ends : EndsAreFound array (take n (entries_bytes array.geometry.k es index))
  list_ends =
      let bytes = entries_bytes array.geometry.k es index in
      let plain = plain_records array set' 0 index es below are in
      ends_without array (take n (entries_bytes array.geometry.k es index))
      (each_cut NoTrailer n bytes (subst (EachBlock NoTrailer) (append-nil bytes) (no_trailers array.geometry.k index es [] plain (none_left NoTrailer))))
      (each_cut NoFoot n bytes (subst (EachBlock NoFoot) (append-nil bytes) (no_feet array.geometry.k index es [] plain (none_left NoFoot))))
      no_foot

-- ---- a closed set

module _ (w : Writer) (es : List Entry) (index : ℕ) (below : index < w.geometry.k + w.geometry.p) (is : w.is_closed ≡ true) (wrote : Wrote w es) (n : ℕ) where
  st : Stays w (written w w.set es) w.set
  st = written-stays w w.set es

  below_then : index < (written w w.set es).geometry.k + (written w w.set es).geometry.p
  below_then = subst (λ (g : Geometry). index < g.k + g.p) (sym st.geometry) below

  recorded : List ℕ
  recorded = entries_bytes w.geometry.k (es ++ digest (written w w.set es)) index

  zone_is : zone_bytes w es index ≡ entries_bytes w.geometry.k (es ++ digest (written w w.set es)) index ++ foot_bytes (written w w.set es) index
  zone_is =
      ap (λ c. entries_bytes w.geometry.k es index ++ cond c (entries_bytes w.geometry.k (digest (written w w.set es)) index ++ foot_bytes (written w w.set es) index) []) is
      ∙ sym (append_assoc (entries_bytes w.geometry.k es index) (entries_bytes w.geometry.k (digest (written w w.set es)) index) (foot_bytes (written w w.set es) index))
      ∙ ap (λ (l : List ℕ). l ++ foot_bytes (written w w.set es) index) (sym (flat_map-append (λ (e : Entry). entry_bytes w.geometry.k e index) es (digest (written w w.set es))))

  foot_long : length (foot_bytes (written w w.set es) index) ≡ 512
  foot_long = length-foot_block (foot_at (written w w.set es) index)

  recorded_long : length (entries_bytes w.geometry.k (es ++ digest (written w w.set es)) index) ≡ 512 * end_from 0 (markers_at index (es ++ digest (written w w.set es)))
  recorded_long =
      let all = (closed_zone w es index below is wrote).3 in
      let long = ap length zone_is in
      let foot = foot_long in
      omega (arith, all, long, foot, length-append (entries_bytes w.geometry.k (es ++ digest (written w w.set es)) index) (foot_bytes (written w w.set es) index))

  plain : AllByRecursion (IsPlain index) (es ++ digest (written w w.set es))
  plain = all-append (IsPlain index) es (digest (written w w.set es)) (plain_records (array_by w) w.set 0 index es below wrote.records) (plain_digests (written w w.set es) index (parts_of (written w w.set es)) (wrote.can is) below_then (omega arith))

  trailers : EachBlock NoTrailer (zone_bytes w es index)
  trailers =
      let foot = foot_bytes (written w w.set es) index in
      subst (EachBlock NoTrailer) (sym zone_is) (no_trailers w.geometry.k index (es ++ digest (written w w.set es)) foot plain
      (subst (EachBlock NoTrailer) (append-nil foot) (each_front NoTrailer foot [] foot_long (foot_no_trailer (foot_at (written w w.set es) index)) (none_left NoTrailer))))

  feet : EachBlock NoFoot (entries_bytes w.geometry.k (es ++ digest (written w w.set es)) index)
  feet =
      let bytes = entries_bytes w.geometry.k (es ++ digest (written w w.set es)) index in
      subst (EachBlock NoFoot) (append-nil bytes) (no_feet w.geometry.k index (es ++ digest (written w w.set es)) [] plain (none_left NoFoot))

  cut_ends : n < length (zone_bytes w es index) → EndsAreFound (array_by w) (take n (zone_bytes w es index))
  cut_ends short =
      let bytes = entries_bytes w.geometry.k (es ++ digest (written w w.set es)) index in
      let foot = foot_bytes (written w w.set es) index in
      let long = ap length zone_is in
      let one = foot_long in
      ends_without (array_by w) (take n (zone_bytes w es index)) (each_cut NoTrailer n (zone_bytes w es index) trailers)
      (subst (λ (l : List ℕ). EachBlock NoFoot (take n l)) (sym zone_is) (each_short NoFoot n (end_from 0 (markers_at index (es ++ digest (written w w.set es)))) bytes foot recorded_long (omega (arith, short, long, one, length-append bytes foot)) feet))
      (λ there. let whole = ap length (foot_is_whole n w es index below wrote there).1 in omega (arith, whole, short, length-take n (zone_bytes w es index)))

  whole_ends : EndsAreFound (array_by w) (zone_bytes w es index)
  whole_ends =
      let closed_ = closed_zone w es index below is wrote in
      ends_with (array_by w) (zone_bytes w es index) trailers closed_.1 (let same = ap (end_from 0) closed_.0 in let all = closed_.3 in omega (arith, same, all))

  pub closed_ends : EndsAreFound (array_by w) (take n (zone_bytes w es index))
  closed_ends = elim (cases_lt n (length (zone_bytes w es index))) [
    | inl short ↦ cut_ends short
    | inr all ↦ subst (EndsAreFound (array_by w)) (sym (take_all n (zone_bytes w es index) all)) whole_ends
  ]

-- ---- what a writer wrote

written_ends : (b : Bool) (w : Writer) (es : List Entry) (n index : ℕ) → w.is_closed ≡ b → index < w.geometry.k + w.geometry.p → Wrote w es → EndsAreFound (array_by w) (take n (zone_bytes w es index))
written_ends true w es n index is below wrote = closed_ends w es index below is wrote n
written_ends false w es n index is below wrote = subst (λ (l : List ℕ). EndsAreFound (array_by w) (take n l)) (sym (zone_open w es index is)) (list_ends (array_by w) w.set index es below wrote.records wrote.some n)

-- all leaves room for a foot and a block
written_blocks : (b : Bool) (w : Writer) (es : List Entry) → w.is_closed ≡ b → Wrote w es → (w.is_closed ≡ false → CanDigest w) → blocks_in (es ++ cond b (digest (written w w.set es)) []) + 2 ≤ w.geometry.blocks
written_blocks true w es is wrote can =
    let before = written w w.set es in
    let could = wrote.can is in
    let room = could.blocks in
    let most = digests_most (written w w.set es) could (parts_of (written w w.set es)) (omega arith) in
    let same = ap (λ (g : Geometry). g.blocks) (written-stays w w.set es).geometry in
    omega (arith, room, most, same, written-used w w.set es, blocks_join es (digest (written w w.set es)))
written_blocks false w es is wrote can =
    let room = (can is).blocks in
    let used : w.used ≡ blocks_in es = ap (λ (v : Writer). v.used) (open_is w es is wrote) ∙ written-used w w.set es in
    omega (arith, room, used, blocks_join es [])

pub written_are_kept : (w : Writer) (es : List Entry) → Wrote w es → (w.is_closed ≡ false → CanDigest w) → AreKept (bytes_by w es)
written_are_kept w es wrote can = record {
  ends = λ n index below. written_ends w.is_closed w es n index refl below wrote;
  blocks = λ n index below. takes_fewer (array_by w) index n w.geometry.blocks (records_of w es) (take n (zone_bytes w es index)) (cut_zone_has_those w es index below wrote n) (written_blocks w.is_closed w es refl wrote can);
}

-- ---- what a set is opened with

cuts_blocks : (array : Array) (set' position last : ℕ) (cuts : List (ℕ × ℕ)) → blocks_in (cuts_from array set' position cuts ++ first_record array set' last IsReady ∷ []) ≡ length cuts + 1
cuts_blocks array set' position last [] = refl
cuts_blocks array set' position last (cut ∷ cuts) = let rest = cuts_blocks array set' (position + 1) last cuts in omega (arith, rest)

pub opened_are_kept : (set' : ℕ) (cuts : List (ℕ × ℕ)) (t : Table) → MayOpen set' cuts t → AreKept (bytes_opened (array_of t) set' cuts)
opened_are_kept set' cuts t may =
    let array = array_of t in
    let within = may.together.within in
    let are = opening_are (array_of t) set' may.together.within may.id may.from may.to cuts may.cuts_are may.kept in
    record {
      ends = λ n index below. list_ends (array_of t) set' index (opening (array_of t) set' cuts) below are (omega arith) n;
      blocks = λ n index below.
          let few = may.cuts_are.few in
          let room = within.blocks_from in
          takes_fewer (array_of t) index n t.geometry.blocks (opening (array_of t) set' cuts) (take n (entries_bytes t.geometry.k (opening (array_of t) set' cuts) index)) (cut_list_has_first n (array_of t) set' index (opening (array_of t) set' cuts) below are)
          (omega (arith, few, room, cuts_blocks (array_of t) set' 1 (1 + length cuts) cuts));
    }
