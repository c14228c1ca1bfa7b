-- What a cut zone of a set begins with.
use Rattle.std.proofs.Common.{◌≡◌, ℕ, suc, zero, ◌+◌, ◌-◌, ◌≤◌, Bool, true, false, cond, List, [], ◌∷◌, ◌++◌, length, map, take, drop, refl, sym, ap, ◌∙◌, subst, arith, append_assoc, take-append-drop}
use Rattle.std.specs.List.{AllByRecursion, range_with_len}
use Rattle.std.proofs.lemmas.List.{append-nil}
use Rattle.std.proofs.lemmas.Grind.{flat_map-append}
use Rattle.std.proofs.Math.Seq.{take-append-add}
use Rattle.gf_field.specs.Field.{AreBytes}
use Rattle.zone_bay.specs.Contents.{Contents}
use Rattle.marker_format.specs.Zone.{Array}
use Rattle.array_model.specs.Reading.{Carrier}
use Rattle.array_model.proofs.SameZones.{all-map, all-take, all-append}
use Rattle.set_writer.specs.Entry.{Entry, entry_bytes, entries_bytes, IsEntry, HasBytes}
use Rattle.set_writer.specs.Writer.{Writer, array_by, written, parts_of, digest_record, digest, foot_bytes, zone_bytes, CanDigest, AreRecordsFrom, Wrote}
use Rattle.set_writer.specs.Laws.{records_of}
use Rattle.set_writer.specs.PayloadLaws.{IsCoded, BeginsWith, HoldsFirst, RecordsAreCoded, CutZoneBegins, WrittenIsRead}
use Rattle.set_writer.proofs.DigestLaws.{digest_is_entry}
use Rattle.set_writer.proofs.EntryLaws.{length-all_entries}
use Rattle.set_writer.proofs.LineBytes.{lines_bytes, part_bytes}
use Rattle.set_writer.proofs.RecordsRead.{carriers_give_records}
use Rattle.set_writer.proofs.WroteLaws.{written-stays, entries_are}

-- ---- its records

pub records_coded : (array : Array) (set' position : ℕ) (es : List Entry) → AreRecordsFrom array set' position es → AllByRecursion HasBytes es → AllByRecursion (IsCoded array) es
records_coded array set' position [] are bytes = tt
records_coded array set' position (e ∷ es) are bytes = (record { entry = are.0.entry; bytes = bytes.0.payload }, records_coded array set' (position + 1) es are.1 bytes.1)

digests_coded : (w : Writer) (from count : ℕ) → CanDigest w → AreBytes w.lines → from + count ≤ parts_of w → AllByRecursion (IsCoded (array_by w)) (map (digest_record w) (range_with_len from count))
digests_coded w from zero can bytes within = tt
digests_coded w from (suc count) can bytes within =
    (record { entry = digest_is_entry w can from (omega (arith, within)); bytes = part_bytes w from bytes }, digests_coded w (from + 1) count can bytes (omega (arith, within)))

pub same_array : (w : Writer) (set' : ℕ) (es : List Entry) → array_by (written w set' es) ≡ array_by w
same_array w set' es = let st = written-stays w set' es in let g = st.geometry in let i = st.id in cc

closing_coded : (c : Bool) (w : Writer) (es : List Entry) → w.is_closed ≡ c → Wrote w es → AllByRecursion HasBytes es → AllByRecursion (IsCoded (array_by w)) (cond c (digest (written w w.set es)) [])
closing_coded false w es is wrote bytes = tt
closing_coded true w es is wrote bytes =
    let v = written w w.set es in
    subst (λ (a : Array). AllByRecursion (IsCoded a) (digest (written w w.set es))) (same_array w w.set es) (digests_coded v 0 (parts_of v) (wrote.can is) (lines_bytes w w.set es bytes) (omega arith))

pub records_are_coded : RecordsAreCoded
records_are_coded w es wrote bytes = all-append (IsCoded (array_by w)) es _ (records_coded (array_by w) w.set 0 es wrote.records bytes) (closing_coded w.is_closed w es refl wrote bytes)

-- ---- its bytes

pub entries_join : (k index : ℕ) (es more : List Entry) → entries_bytes k (es ++ more) index ≡ entries_bytes k es index ++ entries_bytes k more index
entries_join k index es more = flat_map-append (λ (e : Entry). entry_bytes k e index) es more

-- they begin with those of its records
pub zone_begins : (w : Writer) (es : List Entry) (index : ℕ) → (rest : List ℕ) × (zone_bytes w es index ≡ entries_bytes w.geometry.k (records_of w es) index ++ rest)
zone_begins w es index = at w.is_closed
  where
    v : Writer
    v = written w w.set es

    at : (c : Bool) → (rest : List ℕ) × (entries_bytes w.geometry.k es index ++ cond c (entries_bytes w.geometry.k (digest (written w w.set es)) index ++ foot_bytes (written w w.set es) index) [] ≡ entries_bytes w.geometry.k (es ++ cond c (digest (written w w.set es)) []) index ++ rest)
    at false = ([], sym (ap (λ (l : List Entry). entries_bytes w.geometry.k l index ++ []) (append-nil es)))
    at true = (
      foot_bytes (written w w.set es) index,
      sym (append_assoc (entries_bytes w.geometry.k es index) (entries_bytes w.geometry.k (digest (written w w.set es)) index) (foot_bytes (written w w.set es) index))
          ∙ ap (λ (l : List ℕ). l ++ foot_bytes (written w w.set es) index) (sym (entries_join w.geometry.k index es (digest (written w w.set es)))),
    )

-- its records stand in the array
pub records_entries : (c : Bool) (w : Writer) (es : List Entry) → w.is_closed ≡ c → Wrote w es → AllByRecursion (IsEntry (array_by w)) (es ++ cond c (digest (written w w.set es)) [])
records_entries c w es is wrote = all-append (IsEntry (array_by w)) es _ (entries_are (array_by w) w.set 0 es wrote.records) (closing c is)
  where
    digests : (v : Writer) (from count : ℕ) → CanDigest v → from + count ≤ parts_of v → AllByRecursion (IsEntry (array_by v)) (map (digest_record v) (range_with_len from count))
    digests v from zero can within = tt
    digests v from (suc count) can within = (digest_is_entry v can from (omega (arith, within)), digests v (from + 1) count can (omega (arith, within)))

    closing : (c : Bool) → w.is_closed ≡ c → AllByRecursion (IsEntry (array_by w)) (cond c (digest (written w w.set es)) [])
    closing false is = tt
    closing true is = subst (λ (a : Array). AllByRecursion (IsEntry a) (digest (written w w.set es))) (same_array w w.set es) (digests (written w w.set es) 0 (parts_of (written w w.set es)) (wrote.can is) (omega arith))

pub take-behind : (n : ℕ) (xs ys : List ℕ) → length xs ≤ n → (rest : List ℕ) × (take n (xs ++ ys) ≡ xs ++ rest)
take-behind n xs ys long =
    let split : n ≡ length xs + (n - length xs) = omega (arith, long) in
    (take (n - length xs) ys, ap (λ m. take m (xs ++ ys)) split ∙ take-append-add xs ys (n - length xs))

pub cut_zone_begins : CutZoneBegins
cut_zone_begins n count w es index below wrote long =
    let k = w.geometry.k in
    let all = records_of w es in
    let first = take count (records_of w es) in
    let after = drop count (records_of w es) in
    let zone = zone_begins w es index in
    let size = length-all_entries (array_by w) w.geometry.k index (take count (records_of w es)) refl below (all-take (IsEntry (array_by w)) count (records_of w es) (records_entries w.is_closed w es refl wrote)) in
    let behind = take-behind n (entries_bytes w.geometry.k (take count (records_of w es)) index) (entries_bytes w.geometry.k (drop count (records_of w es)) index ++ zone.0) (omega (arith, size, long)) in (
      behind.0,
      ap (take n) (zone.1
          ∙ ap (λ (l : List Entry). entries_bytes w.geometry.k l index ++ zone.0) (sym (take-append-drop count (records_of w es)))
          ∙ ap (λ (l : List ℕ). l ++ zone.0) (entries_join w.geometry.k index (take count (records_of w es)) (drop count (records_of w es)))
          ∙ append_assoc (entries_bytes w.geometry.k (take count (records_of w es)) index) (entries_bytes w.geometry.k (drop count (records_of w es)) index) zone.0)
          ∙ behind.1,
    )

-- ---- so they are read

pub holds_begins : (w : Writer) (es : List Entry) (count : ℕ) (held : Contents) (c : Carrier) → Wrote w es → HoldsFirst w es count held c → BeginsWith (array_by w) (take count (records_of w es)) held c
holds_begins w es count held c wrote holds =
    let begins = cut_zone_begins holds.cut count w es c.index holds.below wrote holds.long in
    record { below = holds.below; rest = begins.0; bytes = holds.bytes ∙ begins.1 }

pub written_is_read : WrittenIsRead
written_is_read w es count held carriers index within wrote bytes enough holds =
    carriers_give_records (array_by w) (take count (records_of w es)) held carriers index (record {
      within = within;
      coded = all-take (IsCoded (array_by w)) count (records_of w es) (records_are_coded w es wrote bytes);
      each = all-map (HoldsFirst w es count held) (BeginsWith (array_by w) (take count (records_of w es)) held) carriers (λ c. holds_begins w es count held c wrote) holds;
    }) enough
