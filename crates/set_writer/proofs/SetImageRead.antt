-- What a crash left of a set is read as it was written.
use Rattle.std.proofs.Common.{◌≡◌, ℕ, ◌+◌, ◌*◌, ◌<◌, ◌≤◌, List, [], ◌∷◌, ◌++◌, length, map, take, drop, Some, refl, sym, ap, ◌∙◌, arith, length-take, take-append-drop, append_assoc}
use Rattle.std.specs.List.{AllByRecursion}
use Rattle.std.proofs.lemmas.List.{append-nil, length-map, map-append}
use Rattle.zone_bay.specs.Contents.{Contents, Lengths}
use Rattle.zone_bay.specs.Bay.{BayState}
use Rattle.marker_format.specs.declared.marker.Marker.{Marker}
use Rattle.marker_format.specs.Zone.{Array, whole_records}
use Rattle.marker_format.proofs.ZoneLaws.{Stand-within}
use Rattle.array_model.specs.Drives.{records_at, bytes_at}
use Rattle.array_model.specs.Kept.{HavePayloads}
use Rattle.array_model.specs.Reading.{Carrier, carrier_of, fragments_of, agreed, records_from}
use Rattle.array_model.proofs.Agreed.{held_by_each}
use Rattle.array_model.proofs.Carriers.{carries_some}
use Rattle.array_model.proofs.SameZones.{all-map, all-take}
use Rattle.array_model.proofs.Settled.{whole_stand}
use Rattle.set_table.specs.Table.{Table}
use Rattle.set_writer.specs.Entry.{Entry, at_index, entries_bytes, IsEntry}
use Rattle.set_table.specs.Table.{array_of}
use Rattle.set_writer.specs.Writer.{opening, blocks_in}
use Rattle.set_writer.specs.Laws.{markers_at}
use Rattle.set_writer.specs.ImageLaws.{SetBytes, bytes_opened, AreSetBytes, View, places_of, carriers_in, AgreeOn, IsCut, MayOpen}
use Rattle.set_writer.specs.PayloadLaws.{item_of, IsCoded, BeginsWith, AreEnough}
use Rattle.set_writer.specs.SetReadLaws.{AreRead, SetImageIsRead, OpenedImageIsRead, OpeningIsRead, NextIsRead, SetImageHasPayloads, OpenedImageHasPayloads}
use Rattle.set_writer.proofs.AgreedRead.{first_end, all_those, all_two, agreed_few}
use Rattle.set_writer.proofs.ByteLaws.{opening_bytes}
use Rattle.set_writer.proofs.CutRead.{records_coded, take-behind, entries_join}
use Rattle.set_writer.proofs.EntryLaws.{length-all_entries}
use Rattle.set_writer.proofs.FormedLaws.{same_array}
use Rattle.set_writer.proofs.FoundCarriers.{found_distinct}
use Rattle.set_writer.proofs.OpeningImages.{opening_are, opened_are_set_bytes, array_f}
use Rattle.set_writer.proofs.ReadBack.{carriers_have_payloads}
use Rattle.set_writer.proofs.RecordsRead.{carriers_give_records}

-- the carrier holds a prefix of what its zone was to hold
record HoldsCut (s : SetBytes) (held : Contents) (c : Carrier) : Type 0 where
  below : c.index < fragments_of s.array
  cut : ℕ
  bytes : bytes_at held c.place ≡ take cut (s.zone c.index)

module _ (s : SetBytes) (are : AreSetBytes s) (read : AreRead s) where
  -- a cut zone with so many whole records is as long as these
  zone_long : (n count index : ℕ) → index < fragments_of s.array → count ≤ length (whole_records s.array (take n (s.zone index))) → 512 * blocks_in (take count s.records) ≤ n
  zone_long n count index below few =
      let zone = take n (s.zone index) in
      let has = are.first n index below in
      let split : markers_at index s.records ≡ whole_records s.array (take n (s.zone index)) ++ markers_at index (drop has.count s.records) =
      ap (markers_at index) (sym (take-append-drop has.count s.records))
      ∙ map-append (λ (e : Entry). at_index index e.marker) (take has.count s.records) (drop has.count s.records)
      ∙ ap (λ (l : List Marker). l ++ markers_at index (drop has.count s.records)) (sym has.records) in
      let end = first_end index 0 count s.records (whole_records s.array (take n (s.zone index))) (markers_at index (drop has.count s.records)) split few in
      let within = Stand-within s.array zone _ 0 (whole_records s.array zone) (whole_stand s.array zone) (omega arith) in
      omega (arith, end, within, length-take n (s.zone index))

  entries_are : (es : List Entry) → AllByRecursion (IsCoded s.array) es → AllByRecursion (IsEntry s.array) es
  entries_are es coded = all-map (IsCoded s.array) (IsEntry s.array) es (λ e c. c.entry) coded

  -- and begins with their blocks
  zone_begins : (n count index : ℕ) → index < fragments_of s.array → 512 * blocks_in (take count s.records) ≤ n → (rest : List ℕ) × (take n (s.zone index) ≡ entries_bytes s.array.geometry.k (take count s.records) index ++ rest)
  zone_begins n count index below long =
      let zone = read.zones index below in
      let size = length-all_entries s.array s.array.geometry.k index (take count s.records) refl below (all-take (IsEntry s.array) count s.records (entries_are s.records read.coded)) in
      let behind = take-behind n (entries_bytes s.array.geometry.k (take count s.records) index) (entries_bytes s.array.geometry.k (drop count s.records) index ++ zone.0) (omega (arith, size, long)) in (
        behind.0,
        ap (take n) (zone.1
            ∙ ap (λ (l : List Entry). entries_bytes s.array.geometry.k l index ++ zone.0) (sym (take-append-drop count s.records))
            ∙ ap (λ (l : List ℕ). l ++ zone.0) (entries_join s.array.geometry.k index (take count s.records) (drop count s.records))
            ∙ append_assoc (entries_bytes s.array.geometry.k (take count s.records) index) (entries_bytes s.array.geometry.k (drop count s.records) index) zone.0)
            ∙ behind.1,
      )

  -- carriers that agree on the first records begin with these
  begin_each : (held : Contents) (carriers : List Carrier) (count : ℕ) → count ≤ length (agreed s.array held carriers) → AllByRecursion (HoldsCut s held) carriers → AllByRecursion (BeginsWith s.array (take count s.records) held) carriers
  begin_each held carriers count few holds = all_two (HoldsCut s held) (BeginsWith s.array (take count s.records) held) carriers holds (all_those (λ (c : Carrier). HoldsCut s held c → BeginsWith s.array (take count s.records) held c) carriers (λ c among cut.
      let some = agreed_few (agreed s.array held carriers) (records_at s.array held c.place) (held_by_each s.array held carriers c among) in
      let is : whole_records s.array (bytes_at held c.place) ≡ whole_records s.array (take cut.cut (s.zone c.index)) = ap (whole_records s.array) cut.bytes in
      let begins = zone_begins cut.cut count c.index cut.below (zone_long cut.cut count c.index cut.below (omega (arith, some, few, ap length is))) in
      record { below = cut.below; rest = begins.0; bytes = cut.bytes ∙ begins.1 }))

  agreed_read : (held : Contents) (cs : List Carrier) (count : ℕ) → AreEnough s.array cs → AllByRecursion (HoldsCut s held) cs → count ≤ length s.records → AgreeOn s.array held cs (take count s.records)
      → records_from s.array held cs 0 (agreed s.array held cs) ≡ map item_of (take count s.records)
  agreed_read held [] count enough holds few agree = let some = read.within.k_from in let all = enough.enough in absurd (omega (arith, some, all))
  agreed_read held (c ∷ cs) count enough holds few agree =
      let long : length (agreed s.array held (c ∷ cs)) ≡ count = ap length agree ∙ length-map (take count s.records) (λ (e : Entry). at_index c.index e.marker) ∙ (let l = length-take count s.records in omega (arith, l, few)) in
      ap (records_from s.array held (c ∷ cs) 0) agree
      ∙ carriers_give_records s.array (take count s.records) held (c ∷ cs) c.index (record {
        within = read.within;
        coded = all-take (IsCoded s.array) count s.records read.coded;
        each = begin_each held (c ∷ cs) count (omega (arith, long)) holds;
      }) enough

  agreed_payloads : (held : Contents) (cs : List Carrier) (count : ℕ) → AllByRecursion (HoldsCut s held) cs → count ≤ length s.records → AgreeOn s.array held cs (take count s.records) → HavePayloads s.array held cs count
  agreed_payloads held [] count holds few agree [] after m same less = absurd cc
  agreed_payloads held [] count holds few agree (b ∷ before) after m same less = absurd cc
  agreed_payloads held (c ∷ cs) count holds few agree before after m same less =
      let all = length-take count s.records in
      let long : length (agreed s.array held (c ∷ cs)) ≡ count = ap length agree ∙ length-map (take count s.records) (λ (e : Entry). at_index c.index e.marker) ∙ (omega (arith, all, few)) in
      carriers_have_payloads s.array (take count s.records) held (c ∷ cs) c.index [] (record {
        within = read.within;
        coded = all-take (IsCoded s.array) count s.records read.coded;
        each = begin_each held (c ∷ cs) count (omega (arith, long)) holds;
      }) (agree ∙ sym (append-nil (markers_at c.index (take count s.records)))) before after m same (omega (arith, less, all, few))

holds_cut : (s : SetBytes) (t : Table) (firm : Lengths) (view : View) (c : Carrier) → s.array ≡ array_of t → IsCut s t firm view c → HoldsCut s view.held c
holds_cut s t firm view c array cut =
    let n = ap (λ (a : Array). a.geometry.k + a.geometry.p) array in
    let below = cut.below in
    record { below = omega (arith, below, n); cut = cut.bytes.0; bytes = cut.bytes.2 }

pub own_index : (array : Array) (view : View) (set' i : ℕ) (c : Carrier) → carrier_of array view.held (places_of view) set' i ≡ Some c → c.index ≡ i
own_index array view set' i c is = (carries_some i _ c is).1

pub set_image_is_read : SetImageIsRead
set_image_is_read s t firm view first array are read enough =
    agreed_read s are read view.held (carriers_in view s) first.count
    (record { distinct = found_distinct (carrier_of s.array view.held (places_of view) s.set) (own_index s.array view s.set) 0 (fragments_of s.array); enough = enough })
    (all-map (IsCut s t firm view) (HoldsCut s view.held) (carriers_in view s) (λ c. holds_cut s t firm view c array) first.cut) first.within first.agree

pub set_image_has_payloads : SetImageHasPayloads
set_image_has_payloads s t firm view first array are read =
    agreed_payloads s are read view.held (carriers_in view s) first.count (all-map (IsCut s t firm view) (HoldsCut s view.held) (carriers_in view s) (λ c. holds_cut s t firm view c array) first.cut) first.within first.agree

-- ---- a set that is opened

opened_read : (set' : ℕ) (cuts : List (ℕ × ℕ)) (t : Table) → MayOpen set' cuts t → AreRead (bytes_opened (array_of t) set' cuts)
opened_read set' cuts t may = record {
  within = may.together.within;
  coded = records_coded (array_of t) set' 0 (opening (array_of t) set' cuts) (opening_are (array_of t) set' may.together.within may.id may.from may.to cuts may.cuts_are may.kept) (opening_bytes (array_of t) set' cuts);
  zones = λ index below. ([], sym (append-nil (entries_bytes t.geometry.k (opening (array_of t) set' cuts) index)));
}

pub opened_image_is_read : OpenedImageIsRead
opened_image_is_read set' cuts t formed firm view first may array =
    set_image_is_read (bytes_opened (array_of t) set' cuts) formed firm view first (sym array) (opened_are_set_bytes set' cuts t may) (opened_read set' cuts t may)

pub opened_image_has_payloads : OpenedImageHasPayloads
opened_image_has_payloads set' cuts t formed firm view first may array =
    set_image_has_payloads (bytes_opened (array_of t) set' cuts) formed firm view first (sym array) (opened_are_set_bytes set' cuts t may) (opened_read set' cuts t may)

pub opening_is_read : (old new : BayState) → OpeningIsRead old new
opening_is_read old new set' cuts t t' held firm view is first = opened_image_is_read set' cuts t is.opens.formed firm view first is.may (array_f set' cuts t t' held old new is)

pub next_is_read : (old new : BayState) → NextIsRead old new
next_is_read old new set' least w w' es t t' held firm view is first =
    opened_image_is_read set' [] t is.follows.formed firm view first is.may (same_array is.follows.closed_table is.follows.formed set' is.follows.members is.follows.forms ∙ ap (λ (s : Table). array_of s) is.follows.lost)
