-- A zone that holds a set, where a part of a record may stand behind its records: these say all, and what stands behind them nothing.
use Rattle.std.proofs.Common.{◌≡◌, ℕ, ◌*◌, ◌<◌, ◌≤◌, Bool, true, false, List, length, take, drop, None, is_some, refl, sym, ap, subst, ◌∙◌, arith}
use Rattle.std.specs.Prelude.{not}
use Rattle.std.specs.List.{list_any}
use Rattle.std.proofs.lemmas.Bool.{eqb-true}
use Rattle.std.proofs.lemmas.List.{length-take, take-append-drop}
use Rattle.zone_bay.specs.Contents.{Shape, Contents, with_zone}
use Rattle.zone_bay.proofs.Extends.{at_zone}
use Rattle.marker_format.specs.declared.kind.Kind.TheVariants.{Ready, Digest}
use Rattle.marker_format.specs.declared.marker.Marker.{Marker}
use Rattle.marker_format.specs.Zone.{Array, end_from, has_kind, whole_records}
use Rattle.marker_format.proofs.ZoneLaws.{Stand-within, Begin-cut}
use Rattle.array_model.specs.Drives.{label_on}
use Rattle.array_model.specs.Reading.{read_of}
use Rattle.array_model.specs.Map.{map_of}
use Rattle.store_core.specs.declared.zone_records.ZoneRecords.{ZoneRecords}
use Rattle.store_core.specs.Said.{Says}
use Rattle.store_core.specs.Zone.{set_of, index_of, next_stamp, standing_in}
use Rattle.store_core.specs.Opening.{HoldsSet, IsOpenZone, IsAlone}
use Rattle.store_core.specs.Found.{IsLabelled, IsRead}
use Rattle.store_core.specs.Held.{IsHeld, IsFull}
use Rattle.store_core.proofs.OpenZones.{IsFilled, filled_whole}
use Rattle.store_core.proofs.SetRecords.{whole_begin}
use Rattle.store_core.proofs.ZoneItems.{items_from, items-front}
use Rattle.store_core.proofs.ObjectMaps.{objects_of}
use Rattle.store_core.proofs.Held.{map_ready, alone_with, label_with}

-- ---- the records alone

module _ (array : Array) (bytes : List ℕ) (holds : HoldsSet array bytes) where
  abbrev markers : List Marker
  markers = whole_records array bytes

  abbrev pub records_end : ℕ
  records_end = 512 * end_from 0 markers

  abbrev pub records_alone : List ℕ
  records_alone = take records_end bytes

  pub end_within : records_end ≤ length bytes
  end_within = Stand-within array bytes None 0 markers (whole_begin array bytes) (omega arith)

  pub alone_filled : IsFilled array records_alone markers
  alone_filled = record {
    fill = record { begin = Begin-cut records_end array bytes markers (whole_begin array bytes) (omega arith); full = omega (arith, length-take records_end bytes, end_within) };
    first = holds.first;
  }

  pub alone_whole : whole_records array records_alone ≡ markers
  alone_whole = filled_whole array records_alone markers alone_filled

  pub alone_open : IsOpenZone array records_alone
  alone_open = record {
    full = ap (λ (l : List Marker). 512 * end_from 0 l) alone_whole ∙ alone_filled.fill.full;
    ready = ap (list_any (has_kind Ready)) alone_whole ∙ holds.ready;
    no_digest = ap (list_any (has_kind Digest)) alone_whole ∙ holds.no_digest;
  }

  pub alone_items : array.geometry.k ≡ 1 → items_from bytes 0 markers ≡ items_from records_alone 0 markers
  alone_items one =
      ap (λ (l : List ℕ). items_from l 0 markers) (sym (take-append-drop records_end bytes))
      ∙ items-front array records_alone (drop records_end bytes) None 0 markers one alone_filled.fill.begin

-- ---- what is read of them

module _ (array : Array) (shape : Shape) (held : Contents) (holds : HoldsSet array (held 0 2)) (blocks : ℕ) (is : blocks ≡ end_from 0 (whole_records array (held 0 2))) where
  abbrev pub used_bytes : List ℕ
  used_bytes = take (512 * blocks) (held 0 2)

  used_is : used_bytes ≡ records_alone array (held 0 2) holds
  used_is = ap (λ n. take (512 * n) (held 0 2)) is

  pub used_whole : whole_records array used_bytes ≡ whole_records array (held 0 2)
  used_whole = ap (whole_records array) used_is ∙ alone_whole array (held 0 2) holds

  pub used_open : IsOpenZone array used_bytes
  used_open = subst (IsOpenZone array) (sym used_is) (alone_open array (held 0 2) holds)

  pub used_within : 512 * blocks ≤ length (held 0 2)
  used_within = omega (arith, is, end_within array (held 0 2) holds)

  -- the map is that of the records alone
  pub map_used_alone : array.geometry.k ≡ 1 → array.geometry.p ≡ 1 → 1 < shape.devices → 2 < shape.zones → is_some (label_on shape held 0) ≡ true → IsAlone shape held
      → map_of array.geometry.k (read_of array shape (with_zone 0 2 used_bytes held)) ≡ map_of array.geometry.k (read_of array shape held)
  map_used_alone one p drives zones label alone =
      let cut : Contents = with_zone 0 2 used_bytes held in
      let same : cut 0 2 ≡ used_bytes = at_zone 0 2 used_bytes held in
      let ready : list_any (has_kind Ready) (whole_records array (cut 0 2)) ≡ true = ap (λ (l : List ℕ). list_any (has_kind Ready) (whole_records array l)) same ∙ used_open.ready in
      map_ready array shape one p drives zones cut (ap is_some (label_with shape held used_bytes) ∙ label) (alone_with shape held used_bytes alone) ready
      ∙ ap (λ (l : List ℕ). objects_of (items_from l 0 (whole_records array l))) same
      ∙ ap (λ (ms : List Marker). objects_of (items_from used_bytes 0 ms)) used_whole
      ∙ ap (λ (l : List ℕ). objects_of (items_from l 0 (whole_records array (held 0 2)))) used_is
      ∙ ap objects_of (sym (alone_items array (held 0 2) holds one))
      ∙ sym (map_ready array shape one p drives zones held label alone holds.ready)

-- ---- a core that was made of what was read

module _ (array : Array) (shape : Shape) (held : Contents) (records : ZoneRecords) (labelled : IsLabelled shape held array) (it : IsRead array (held 0 2) records) where
  pub held_read : IsHeld array records.zone records.next_stamp records.said.index shape held
  held_read =
      let whole = used_whole array shape held it.holds records.zone.blocks it.read.blocks in
      record {
        label = labelled.label;
        alone = labelled.alone;
        long = used_within array shape held it.holds records.zone.blocks it.read.blocks;
        usable = used_open array shape held it.holds records.zone.blocks it.read.blocks;
        set = it.read.set ∙ ap set_of (sym whole);
        place = it.read.index ∙ ap index_of (sym whole);
        records = it.read.records ∙ ap length (sym whole);
        later = omega (arith, it.read.stamp, ap next_stamp whole);
        says = subst (Says records.said.index) (sym whole) it.read.said.says;
      }

  pub full_read : IsFull array false records.zone held
  full_read works = record {
    whole = λ whole. sym (eqb-true _ _ (not_false _ (sym it.torn ∙ whole))) ∙ ap (λ n. 512 * n) (sym it.read.blocks);
    torn = λ torn. (it.holds, sym it.read.blocks);
  }
    where
      not_false : (b : Bool) → not b ≡ false → b ≡ true
      not_false true e = refl
      not_false false e = absurd cc

pub standing_read : (array : Array) (bytes : List ℕ) (records : ZoneRecords) → IsRead array bytes records
    → record { set = records.zone.set; blocks = records.zone.blocks; records = records.zone.records; is_torn = records.zone.is_torn; stamp = records.next_stamp } ≡ standing_in array bytes
standing_read array bytes records it = λ i. record { set = it.read.set i; blocks = it.read.blocks i; records = it.read.records i; is_torn = it.torn i; stamp = it.read.stamp i }
