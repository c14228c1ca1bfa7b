-- What is known of a zone by the records that its reader gave.
use Rattle.std.proofs.Common.{◌≡◌, ℕ, ◌*◌, ◌<◌, ◌≤◌, true, false, List, [], ◌∷◌, ◌++◌, length, Option, Some, None, IfSome, sym, ap, subst, ◌∙◌, append_assoc}
use Rattle.std.specs.Prelude.{◌==◌, not, option_map}
use Rattle.std.specs.List.{list_any}
use Rattle.std.proofs.lemmas.List.{append-nil}
use Rattle.smore_base.proofs.Told.{IfSome-both}
use Rattle.zone_bay.specs.Contents.{Contents}
use Rattle.zone_bay.specs.Bay.{BayState}
use Rattle.marker_format.specs.declared.kind.Kind.TheVariants.{Ready}
use Rattle.marker_format.specs.declared.marker.Marker.{Marker}
use Rattle.marker_format.specs.Zone.{Array, end_from, has_kind, with_more, whole_records}
use Rattle.zone_parse.specs.declared.zone_reader.ZoneReader.{ZoneReader}
use Rattle.zone_parse.specs.ZoneReader.{IsIn, Reads, CanRead, records_left, Gives}
use Rattle.store_core.specs.declared.zone_records.ZoneRecords.{ZoneRecords}
use Rattle.store_core.specs.Opening.{HoldsSet}
use Rattle.store_core.specs.Found.{IsRead}
use Rattle.store_core.specs.ZoneRecords.{HasRead, CanBeAdded}
use Rattle.store_core.proofs.SetRecords.{AreOpen, holds_set, can_be_added}

-- the reader of the store's zone can read it
pub can_read : (bay : BayState) (r : ZoneReader) (array : Array) (written : ℕ) → Reads r 0 2 written array → 0 < bay.shape.devices → 2 < bay.shape.zones → IfSome bay.contents (λ held. length (held 0 2) ≡ written) → CanRead r bay
can_read bay r array written is drives zones size = subst (IsIn bay) (sym is) (record { device = drives; zone = zones; written = at_one bay.contents size })
  where
    at_one : (c : Option Contents) → IfSome c (λ held. length (held 0 2) ≡ written) → IfSome (option_map (λ held. held 0 2) c) (λ bytes. length bytes ≡ written)
    at_one None it = tt
    at_one (Some held) it = it

module _ (array : Array) (old now : Option Contents) (same : now ≡ old) (r : ZoneReader) (written : ℕ) (source : Reads r 0 2 written array)
    (records : ZoneRecords) (ms : List Marker) (read : HasRead records ms) (so_far : IfSome old (λ held. whole_records array (held 0 2) ≡ ms ++ records_left r (held 0 2))) where
  -- the reader, of zone 2 of drive 0, was asked for one more
  abbrev pub Gave : ZoneReader → Option Marker → Type 0
  Gave r' found = IfSome (option_map (λ held. held r.source.device r.source.zone) now) (λ bytes. Gives r r' found bytes)

  gave : (r' : ZoneReader) (found : Option Marker) → Gave r' found → IfSome old (λ held. whole_records array (held 0 2) ≡ ms ++ with_more found (λ _. records_left r' (held 0 2)))
  gave r' found gives = IfSome-both old _ _ _ so_far (at_one old (subst (λ (c : Option Contents). IfSome (option_map (λ held. held r.source.device r.source.zone) c) (λ bytes. Gives r r' found bytes)) same gives)) (λ held whole it. whole ∙ ap (λ (l : List Marker). ms ++ l) it.records)
    where
      at_one : (c : Option Contents) → IfSome (option_map (λ held. held r.source.device r.source.zone) c) (λ bytes. Gives r r' found bytes) → IfSome c (λ held. Gives r r' found (held 0 2))
      at_one None it = tt
      at_one (Some held) it = subst (λ (d : ℕ). Gives r r' found (held d 2)) (ap (λ s. s.device) source) (subst (λ (z : ℕ). Gives r r' found (held r.source.device z)) (ap (λ s. s.zone) source) it)

  pub read_more : (r' : ZoneReader) (found : Option Marker) (m : Marker) → found ≡ Some m → Gave r' found → IfSome old (λ held. whole_records array (held 0 2) ≡ (ms ++ m ∷ []) ++ records_left r' (held 0 2))
  read_more r' found m is_m gives = IfSome-both old _ _ _ (gave r' (Some m) (subst (Gave r') is_m gives)) so_far (λ held is was. is ∙ sym (append_assoc ms (m ∷ []) (records_left r' (held 0 2))))

  -- it gave one that a zone with a set's records hasn't
  pub read_other : (r' : ZoneReader) (found : Option Marker) (m : Marker) → found ≡ Some m → Gave r' found → array.geometry.k ≡ 1 → array.geometry.p ≡ 1 → records.shard ≡ array.geometry.shard → IfSome old (λ held. length (held 0 2) ≤ 512 * records.blocks) → (CanBeAdded records m → ⊥)
      → IfSome old (λ held. HoldsSet array (held 0 2) → ⊥)
  read_other r' found m is_m gives one two shard fits other = IfSome-both old _ _ _ (gave r' (Some m) (subst (Gave r') is_m gives)) fits (λ held is long holds. other (can_be_added array one two (held 0 2) holds ms (records_left r' (held 0 2)) m is records read shard long))

  -- it gave no more
  gave_all : (r' : ZoneReader) (found : Option Marker) → found ≡ None → Gave r' found → IfSome old (λ held. whole_records array (held 0 2) ≡ ms)
  gave_all r' found none gives = IfSome-both old _ _ _ (gave r' None (subst (Gave r') none gives)) so_far (λ held is was. is ∙ append-nil ms)

  pub read_none : (r' : ZoneReader) (found : Option Marker) → found ≡ None → Gave r' found → records.is_ready ≡ false → IfSome old (λ held. HoldsSet array (held 0 2) → ⊥)
  read_none r' found none gives ready = IfSome-both old _ _ _ (gave_all r' found none gives) so_far (λ held is was holds.
      let has : list_any (has_kind Ready) ms ≡ true = sym (ap (list_any (has_kind Ready)) is) ∙ holds.ready in
      let has_not : list_any (has_kind Ready) ms ≡ false = sym read.ready ∙ ready in
      absurd cc)

  pub read_all : (r' : ZoneReader) (found : Option Marker) → found ≡ None → Gave r' found → AreOpen ms → records.is_ready ≡ true → (all : ZoneRecords) → HasRead all ms → all.zone.is_torn ≡ not (512 * all.zone.blocks == written) → IfSome old (λ held. length (held 0 2) ≡ written)
      → IfSome old (λ held. IsRead array (held 0 2) all)
  read_all r' found none gives are_open ready all same_read torn size = IfSome-both old _ _ _ (gave_all r' found none gives) size (λ held is long. record {
    holds = holds_set array (held 0 2) ms is are_open (sym read.ready ∙ ready);
    read = subst (HasRead all) (sym is) same_read;
    torn = torn ∙ ap (λ n. not (512 * n == written)) (same_read.blocks ∙ ap (end_from 0) (sym is)) ∙ ap (λ n. not (512 * end_from 0 (whole_records array (held 0 2)) == n)) (sym long);
  })
