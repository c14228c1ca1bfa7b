-- What an opening does: calls that only read, and then nothing more, or the records with which a set begins.
use Rattle.std.proofs.Common.{◌≡◌, ◌⊎◌, inl, inr, ℕ, ◌*◌, ◌<◌, true, false, List, [], ◌++◌, length, drop, Option, Some, None, IfSome, is_some, Result, Ok, Err, refl, sym, ap, subst, ◌∙◌}
use Rattle.std.specs.Prelude.{◌==◌, not, option_map, unwrap_or, IsSome}
use Rattle.std.specs.Result.{is_err, IsErr}
use Rattle.std.specs.List.{list_any}
use Rattle.std.specs.FinMap as finmap
use Rattle.std.proofs.lemmas.List.{take-append-drop}
use Rattle.smore_base.specs.Told.{Told}
use Rattle.smore_base.specs.Objects.{Map}
use Rattle.smore_base.proofs.Told.{IfSome-both}
use Rattle.zone_bay.specs.declared.bay.Bay as bay
use Rattle.zone_bay.specs.Contents.{Shape, Contents, Lengths, appended}
use Rattle.zone_bay.specs.Images.{flushed}
use Rattle.zone_bay.specs.Bay.{BayState, IsSound, Becomes, held_in}
use Rattle.zone_bay.specs.Stretch.{GoesToward}
use Rattle.zone_bay.proofs.Extends.{at_zone}
use Rattle.zone_bay.proofs.Stretch.{goes_weaker, reads_nothing, no_fault}
use Rattle.zone_bay.proofs.Toward.{toward_weaker}
use Rattle.marker_format.specs.declared.kind.Kind.TheVariants as kinds
use Rattle.marker_format.specs.Zone.{Array, has_kind, end_from}
use Rattle.marker_format.specs.declared.marker.Marker.{Marker}
use Rattle.array_model.specs.Kept.{label_of}
use Rattle.store_core.specs.declared.store.Core.{Core}
use Rattle.store_core.specs.declared.zone_records.ZoneRecords.{ZoneRecords}
use Rattle.store_core.specs.declared.opening.Found.{Found}
use Rattle.store_core.specs.declared.opening.Found.TheVariants.{Begins as FoundBegins, Holds as FoundHolds}
use Rattle.store_core.specs.declared.opening.Opening.{Opening}
use Rattle.store_core.specs.DeviceCalls.{Appends}
use Rattle.zone_bay.specs.Contents.{IsOfBay}
use Rattle.store_core.specs.Zone.{standing_in, first_markers, opening_bytes}
use Rattle.store_core.specs.ZoneRecords.{HasRead}
use Rattle.store_core.specs.Opening.{array_by, BeginsSet, HoldsSet, CanOpen}
use Rattle.store_core.specs.Found.{IsLabelled, IsRead, IsFound, IsOpening}
use Rattle.store_core.specs.Stopped.{Keeps}
use Rattle.store_core.specs.Core.{map_in, array_in, is_lost_in, standing_of, store_over, Serves, objects_held}
use Rattle.store_core.proofs.CoreSteps.{if_some, has_drives, has_zones, goes_without, writes_appended}
use Rattle.store_core.proofs.FirstZone.{first_whole, first_holds, part_whole, map_part, map_first, each_gives}
use Rattle.store_core.proofs.FirstSet.{length-opening_bytes}
use Rattle.store_core.proofs.Held.{alone_with, label_with}
use Rattle.store_core.proofs.Stops.{EachGives, stops_nowhere, stops_as, stops_appending}

-- ---- a zone that was only read

-- what is made of what is told
told_map : {A C : Type 0} (o : Option A) (f : A → C) (P : A → C → Type 0) → IfSome o (λ x. P x (f x)) → Told o (option_map f o) P
told_map None f P it = tt
told_map (Some x) f P it = it

-- a zone doesn't both begin a set and hold one
begins_none : (array : Array) → array.geometry.k ≡ 1 → array.geometry.p ≡ 1 → length array.id ≡ 16 → (bytes : List ℕ) → BeginsSet array bytes → HoldsSet array bytes → ⊥
begins_none array one two id bytes begins holds = elim (part_whole array one two id bytes begins) [
  | inl none ↦ let no : list_any (has_kind kinds.Ready) [] ≡ true = sym (ap (list_any (has_kind kinds.Ready)) none) ∙ holds.ready in absurd cc
  | inr only ↦ let no = sym (ap (list_any (has_kind kinds.Ready)) only) ∙ holds.ready in absurd cc
]

module _ {B : Type 0} {g : bay.Ghosts B} (core : Core B g) (works : is_lost_in core ≡ false)
    (at : IfSome (g.state core.bay).contents (λ held. standing_of core ≡ standing_in (array_in core) (held 0 2)))
    (map : IfSome (g.state core.bay).contents (λ held. (store_over core (g.state core.bay) held).state.objects ≡ map_in (array_in core) (g.state core.bay).shape held)) where
  -- a core over a zone that holds a set
  pub serves_read : IfSome (g.state core.bay).contents (λ held. CanOpen (g.state core.bay).shape held (array_in core)) → IfSome (g.state core.bay).contents (λ held. HoldsSet (array_in core) (held 0 2)) → Serves g.state core.bay core
  serves_read can holds = record {
    can = can;
    map = told_map (g.state core.bay).contents (store_over core (g.state core.bay)) _ map;
    at = at;
    of_bay = core.of_bay;
    works = works;
    goes = goes_without false (g.state core.bay);
    begun = if_some (g.state core.bay).contents _ _ (λ held it begins. absurd (begins_none (array_in core) core.one_source core.one_parity core.id (held 0 2) begins it)) holds;
    read = if_some (g.state core.bay).contents _ _ (λ held it again. reads_nothing (g.state core.bay) _) holds;
    stopped = λ keeps. stops_nowhere (array_in core) _ (g.state core.bay) keeps;
  }

-- ---- a zone in which a set was begun

-- what is told of the bytes with others behind them
on_appended : (bytes : List ℕ) (before after : Option Contents) (P : Contents → Type 0) → after ≡ option_map (appended 0 2 bytes) before → IfSome before (λ held. P (appended 0 2 bytes held)) → IfSome after P
on_appended bytes before after P is it = subst (λ (c : Option Contents). IfSome c P) (sym is) (at_one before it)
  where
    at_one : (c : Option Contents) → IfSome c (λ held. P (appended 0 2 bytes held)) → IfSome (option_map (appended 0 2 bytes) c) P
    at_one None it = tt
    at_one (Some held) it = it

from_appended : (bytes : List ℕ) (before after : Option Contents) (P : Contents → Type 0) → after ≡ option_map (appended 0 2 bytes) before → IfSome after P → IfSome before (λ held. P (appended 0 2 bytes held))
from_appended bytes before after P is it = at_one before (subst (λ (c : Option Contents). IfSome c P) is it)
  where
    at_one : (c : Option Contents) → IfSome (option_map (appended 0 2 bytes) c) P → IfSome c (λ held. P (appended 0 2 bytes held))
    at_one None it = tt
    at_one (Some held) it = it

-- the zone begins a set, and holds so many bytes
pub record BeginsWith (array : Array) (written : ℕ) (bytes : List ℕ) : Type 0 where
  pub begins : BeginsSet array bytes
  pub size : length bytes ≡ written

module _ (array : Array) (one : array.geometry.k ≡ 1) (two : array.geometry.p ≡ 1) (id : length array.id ≡ 16) (written : ℕ) where
  abbrev pub lacking : List ℕ
  lacking = drop written (opening_bytes array)

  -- then it has all of them
  all_held : (held : Contents) → BeginsWith array written (held 0 2) → appended 0 2 lacking held 0 2 ≡ opening_bytes array
  all_held held it =
      at_zone 0 2 (held 0 2 ++ lacking) held
      ∙ ap (λ n. held 0 2 ++ drop n (opening_bytes array)) (sym it.size)
      ∙ ap (λ (l : List ℕ). l ++ drop (length (held 0 2)) (opening_bytes array)) it.begins.part
      ∙ take-append-drop (length (held 0 2)) (opening_bytes array)

  module _ (shape : Shape) (before after : Option Contents) (became : after ≡ option_map (appended 0 2 lacking) before) (begins : IfSome before (λ held. BeginsWith array written (held 0 2))) where
    pub labelled_begun : IfSome before (λ held. IsLabelled shape held array) → IfSome after (λ held. IsLabelled shape held array)
    labelled_begun labelled = on_appended lacking before after _ became (if_some before _ _ (λ held it. record {
      label = label_with shape held (held 0 2 ++ lacking) ∙ it.label;
      alone = alone_with shape held (held 0 2 ++ lacking) it.alone;
    }) labelled)

    pub read_begun : (records : ZoneRecords) → HasRead records (first_markers array) → records.zone.is_torn ≡ false → IfSome after (λ held. IsRead array (held 0 2) records)
    read_begun records read whole = on_appended lacking before after _ became (if_some before _ _ (λ held it. subst (λ (l : List ℕ). IsRead array l records) (sym (all_held held it)) (record {
      holds = first_holds array one two id;
      read = subst (HasRead records) (sym (first_whole array one two id)) read;
      torn = whole ∙ ap (λ n. not (512 * end_from 0 (first_markers array) == n)) (sym (length-opening_bytes array id)) ∙ ap (λ (ms : List Marker). not (512 * end_from 0 ms == length (opening_bytes array))) (sym (first_whole array one two id));
    })) begins)

-- ---- they were put there

-- the bytes were put at the end of the zone, and made firm
pub record Appended (bytes : List ℕ) (old new : BayState) : Type 0 where
  pub became : Becomes (appended 0 2 bytes) old new
  pub firm : new.firm ≡ flushed 0 (held_in new) old.firm
  pub toward : GoesToward (appended 0 2 bytes) old new (λ _ _. ⊥)
  pub kept : new.faults 0 ≡ old.faults 0

pub appended_ok : {T E : Type 0} (r : Result T E) (bytes : List ℕ) (old new : BayState) → is_err r ≡ false → Appends bytes old new r → Appended bytes old new
appended_ok {T} {E} (Ok x) bytes old new ok it = record {
  became = it.done;
  firm = it.firm;
  toward = toward_weaker (appended 0 2 bytes) old new _ _ (λ d m failed. never (Ok x) refl failed.0) it.toward;
  kept = it.cause.ok;
}
  where
    never : (r : Result T E) → is_err r ≡ false → IsErr r → ⊥
    never r ok failed = let no : false ≡ true = sym ok ∙ failed in cc
appended_ok (Err e) bytes old new ok it = absurd cc

-- ---- the core over them

all_firm : (contents : Option Contents) (firm was : Lengths) → firm ≡ flushed 0 (unwrap_or contents (λ _ _. [])) was → IfSome contents (λ held. firm 0 2 ≡ length (held 0 2))
all_firm None firm was is = tt
all_firm (Some held) firm was is = ap (λ (l : Lengths). l 0 2) is

told_changed : {C : Type 0} (bytes : List ℕ) (before after : Option Contents) (f : Contents → C) (P : Contents → C → Type 0) → after ≡ option_map (appended 0 2 bytes) before → IfSome before (λ held. P held (f (appended 0 2 bytes held))) → Told before (option_map f after) P
told_changed bytes before after f P is it = subst (λ (c : Option Contents). Told before (option_map f c) P) (sym is) (at_one before it)
  where
    at_one : (c : Option Contents) → IfSome c (λ held. P held (f (appended 0 2 bytes held))) → Told c (option_map f (option_map (appended 0 2 bytes) c)) P
    at_one None it = tt
    at_one (Some held) it = it

module _ {B : Type 0} {g : bay.Ghosts B} (old : B) (core : Core B g) (works : is_lost_in core ≡ false)
    (at : IfSome (g.state core.bay).contents (λ held. standing_of core ≡ standing_in (array_in core) (held 0 2)))
    (map : IfSome (g.state core.bay).contents (λ held. (store_over core (g.state core.bay) held).state.objects ≡ map_in (array_in core) (g.state core.bay).shape held))
    (sound : IsSound (g.state old)) (can : IfSome (g.state old).contents (λ held. CanOpen (g.state old).shape held (array_in core)))
    (written : ℕ) (begins : IfSome (g.state old).contents (λ held. BeginsWith (array_in core) written (held 0 2)))
    (it : Appended (drop written (opening_bytes (array_in core))) (g.state old) (g.state core.bay)) where
  same_shape : (g.state core.bay).shape ≡ (g.state old).shape
  same_shape = it.toward.goes_on.same_shape

  drives : 1 < (g.state old).shape.devices
  drives = subst (λ (s : Shape). 1 < s.devices) same_shape (has_drives core)

  zones : 2 < (g.state old).shape.zones
  zones = subst (λ (s : Shape). 2 < s.zones) same_shape (has_zones core)

  -- no name stood for an object
  no_objects : IfSome (g.state old).contents (λ held. map_in (array_in core) (g.state old).shape held ≡ finmap.empty)
  no_objects = IfSome-both (g.state old).contents _ _ _ can begins (λ held may is.
      map_part (array_in core) core.one_source core.one_parity core.id (g.state old).shape drives zones held (ap is_some may.label) may.alone is.begins)

  -- and none does
  objects_begun : IfSome (g.state old).contents (λ held. map_in (array_in core) (g.state core.bay).shape (appended 0 2 (drop written (opening_bytes (array_in core))) held) ≡ map_in (array_in core) (g.state old).shape held)
  objects_begun = IfSome-both (g.state old).contents _ _ _ (IfSome-both (g.state old).contents _ (λ held. BeginsWith (array_in core) written (held 0 2)) (λ held. CanOpen (g.state old).shape held (array_in core) × BeginsWith (array_in core) written (held 0 2)) can begins (λ held a b. (a, b))) no_objects (λ held both none.
      let lacks : List ℕ = drop written (opening_bytes (array_in core)) in
      let more = appended 0 2 lacks held in
      ap (λ (s : Shape). map_in (array_in core) s more) same_shape
      ∙ map_first (array_in core) core.one_source core.one_parity core.id (g.state old).shape drives zones more (ap is_some (label_with (g.state old).shape held (held 0 2 ++ lacks) ∙ both.0.label)) (alone_with (g.state old).shape held (held 0 2 ++ lacks) both.0.alone) (all_held (array_in core) core.one_source core.one_parity core.id written held both.1)
      ∙ sym none)

  none_held : (c : Option Contents) → (g.state old).contents ≡ c → IsSome c → IfSome c (λ held. map_in (array_in core) (g.state old).shape held ≡ finmap.empty) → objects_held (array_in core) (g.state old) ≡ finmap.empty
  none_held None e told is = absurd cc
  none_held (Some held) e told is = ap (λ (c : Option Contents). map_in (array_in core) (g.state old).shape (unwrap_or c (λ _ _. []))) e ∙ is

  pub serves_begun : Serves g.state old core
  serves_begun = record {
    can = can;
    map = told_changed (drop written (opening_bytes (array_in core))) (g.state old).contents (g.state core.bay).contents (store_over core (g.state core.bay)) _ it.became
        (IfSome-both (g.state old).contents _ _ _ (from_appended (drop written (opening_bytes (array_in core))) (g.state old).contents (g.state core.bay).contents _ it.became map) objects_begun (λ held is same. is ∙ same));
    at = at;
    of_bay = subst (λ (s : Shape). IsOfBay core.geometry s) same_shape core.of_bay;
    works = works;
    goes = record {
      goes_on = goes_weaker (g.state old) (g.state core.bay) _ _ _ _ (λ i image since left. tt) (λ d m since none. absurd none) it.toward.goes_on;
      zone = writes_appended (drop written (opening_bytes (array_in core))) (g.state old).contents (g.state core.bay).contents it.became;
      others = λ d other. no_fault (g.state old) (g.state core.bay) _ _ d it.toward.goes_on (λ m none. none);
      kept = λ is. it.kept;
      rose = λ was is. absurd cc;
      stays = λ was. was;
    };
    begun = if_some (g.state old).contents _ _ (λ held is again. record {
      toward = subst (λ n. GoesToward (appended 0 2 (drop n (opening_bytes (array_in core)))) (g.state old) (g.state core.bay) (λ _ _. ⊥)) (sym is.size) it.toward;
      becomes = subst (λ n. Becomes (appended 0 2 (drop n (opening_bytes (array_in core)))) (g.state old) (g.state core.bay)) (sym is.size) it.became;
      firm = all_firm (g.state core.bay).contents (g.state core.bay).firm (g.state old).firm it.firm;
    }) begins;
    read = if_some (g.state old).contents _ _ (λ held is holds. absurd (begins_none (array_in core) core.one_source core.one_parity core.id (held 0 2) is.begins holds)) begins;
    stopped = λ keeps.
        let none = none_held (g.state old).contents refl keeps.told no_objects in
        stops_as (array_in core) finmap.empty _ finmap.empty _ (g.state old) (g.state core.bay) (sym none) (sym none)
        (stops_appending (array_in core) finmap.empty finmap.empty (drop written (opening_bytes (array_in core))) (g.state old) (g.state core.bay) sound _ it.toward it.became it.firm (subst (λ (objects : Map). Keeps (array_in core) objects (g.state old)) none keeps)
        (if_some (g.state old).contents _ _ (λ held is. subst (λ n. EachGives (array_in core) (g.state old).shape finmap.empty finmap.empty (held 0 2) (drop n (opening_bytes (array_in core)))) is.size (each_gives (array_in core) core.one_source core.one_parity core.id (g.state old).shape drives zones (held 0 2) is.begins)) begins));
  }

-- ---- by what was found

zone_found : (array : Array) (bytes : List ℕ) (found : Found) → IsFound array bytes found → BeginsSet array bytes ⊎ HoldsSet array bytes
zone_found array bytes (FoundBegins written) it = inl it.0
zone_found array bytes (FoundHolds records) it = inr it.holds

module _ {B : Type 0} {g : bay.Ghosts B} (old : B) (core : Core B g) (opening : Opening) (array : array_in core ≡ array_by opening.label)
    (told : IfSome (g.state old).contents (λ held. IsOpening (g.state old).shape held opening)) where
  pub can_found : IfSome (g.state old).contents (λ held. CanOpen (g.state old).shape held (array_in core))
  can_found = if_some (g.state old).contents _ _ (λ held it. record {
    label = it.labelled.label ∙ ap (λ (a : Array). Some (label_of a 0)) (sym array);
    one_source = core.one_source;
    one_parity = core.one_parity;
    zone = subst (λ (a : Array). BeginsSet a (held 0 2) ⊎ HoldsSet a (held 0 2)) (sym array) (zone_found (array_by opening.label) (held 0 2) opening.found it.found);
    alone = it.labelled.alone;
  }) told

  pub holds_found : (records : ZoneRecords) → opening.found ≡ FoundHolds records → IfSome (g.state old).contents (λ held. HoldsSet (array_in core) (held 0 2))
  holds_found records is = if_some (g.state old).contents _ _ (λ held it. subst (λ (a : Array). HoldsSet a (held 0 2)) (sym array) (held_of held (subst (IsFound (array_by opening.label) (held 0 2)) is it.found))) told
    where
      held_of : (held : Contents) → IsFound (array_by opening.label) (held 0 2) (FoundHolds records) → HoldsSet (array_by opening.label) (held 0 2)
      held_of held it = it.holds

-- a set is to be begun
pub begins_found : (shape : Shape) (contents : Option Contents) (opening : Opening) (written : ℕ) → opening.found ≡ FoundBegins written → IfSome contents (λ held. IsOpening shape held opening) → IfSome contents (λ held. BeginsWith (array_by opening.label) written (held 0 2))
begins_found shape contents opening written is told = if_some contents _ _ (λ held it. by_found held (subst (IsFound (array_by opening.label) (held 0 2)) is it.found)) told
  where
    by_found : (held : Contents) → IsFound (array_by opening.label) (held 0 2) (FoundBegins written) → BeginsWith (array_by opening.label) written (held 0 2)
    by_found held it = record { begins = it.0; size = it.1 }
