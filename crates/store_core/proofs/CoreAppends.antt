-- Steps of a core that append records.
use Rattle.std.proofs.Common.{◌≡◌, ℕ, ◌+◌, ◌*◌, ◌<◌, ◌≤◌, Bool, true, false, cond, List, [], ◌++◌, length, take, Option, Some, None, is_some, IfSome, Result, Ok, Err, refl, sym, ap, subst, ◌∙◌, arith, drop}
use Rattle.std.specs.Prelude.{◌&&◌, ◌==◌, IsSome, option_map, unwrap_or}
use Rattle.std.specs.List.{AllByRecursion, list_any}
use Rattle.std.specs.Result.{is_err}
use Rattle.std.proofs.lemmas.List.{append_assoc, length-append, length-take, take-append-le, take-take, take_all, take_at}
use Rattle.smore_base.specs.Told.{Told}
use Rattle.smore_base.proofs.Told.{IfSome-both}
use Rattle.smore_base.specs.Objects.{Map}
use Rattle.zone_bay.specs.declared.bay.Bay as bay
use Rattle.zone_bay.specs.Contents.{Shape, Contents, Lengths, with_zone, appended}
use Rattle.zone_bay.specs.Images.{flushed}
use Rattle.zone_bay.specs.Bay.{BayState, IsSound, held_in}
use Rattle.marker_format.specs.declared.marker.Marker.{Marker}
use Rattle.marker_format.specs.Zone.{Array, whole_records}
use Rattle.array_model.specs.Record.{is_ready}
use Rattle.object_machine.specs.declared.op.Op.{Op}
use Rattle.object_machine.specs.declared.op.Op.TheVariants.{Put, Get, Delete, List as ListNames}
use Rattle.object_machine.specs.declared.reply.Reply.{Reply}
use Rattle.object_machine.specs.declared.reply.Reply.TheVariants.{Done, Refused}
use Rattle.object_machine.specs.declared.reply.Refusal.TheVariants.{TooFewFragments}
use Rattle.object_machine.specs.State.{State, Step, IsLost}
use Rattle.store_core.specs.declared.store.Core.{Core}
use Rattle.store_core.specs.declared.index.Index.{Index}
use Rattle.store_core.specs.declared.zone.OpenZone.{OpenZone}
use Rattle.marker_format.specs.Fragment.{blocks_of}
use Rattle.store_core.specs.Extent.{extents_of, mapped}
use Rattle.store_core.specs.Index.{notes_in, parts_in, extent_in, extents_in}
use Rattle.store_core.specs.DeviceCalls.{Appends}
use Rattle.store_core.specs.declared.zone.Load.{Load}
use Rattle.zone_bay.specs.Contents.{IsOfBay}
use Rattle.store_core.specs.OpenZone.{behind, IsOfSet}
use Rattle.store_core.specs.Opening.{IsOpenZone}
use Rattle.store_core.specs.Zone.{set_of, index_of, next_stamp}
use Rattle.store_core.specs.Said.{Says}
use Rattle.store_core.specs.Store.{Standing, Case, Cause, known_after, standing_after, stamped}
use Rattle.store_core.specs.Held.{used, IsHeld, IsAll, IsFull}
use Rattle.store_core.specs.Core.{map_in, cut_to, array_in, known_in, standing_of, store_over, objects_in, case_of, IsReading, IsFirm, Steps}
use Rattle.store_core.specs.Stopped.{Keeps, MayStop}
use Rattle.store_core.proofs.Stops.{EachGives, stops_as, stops_appending}
use Rattle.store_core.proofs.SetZones.{map_used_alone}
use Rattle.store_core.proofs.Held.{map_used, ready_items, below_all, alone_with, label_with}
use Rattle.store_core.proofs.HeldProps.{full_now}
use Rattle.store_core.proofs.ObjectMaps.{IsBelow, objects_of}
use Rattle.store_core.proofs.OpenZones.{filled_whole}
use Rattle.store_core.proofs.ZoneItems.{items_from}
use Rattle.store_core.proofs.SaidMore.{says_of, index_says}
use Rattle.store_core.proofs.RecordAdded.{StandsBehind, stands_held, held_stands}
use Rattle.store_core.proofs.StoreMoves.{lost_known, lost_moves}
use Rattle.store_core.proofs.CoreSteps.{if_some, has_drives, has_zones, core_holds, core_knows, objects_over, case_is, IsKept, told_kept, goes_calls, if_all, told_made_of, stay_lost, gives_none, knows_still, same_zone, writes_appended}

-- ---- what was appended to a zone, and what the core stands behind

-- bytes behind those of the core's records change nothing of what it stands behind
pub cut_appended : (blocks : ℕ) (more : List ℕ) (held : Contents) → 512 * blocks ≤ length (held 0 2) → cut_to blocks (appended 0 2 more held) ≡ cut_to blocks held
cut_appended blocks more held long =
    ap (λ (l : List ℕ). with_zone 0 2 l (appended 0 2 more held)) (take-append-le (512 * blocks) (held 0 2) more long)
    ∙ (λ i d z. twice ((d == 0) && (z == 2)) (take (512 * blocks) (held 0 2)) (held 0 2 ++ more) (held d z) i)
  where
    twice : (b : Bool) (x y z : List ℕ) → cond b x (cond b y z) ≡ cond b x z
    twice true x y z = refl
    twice false x y z = refl

-- it still holds the core's records
pub held_more : (array : Array) (open_zone : OpenZone) (stamp stamp' : ℕ) (index : Index) (shape : Shape) (held : Contents) (more : List ℕ) → stamp ≤ stamp' → IsHeld array open_zone stamp index shape held → IsHeld array open_zone stamp' index shape (appended 0 2 more held)
held_more array open_zone stamp stamp' index shape held more later it =
    let same : used open_zone (appended 0 2 more held) ≡ used open_zone held = take-append-le (512 * open_zone.blocks) (held 0 2) more it.long in
    record {
      label = label_with shape held (held 0 2 ++ more) ∙ it.label;
      alone = alone_with shape held (held 0 2 ++ more) it.alone;
      long = omega (arith, it.long, length-append (held 0 2) more);
      usable = subst (IsOpenZone array) (sym same) it.usable;
      set = it.set ∙ ap (λ (l : List ℕ). set_of (whole_records array l)) (sym same);
      place = it.place ∙ ap (λ (l : List ℕ). index_of (whole_records array l)) (sym same);
      records = it.records ∙ ap (λ (l : List ℕ). length (whole_records array l)) (sym same);
      later = omega (arith, later, it.later, ap (λ (l : List ℕ). next_stamp (whole_records array l)) same);
      says = subst (λ (l : List ℕ). Says index (whole_records array l)) (sym same) it.says;
    }

-- the map of what a core stands behind, by its records
pub map_held : (array : Array) (shape : Shape) (one : array.geometry.k ≡ 1) (p : array.geometry.p ≡ 1) (drives : 1 < shape.devices) (zones : 2 < shape.zones) (open_zone : OpenZone) (stamp : ℕ) (index : Index) (held : Contents) (bytes : List ℕ) (ms : List Marker)
    → IsHeld array open_zone stamp index shape held → used open_zone held ≡ bytes → whole_records array bytes ≡ ms → map_in array shape (cut_to open_zone.blocks held) ≡ objects_of (items_from bytes 0 ms)
map_held array shape one p drives zones open_zone stamp index held bytes ms it is whole =
    map_used array shape one p drives zones open_zone stamp index held it
    ∙ ap (λ (l : List ℕ). objects_of (items_from l 0 (whole_records array l))) is
    ∙ ap (λ (l : List Marker). objects_of (items_from bytes 0 l)) whole

-- an index with the same notes and parts does as well
pub held_index : (array : Array) (open_zone : OpenZone) (stamp : ℕ) (index index' : Index) (shape : Shape) (held : Contents) → notes_in index' ≡ notes_in index → parts_in index' ≡ parts_in index → IsHeld array open_zone stamp index shape held → IsHeld array open_zone stamp index' shape held
held_index array open_zone stamp index index' shape held notes parts it = record {
  label = it.label;
  alone = it.alone;
  long = it.long;
  usable = it.usable;
  set = it.set;
  place = it.place;
  records = it.records;
  later = it.later;
  says = index_says index' (notes_in index) (parts_in index) _ notes parts (says_of index _ it.says);
}

pub known_same : (old new : Index) → notes_in new ≡ notes_in old → parts_in new ≡ parts_in old → extents_in new ≡ extents_in old
known_same old new notes parts = λ i. mapped (extent_in (parts i)) (notes i)

-- ---- records that are put behind those of a core

-- bytes were put behind all that the zone holds, and the core stands behind them too
pub record Grows (array : Array) (shape : Shape) (open_zone zone' : OpenZone) (stamp' : ℕ) (index' : Index) (change : Map → Map) (more : List ℕ) (before after : Contents) : Type 0 where
  pub held : IsHeld array zone' stamp' index' shape after
  pub all : IsAll array zone' after
  pub map : map_in array shape (cut_to zone'.blocks after) ≡ change (map_in array shape (cut_to open_zone.blocks before))
  -- stopped on the way, the zone says what it said or what it says now
  pub each : EachGives array shape (map_in array shape (cut_to open_zone.blocks before)) (change (map_in array shape (cut_to open_zone.blocks before))) (before 0 2) more

module _ (array : Array) (shape : Shape) (one : array.geometry.k ≡ 1) (p : array.geometry.p ≡ 1) (drives : 1 < shape.devices) (zones : 2 < shape.zones)
    (open_zone : OpenZone) (stamp : ℕ) (index : Index) (held : Contents) (it : IsHeld array open_zone stamp index shape held) (whole : length (held 0 2) ≡ 512 * open_zone.blocks) where
  abbrev pub records_of : List Marker
  records_of = whole_records array (used open_zone held)

  all_used : used open_zone held ≡ held 0 2
  all_used = take_all (512 * open_zone.blocks) (held 0 2) (omega (arith, whole))

  pub stands_whole : StandsBehind array open_zone stamp (held 0 2) records_of
  stands_whole = subst (λ (l : List ℕ). StandsBehind array open_zone stamp l records_of) all_used (stands_held array open_zone stamp index shape held it)

  pub is_ready_whole : list_any is_ready (items_from (held 0 2) 0 records_of) ≡ true
  is_ready_whole = ready_items (held 0 2) 0 records_of ∙ stands_whole.ready

  pub is_below_whole : AllByRecursion (IsBelow stamp) (items_from (held 0 2) 0 records_of)
  is_below_whole = below_all (held 0 2) 0 records_of stamp stands_whole.later

  pub grows : (zone' : OpenZone) (stamp' : ℕ) (index' : Index) (change : Map → Map) (more : List ℕ) (ms : List Marker) → zone'.is_torn ≡ false → StandsBehind array zone' stamp' (held 0 2 ++ more) ms → Says index' ms
      → objects_of (items_from (held 0 2 ++ more) 0 ms) ≡ change (objects_of (items_from (held 0 2) 0 records_of))
      → EachGives array shape (objects_of (items_from (held 0 2) 0 records_of)) (change (objects_of (items_from (held 0 2) 0 records_of))) (held 0 2) more
      → Grows array shape open_zone zone' stamp' index' change more held (appended 0 2 more held)
  grows zone' stamp' index' change more ms untorn stands says changes each =
      let after = appended 0 2 more held in
      let now : IsHeld array zone' stamp' index' shape after =
      held_stands array zone' stamp' index' shape after (held 0 2 ++ more) ms (label_with shape held (held 0 2 ++ more) ∙ it.label) (alone_with shape held (held 0 2 ++ more) it.alone) refl stands says in
      let all : used zone' after ≡ held 0 2 ++ more = take_all (512 * zone'.blocks) (held 0 2 ++ more) (omega (arith, stands.blocks)) in
      let before : map_in array shape (cut_to open_zone.blocks held) ≡ objects_of (items_from (held 0 2) 0 records_of) =
      map_held array shape one p drives zones open_zone stamp index held (held 0 2) records_of it all_used (ap (whole_records array) (sym all_used)) in
      record {
        held = now;
        all = record { whole = λ _. stands.blocks; torn = λ torn. absurd (let no : true ≡ false = sym torn ∙ untorn in cc) };
        map =
            map_held array shape one p drives zones zone' stamp' index' after (held 0 2 ++ more) ms now all (filled_whole array (held 0 2 ++ more) ms stands.filled)
            ∙ changes ∙ ap change (sym before);
        each = subst (λ (m : Map). EachGives array shape m (change m) (held 0 2) more) (sym before) each;
      }

-- ---- the bytes that were written

-- bytes that were written to the front of a buffer are taken of it
pub front_written : (n len : ℕ) (out items bytes more : List ℕ) → out ≡ bytes ++ more → n ≡ length bytes → n ≤ len → take n (take len (out ++ items)) ≡ bytes
front_written n len out items bytes more is size within =
    take-take n len (out ++ items) within
    ∙ ap (λ (l : List ℕ). take n (l ++ items)) is
    ∙ ap (take n) (append_assoc bytes more items)
    ∙ take_at bytes (more ++ items) n (sym size)

-- the front of a buffer is taken of what was written to it
pub front_taken : (n len : ℕ) (out items : List ℕ) → n ≤ len → n ≤ length out → take n (take len (out ++ items)) ≡ take n out
front_taken n len out items within long = take-take n len (out ++ items) within ∙ take-append-le n out items long

pub front_of : (n len : ℕ) (out now items bytes : List ℕ) → now ≡ take len (out ++ items) → n ≤ len → n ≤ length out → take n out ≡ bytes → take n now ≡ bytes
front_of n len out now items bytes now_is within long is = ap (take n) now_is ∙ front_taken n len out items within long ∙ is

-- ---- where the contents are told

appended_to : (before : Option Contents) (more : List ℕ) (K : Contents → Type 0) (P : Contents → Contents → Type 0) → IfSome before K → ((held : Contents) → K held → P held (appended 0 2 more held)) → Told before (option_map (appended 0 2 more) before) P
appended_to None more K P known each = tt
appended_to (Some held) more K P known each = each held known

pub told_appended : (before after : Option Contents) (more : List ℕ) (K : Contents → Type 0) (P : Contents → Contents → Type 0) → after ≡ option_map (appended 0 2 more) before → IfSome before K → ((held : Contents) → K held → P held (appended 0 2 more held)) → Told before after P
told_appended before after more K P is known each = subst (λ (o : Option Contents). Told before o P) (sym is) (appended_to before more K P known each)

pub told_after : (before after : Option Contents) (P : Contents → Contents → Type 0) (Q : Contents → Type 0) → Told before after P → ((x y : Contents) → P x y → Q y) → IfSome after Q
told_after None None P Q told each = tt
told_after None (Some y) P Q told each = absurd told
told_after (Some x) None P Q told each = tt
told_after (Some x) (Some y) P Q told each = each x y told

stamped_blocks : (op : Op) (at : Standing) → (stamped op at).blocks ≡ at.blocks
stamped_blocks (Put name object) at = refl
stamped_blocks (Get name) at = refl
stamped_blocks (Delete name) at = refl
stamped_blocks (ListNames after limit) at = refl

-- ---- an append that failed

-- what failed, failed for some reason
pub err_of : {T E : Type 0} (r : Result T E) → is_err r ≡ true → (e : E) × (r ≡ Err e)
err_of (Ok x) is = absurd cc
err_of (Err e) is = (e, refl)

-- an append of the same bytes with the same answer
pub appends_same : {T E : Type 0} (bytes bytes' : List ℕ) (old new : BayState) (r r' : Result T E) → bytes ≡ bytes' → r ≡ r' → Appends bytes old new r → Appends bytes' old new r'
appends_same bytes bytes' old new r r' same answer calls = subst (λ (l : List ℕ). Appends l old new r') same (subst (Appends bytes old new) answer calls)

pub ok_of : {T E : Type 0} (r : Result T E) → is_err r ≡ false → (x : T) × (r ≡ Ok x)
ok_of (Ok x) is = (x, refl)
ok_of (Err e) is = absurd cc

module _ {B : Type 0} {g : bay.Ghosts B} {T E : Type 0} (e : E) (bytes : List ℕ) (old new : Core B g) (op : Op) (of_set missing : ℕ)
    (array : array_in new ≡ array_in old) (known : known_in new ≡ known_in old) (at : standing_of new ≡ stamped op (standing_of old))
    (works : old.is_lost ≡ false) (lost : new.is_lost ≡ true) (calls : Appends {T = T} bytes (g.state old.bay) (g.state new.bay) (Err e))
    (cause : Cause (case_of old new) op (Refused (TooFewFragments of_set missing))) (no_get : IsReading op → ⊥) where
  abbrev why : Reply
  why = Refused (TooFewFragments of_set missing)

  kept_failing : IsKept old new op why
  kept_failing = record {
    array = array;
    known = known;
    at = at ∙ sym (ap (λ b. standing_after op why b (standing_of old)) works);
    blocks = ap (λ (s : Standing). s.blocks) at ∙ stamped_blocks op (standing_of old);
    lost = lost;
    stays = λ bad. absurd (let no : true ≡ false = sym bad ∙ works in cc);
    shape = calls.toward.goes_on.same_shape;
    later = calls.toward.goes_on.later;
    cut = told_appended (g.state old.bay).contents (g.state new.bay).contents (take calls.part.0 bytes) (λ held. 512 * old.zone.blocks ≤ length (held 0 2)) _ calls.part.1
        (if_some (g.state old.bay).contents _ _ (λ held it. it.long) (core_holds old)) (λ held long. cut_appended old.zone.blocks (take calls.part.0 bytes) held long);
    gives = if_all (g.state old.bay).contents _ (λ held. gives_none op why tt (objects_over old held));
  }

  -- it took its stamp, and the zone may hold a part of its bytes
  pub steps_failed : Steps g.state old op why new
  steps_failed =
      let failure : Result T E = Err e in
      record {
        told = told_kept old new op why kept_failing cause tt;
        cause = cause;
        known = known ∙ sym (knows_still op why (known_in old) tt);
        at = kept_failing.at;
        array = array;
        goes = goes_calls failure (g.state old.bay) (g.state new.bay) _ old.is_lost new.is_lost works lost calls.toward.goes_on calls.cause (writes_appended (take calls.part.0 bytes) (g.state old.bay).contents (g.state new.bay).contents calls.part.1);
        failed = λ was bad. (bytes, calls.failed);
        untouched = λ bad. absurd (let no : true ≡ false = sym bad ∙ works in cc);
        calm = λ calm. absurd calm;
        reads = λ is. absurd (no_get is);
        firm = λ is. absurd (let no : why ≡ Done = is in cc);
        fits = tt;
        stopped = λ enough keeps. absurd (let no : true ≡ false = sym lost ∙ enough in cc);
      }

-- ---- an append that was answered

firm_held : (before after : BayState) → after.firm ≡ flushed 0 (held_in after) before.firm → IsFirm after
firm_held before after is = at_one after.contents refl
  where
    at_one : (o : Option Contents) → after.contents ≡ o → IfSome o (λ held. after.firm 0 2 ≡ length (held 0 2))
    at_one None e = tt
    at_one (Some held) e = ap (λ (f : Lengths). f 0 2) is ∙ ap (λ (o : Option Contents). length (unwrap_or o (λ _ _. []) 0 2)) e

module _ {B : Type 0} {g : bay.Ghosts B} {T E : Type 0} (x : T) (bytes : List ℕ) (old new : Core B g) (op : Op) (change : Map → Map) (is_sound : IsSound (g.state old.bay))
    (array : array_in new ≡ array_in old) (known : known_in new ≡ known_after op Done (known_in old)) (at : standing_of new ≡ standing_after op Done old.is_lost (standing_of old))
    (works : old.is_lost ≡ false) (lost : new.is_lost ≡ false) (calls : Appends {E = E} bytes (g.state old.bay) (g.state new.bay) (Ok x))
    (cause : Cause (case_of old new) op Done) (no_get : IsReading op → ⊥)
    (grown : Told (g.state old.bay).contents (g.state new.bay).contents (Grows (array_in old) (g.state old.bay).shape old.zone new.zone new.next_stamp new.index change bytes))
    (moves : (s t : State) → extents_of s.objects ≡ known_in old → t.objects ≡ change s.objects → ((d : ℕ) → IsLost s d → IsLost t d) → Step s op Done t) where
  stay : old.is_lost ≡ true → new.is_lost ≡ true
  stay bad = absurd (let no : true ≡ false = sym bad ∙ works in cc)

  -- an append that is told changes the objects, and so does a stop at its end
  module _ (before after : Option Contents) (there : IsSome before) (told : Told before after (Grows (array_in old) (g.state old.bay).shape old.zone new.zone new.next_stamp new.index change bytes)) where
    abbrev objects_by : Array → Shape → ℕ → Option Contents → Map
    objects_by array shape blocks told = map_in array shape (cut_to blocks (unwrap_or told (λ _ _. [])))

    changed : objects_by (array_in old) (g.state old.bay).shape new.zone.blocks after ≡ change (objects_by (array_in old) (g.state old.bay).shape old.zone.blocks before)
    changed = at_one before after there told
      where
        at_one : (before after : Option Contents) → IsSome before → Told before after (Grows (array_in old) (g.state old.bay).shape old.zone new.zone new.next_stamp new.index change bytes) → map_in (array_in old) (g.state old.bay).shape (cut_to new.zone.blocks (unwrap_or after (λ _ _. []))) ≡ change (map_in (array_in old) (g.state old.bay).shape (cut_to old.zone.blocks (unwrap_or before (λ _ _. []))))
        at_one None after there told = absurd cc
        at_one (Some held) None there told = absurd told
        at_one (Some held) (Some now) there told = told.map

    each_told : IfSome before (λ held. EachGives (array_in old) (g.state old.bay).shape (objects_by (array_in old) (g.state old.bay).shape old.zone.blocks before) (change (objects_by (array_in old) (g.state old.bay).shape old.zone.blocks before)) (held 0 2) bytes)
    each_told = at_one before after told
      where
        at_one : (before after : Option Contents) → Told before after (Grows (array_in old) (g.state old.bay).shape old.zone new.zone new.next_stamp new.index change bytes) → IfSome before (λ held. EachGives (array_in old) (g.state old.bay).shape (map_in (array_in old) (g.state old.bay).shape (cut_to old.zone.blocks (unwrap_or before (λ _ _. [])))) (change (map_in (array_in old) (g.state old.bay).shape (cut_to old.zone.blocks (unwrap_or before (λ _ _. []))))) (held 0 2) bytes)
        at_one None after told = tt
        at_one (Some held) None told = absurd told
        at_one (Some held) (Some now) told = told.each

  stops_done : Keeps (array_in old) (objects_in g.state old) (g.state old.bay) → MayStop (array_in old) (objects_in g.state old) (objects_in g.state new) (g.state old.bay) (g.state new.bay)
  stops_done keeps =
      let objects = objects_in g.state old in
      let held = held_in (g.state new.bay) in
      let now : objects_in g.state new ≡ change objects =
      ap (λ (a : Array). map_in a (g.state new.bay).shape (cut_to new.zone.blocks held)) array
      ∙ ap (λ (shape : Shape). map_in (array_in old) shape (cut_to new.zone.blocks held)) calls.toward.goes_on.same_shape
      ∙ changed (g.state old.bay).contents (g.state new.bay).contents keeps.told grown in
      stops_as (array_in old) objects objects (change objects) (objects_in g.state new) (g.state old.bay) (g.state new.bay) refl (sym now)
      (stops_appending (array_in old) objects (change objects) bytes (g.state old.bay) (g.state new.bay) is_sound _ calls.toward calls.done calls.firm keeps (each_told (g.state old.bay).contents (g.state new.bay).contents keeps.told grown))

  pub steps_done : Steps g.state old op Done new
  steps_done =
      let success : Result T E = Ok x in
      record {
        told = told_made_of (g.state old.bay).contents (g.state new.bay).contents (store_over old (g.state old.bay)) (store_over new (g.state new.bay)) _ _ _ _ grown (core_knows old) (core_knows old)
            (λ before after grows knows again.
            let s = store_over old (g.state old.bay) before in
            let t = store_over new (g.state new.bay) after in
            let objects : t.state.objects ≡ change s.state.objects =
            ap (λ (a : Array). map_in a (g.state new.bay).shape (cut_to new.zone.blocks after)) array
            ∙ ap (λ (shape : Shape). map_in (array_in old) shape (cut_to new.zone.blocks after)) calls.toward.goes_on.same_shape
            ∙ grows.map in
            record {
              cause = subst (λ (c : Case). Cause c op Done) (sym (case_is old new op Done before after knows)) cause;
              step = moves s.state t.state knows objects (stay_lost old new op Done stay);
              lost = lost_moves Done old.is_lost new.is_lost (lost ∙ sym works);
              at = at ∙ ap (λ b. standing_after op Done b (standing_of old)) (sym (lost_known old.is_lost));
              later = calls.toward.goes_on.later;
            });
        cause = cause;
        known = known;
        at = at;
        array = array;
        goes = goes_calls success (g.state old.bay) (g.state new.bay) _ old.is_lost new.is_lost works lost calls.toward.goes_on calls.cause (writes_appended bytes (g.state old.bay).contents (g.state new.bay).contents calls.done);
        failed = λ was bad. absurd (let no : true ≡ false = sym bad ∙ lost in cc);
        untouched = λ bad. absurd (let no : true ≡ false = sym bad ∙ works in cc);
        calm = λ calm. absurd calm;
        reads = λ is. absurd (no_get is);
        firm = λ is. firm_held (g.state old.bay) (g.state new.bay) calls.firm;
        fits = tt;
        stopped = λ enough keeps. stops_done keeps;
      }

-- ---- the core's bay after an append

module _ {B : Type 0} {g : bay.Ghosts B} (core : Core B g) where
  -- while it isn't lost, nothing stands behind what it stands behind
  pub core_whole : core.is_lost ≡ false → core.zone.is_torn ≡ false → IfSome (g.state core.bay).contents (λ held. length (held 0 2) ≡ 512 * core.zone.blocks)
  core_whole works untorn = if_some (g.state core.bay).contents _ _ (λ held full. (full works).whole untorn) (full_now (array_in core) core.is_lost core.zone (g.state core.bay).contents core.full)

  -- there is room for so many blocks
  pub core_fits : (bytes : List ℕ) (blocks : ℕ) → core.is_lost ≡ false → core.zone.is_torn ≡ false → core.zone.blocks + blocks < core.geometry.blocks → length bytes ≡ 512 * blocks → IfSome (g.state core.bay).contents (λ held. length (held 0 2) + length bytes ≤ 512 * (g.state core.bay).shape.blocks)
  core_fits bytes blocks works untorn room long = if_some (g.state core.bay).contents _ _ (λ held whole. omega (arith, whole, long, room, core.of_bay.blocks)) (core_whole works untorn)

  -- where it failed, the bay still holds the core's records, whatever stands behind them
  pub failed_holds : {T E : Type 0} (e : E) (bytes : List ℕ) (now : BayState) → Appends {T = T} bytes (g.state core.bay) now (Err e) → IfSome (g.state core.bay).contents (λ held. IsHeld (array_in core) core.zone core.next_stamp core.index (g.state core.bay).shape held) → IfSome now.contents (λ held. IsHeld (array_in core) core.zone (core.next_stamp + 1) core.index now.shape held)
  failed_holds e bytes now calls holds =
      let more = take calls.part.0 bytes in
      subst (λ (shape : Shape). IfSome now.contents (λ held. IsHeld (array_in core) core.zone (core.next_stamp + 1) core.index shape held)) (sym calls.toward.goes_on.same_shape)
      (told_after (g.state core.bay).contents now.contents _ _
      (told_appended (g.state core.bay).contents now.contents more _ (λ _ held. IsHeld (array_in core) core.zone (core.next_stamp + 1) core.index (g.state core.bay).shape held) calls.part.1 holds
      (λ held it. held_more (array_in core) core.zone core.next_stamp (core.next_stamp + 1) core.index (g.state core.bay).shape held more (omega arith) it))
      (λ before held it. it))

  -- its buffer has room for a part and a note
  pub core_buffer : core.buffer.len ≡ 512 * (blocks_of core.geometry.shard + 2)
  core_buffer = omega (arith, core.room, core.buffer.ok.0)

  -- where it was answered, the bay holds what the core stands behind then
  pub grown_holds : (zone' : OpenZone) (stamp' : ℕ) (index' : Index) (change : Map → Map) (more : List ℕ) (now : BayState) → now.shape ≡ (g.state core.bay).shape → Told (g.state core.bay).contents now.contents (Grows (array_in core) (g.state core.bay).shape core.zone zone' stamp' index' change more) → IfSome now.contents (λ held. IsHeld (array_in core) zone' stamp' index' now.shape held)
  grown_holds zone' stamp' index' change more now same grown =
      subst (λ (shape : Shape). IfSome now.contents (λ held. IsHeld (array_in core) zone' stamp' index' shape held)) (sym same)
      (told_after (g.state core.bay).contents now.contents _ _ grown (λ before held grows. grows.held))

  pub grown_full : (zone' : OpenZone) (stamp' : ℕ) (index' : Index) (change : Map → Map) (more : List ℕ) (now : BayState) → Told (g.state core.bay).contents now.contents (Grows (array_in core) (g.state core.bay).shape core.zone zone' stamp' index' change more) → IfSome now.contents (λ held. IsFull (array_in core) core.is_lost zone' held)
  grown_full zone' stamp' index' change more now grown = told_after (g.state core.bay).contents now.contents _ _ grown (λ before held grows works. grows.all)

  -- while it isn't lost, its map is that of what the bay holds
  pub core_map : IfSome (g.state core.bay).contents (λ held. core.is_lost ≡ false → objects_over core held ≡ map_in (array_in core) (g.state core.bay).shape held)
  core_map = IfSome-both (g.state core.bay).contents _ _ _ (core_holds core) (full_now (array_in core) core.is_lost core.zone (g.state core.bay).contents core.full)
      (λ held it full works. at_one held it (full works) core.zone.is_torn refl)
    where
      at_one : (held : Contents) → IsHeld (array_in core) core.zone core.next_stamp core.index (g.state core.bay).shape held → IsAll (array_in core) core.zone held → (b : Bool) → core.zone.is_torn ≡ b → objects_over core held ≡ map_in (array_in core) (g.state core.bay).shape held
      at_one held it all false whole =
          ap (map_in (array_in core) (g.state core.bay).shape) (ap (λ (l : List ℕ). with_zone 0 2 l held) (take_all (512 * core.zone.blocks) (held 0 2) (omega (arith, all.whole whole))) ∙ same_zone held)
      at_one held it all true torn =
          let holds = all.torn torn in
          map_used_alone (array_in core) (g.state core.bay).shape held holds.0 core.zone.blocks (sym holds.1) core.one_source core.one_parity (has_drives core) (has_zones core) (ap is_some it.label) it.alone

  -- ---- what else it keeps

  pub same_bay : (now : BayState) → now.shape ≡ (g.state core.bay).shape → IsOfBay core.geometry now.shape
  same_bay now same = subst (λ (shape : Shape). IsOfBay core.geometry shape) (sym same) core.of_bay

  pub buffer_written : (out : List ℕ) → length out ≡ core.buffer.len → length (take core.buffer.len (out ++ drop (length out) core.buffer.items)) ≡ 512 * (blocks_of core.geometry.shard + 2)
  buffer_written out long = omega (arith, length-take core.buffer.len (out ++ drop (length out) core.buffer.items), length-append out (drop (length out) core.buffer.items), long, core_buffer)

  pub set_behind : (zone' : OpenZone) (load : Load) → zone' ≡ behind core.zone load → IsOfSet zone'
  set_behind zone' load is = subst IsOfSet (sym is) (record { set_from = core.of_set.set_from; set_to = core.of_set.set_to; index = core.of_set.index })
