-- Steps of a core: what it knows of what its bay holds, and what steps have in common.
use Rattle.std.proofs.Common.{◌≡◌, ℕ, ◌*◌, ◌<◌, ◌≤◌, Bool, true, false, List, [], ◌++◌, length, drop, Option, Some, None, IfSome, Result, Ok, Err, refl, sym, ap, subst, ◌∙◌, arith}
use Rattle.std.specs.Prelude.{is_some, IsSome, option_map, unwrap_or, ⊤}
use Rattle.std.specs.Result.{is_err, IsErr, OnOk, OnErr}
use Rattle.std.specs.Ordering.{nat_cmp}
use Rattle.std.specs.FinMap as finmap
use Rattle.std.specs.FinSet as set
use Rattle.std.specs.FinSet.{contains-empty}
use Rattle.std.proofs.lemmas.List.{length-take, take-append-drop}
use Rattle.smore_base.specs.Told.{Told}
use Rattle.smore_base.proofs.Told.{Told-same}
use Rattle.smore_base.specs.Objects.{Map, Value, Whole}
use Rattle.zone_bay.specs.declared.bay.Bay as bay
use Rattle.zone_bay.specs.Outside.{HasCause}
use Rattle.zone_bay.specs.Contents.{Shape, Contents, with_zone, appended}
use Rattle.zone_bay.specs.Images.{Instant}
use Rattle.zone_bay.specs.Bay.{BayState, held_in}
use Rattle.zone_bay.specs.Stretch.{GoesOn, OnlyReads, FailsReading}
use Rattle.zone_bay.proofs.Extends.{elsewhere, extends_itself, append_extends}
use Rattle.zone_bay.proofs.Stretch.{goes_nowhere, goes_weaker, reads_nothing, reads_weaker, no_fault}
use Rattle.marker_format.specs.Zone.{Array, whole_records}
use Rattle.object_machine.specs.declared.op.Op.{Op}
use Rattle.object_machine.specs.declared.op.Op.TheVariants.{Put, Get, Delete, List as ListNames}
use Rattle.object_machine.specs.declared.reply.Reply.{Reply}
use Rattle.object_machine.specs.declared.reply.Reply.TheVariants.{Done, Object, NotFound, Names, Refused}
use Rattle.object_machine.specs.declared.reply.Refusal.{Refusal}
use Rattle.object_machine.specs.declared.reply.Refusal.TheVariants.{Memory, NameBad, TooLarge, Full, TooFewFragments, Spent, Damaged}
use Rattle.store_core.specs.declared.store.Core.{Core}
use Rattle.store_core.specs.Extent.{Extents, extents_of}
use Rattle.store_core.specs.declared.extent.Extent.{Extent}
use Rattle.store_core.specs.declared.extent.Extent.TheVariants.{Sized}
use Rattle.store_core.proofs.Mapped.{get-mapped}
use Rattle.store_core.specs.declared.index.Note.{Note}
use Rattle.store_core.specs.Index.{notes_in, parts_in, extent_in}
use Rattle.store_core.specs.Get.{parts_at, AllCanBeRead, AllLieIn}
use Rattle.zone_bay.specs.OneDevice.{ReadsOn}
use Rattle.store_core.specs.Store.{Standing, Case, Cause, GetCause, Move, case_between, known_after, standing_after, FitsFrame}
use Rattle.store_core.specs.Held.{used, IsHeld}
use Rattle.store_core.specs.Stopped.{MayStop}
use Rattle.store_core.proofs.Stops.{stops_nowhere, stops_reading, stops_as}
use Rattle.store_core.specs.Core.{map_in, cut_to, lost_drives, array_in, geometry_of, bay_of, is_lost_in, known_in, standing_of, store_over, told_store, objects_in, case_of, WritesZone, FailsAppending, Goes, IsCalm, Steps}
use mathlib.Core.Logic.{∥∥₁_elim}
use Rattle.store_core.specs.Sound.{IsSoundIndex}
use Rattle.store_core.proofs.SoundLaws.{IsSoundIndex-prop}
use Rattle.store_core.proofs.Held.{map_used, known_used, value_used}
use Rattle.store_core.proofs.OpenZones.{open_filled}
use Rattle.store_core.proofs.HeldItems.{value_found, object_in}
use Rattle.store_core.proofs.PartsRead.{all_lie, parts_at-front, length-parts_at, sized_sum, object_is}
use Rattle.store_core.proofs.HeldProps.{held_now}
use Rattle.store_core.proofs.StoreMoves.{lost_known, LosesBy, lost_moves, stays_lost, IsUndone, Gives, stands_still, step_kept}

-- ---- what is told

-- a fact of what is told follows from others
pub if_some : {A : Type 0} (o : Option A) (P Q : A → Type 0) → ((x : A) → P x → Q x) → IfSome o P → IfSome o Q
if_some None P Q each it = tt
if_some (Some x) P Q each it = each x it

-- of what is made of two values that are told
pub told_made_of : {A C D : Type 0} (a b : Option A) (f : A → C) (h : A → D) (P : A → A → Type 0) (K G : A → Type 0) (Q : C → D → Type 0) → Told a b P → IfSome a K → IfSome a G → ((x y : A) → P x y → K x → G x → Q (f x) (h y)) → Told (option_map f a) (option_map h b) Q
told_made_of None None f h P K G Q told known gives each = tt
told_made_of None (Some y) f h P K G Q told known gives each = told
told_made_of (Some x) None f h P K G Q told known gives each = told
told_made_of (Some x) (Some y) f h P K G Q told known gives each = each x y told known gives

-- ---- what a core knows

module _ {B : Type 0} {g : bay.Ghosts B} (core : Core B g) where
  pub has_drives : 1 < (g.state core.bay).shape.devices
  has_drives = omega (arith, core.of_bay.devices, core.limits.drives_from, core.one_source, core.one_parity)

  pub has_zones : 2 < (g.state core.bay).shape.zones
  has_zones = omega (arith, core.of_bay.zones, core.limits.zones_from)

  pub core_holds : IfSome (g.state core.bay).contents (λ held. IsHeld (array_in core) core.zone core.next_stamp core.index (g.state core.bay).shape held)
  core_holds = held_now (array_in core) core.zone core.next_stamp core.index (g.state core.bay).shape (g.state core.bay).contents core.told

  pub core_sound : IsSoundIndex core.geometry.blocks core.geometry.shard core.next_stamp core.index
  core_sound = ∥∥₁_elim core.sound (IsSoundIndex-prop core.geometry.blocks core.geometry.shard core.next_stamp core.index) (λ it. it)

  -- the map of the bytes behind which it stands
  abbrev pub objects_over : Contents → Map
  objects_over held = map_in (array_in core) (g.state core.bay).shape (cut_to core.zone.blocks held)

  -- it knows each name of that
  pub core_knows : IfSome (g.state core.bay).contents (λ held. extents_of (objects_over held) ≡ known_in core)
  core_knows = if_some (g.state core.bay).contents _ _
      (λ held it.
      ap extents_of (map_used (array_in core) (g.state core.bay).shape core.one_source core.one_parity has_drives has_zones core.zone core.next_stamp core.index held it)
      ∙ known_used (array_in core) (g.state core.bay).shape core.one_source core.one_parity has_drives has_zones core.zone core.next_stamp core.index held it)
      core_holds

-- ---- moves that keep all objects

module _ {B : Type 0} {g : bay.Ghosts B} (old new : Core B g) (op : Op) (reply : Reply) where
  -- the case of a step is that of its move
  pub case_is : (held held' : Contents) → extents_of (objects_over old held) ≡ known_in old → case_between (geometry_of old) (store_over old (g.state old.bay) held) (store_over new (g.state new.bay) held') ≡ case_of old new
  case_is held held' knows = λ i. record { geometry = old.geometry; known = knows i; at = standing_of old; is_lost = lost_known new.is_lost i }

  pub stay_lost : (old.is_lost ≡ true → new.is_lost ≡ true) → (d : ℕ) → set.contains (lost_drives old.is_lost) d ≡ true → set.contains (lost_drives new.is_lost) d ≡ true
  stay_lost stays d = at_one old.is_lost new.is_lost stays
    where
      at_one : (was is : Bool) → (was ≡ true → is ≡ true) → set.contains (lost_drives was) d ≡ true → set.contains (lost_drives is) d ≡ true
      at_one true is stays it = subst (λ b. set.contains (lost_drives b) d ≡ true) (sym (stays refl)) it
      at_one false true stays it = absurd (no it)
        where
          no : set.contains (lost_drives false) d ≡ true → ⊥
          no it = let none = contains-empty nat_cmp d in cc
      at_one false false stays it = it

  -- what a step keeps that is not done: the objects, and what is known of them
  pub record IsKept : Type 0 where
    pub array : array_in new ≡ array_in old
    pub known : known_in new ≡ known_in old
    pub at : standing_of new ≡ standing_after op reply old.is_lost (standing_of old)
    pub blocks : new.zone.blocks ≡ old.zone.blocks
    pub lost : LosesBy reply old.is_lost new.is_lost
    pub stays : old.is_lost ≡ true → new.is_lost ≡ true
    pub shape : (g.state new.bay).shape ≡ (g.state old.bay).shape
    pub later : (g.state old.bay).moment ≤ (g.state new.bay).moment
    pub cut : Told (g.state old.bay).contents (g.state new.bay).contents (λ before after. cut_to old.zone.blocks after ≡ cut_to old.zone.blocks before)
    pub gives : IfSome (g.state old.bay).contents (λ held. Gives (objects_over old held) op reply)

  cut_held : (before after : Option Contents) → Told before after (λ h h'. cut_to old.zone.blocks h' ≡ cut_to old.zone.blocks h) → cut_to old.zone.blocks (unwrap_or after (λ _ _. [])) ≡ cut_to old.zone.blocks (unwrap_or before (λ _ _. []))
  cut_held None None cut = refl
  cut_held None (Some after) cut = absurd cut
  cut_held (Some before) None cut = absurd cut
  cut_held (Some before) (Some after) cut = cut

  pub objects_kept : IsKept → objects_in g.state new ≡ objects_in g.state old
  objects_kept kept =
      let held = held_in (g.state new.bay) in
      ap (λ (a : Array). map_in a (g.state new.bay).shape (cut_to new.zone.blocks held)) kept.array
      ∙ ap (λ (shape : Shape). map_in (array_in old) shape (cut_to new.zone.blocks held)) kept.shape
      ∙ ap (λ n. map_in (array_in old) (g.state old.bay).shape (cut_to n held)) kept.blocks
      ∙ ap (map_in (array_in old) (g.state old.bay).shape) (cut_held (g.state old.bay).contents (g.state new.bay).contents kept.cut)

  pub told_kept : IsKept → Cause (case_of old new) op reply → IsUndone reply → Told (told_store g.state old) (told_store g.state new) (λ s t. Move (geometry_of old) s op reply t)
  told_kept kept cause undone = told_made_of (g.state old.bay).contents (g.state new.bay).contents (store_over old (g.state old.bay)) (store_over new (g.state new.bay)) _ _ _ _ kept.cut (core_knows old) kept.gives
      (λ before after cut knows gives.
      let s = store_over old (g.state old.bay) before in
      let t = store_over new (g.state new.bay) after in
      let case = case_is before after knows in
      let same : t.state.objects ≡ s.state.objects =
      ap (λ (a : Array). map_in a (g.state new.bay).shape (cut_to new.zone.blocks after)) kept.array
      ∙ ap (λ (shape : Shape). map_in (array_in old) shape (cut_to new.zone.blocks after)) kept.shape
      ∙ ap (λ n. map_in (array_in old) (g.state old.bay).shape (cut_to n after)) kept.blocks
      ∙ ap (map_in (array_in old) (g.state old.bay).shape) cut in
      record {
        cause = subst (λ (c : Case). Cause c op reply) (sym case) cause;
        step = step_kept (case_of old new) s.state t.state (sym knows) same (stay_lost kept.stays) op reply cause undone gives;
        lost = lost_moves reply old.is_lost new.is_lost kept.lost;
        at = kept.at ∙ ap (λ b. standing_after op reply b (standing_of old)) (sym (lost_known old.is_lost));
        later = kept.later;
      })

-- ---- steps without a call

pub same_zone : (held : Contents) → with_zone 0 2 (held 0 2) held ≡ held
same_zone held = λ i d z. elsewhere 0 2 (held 0 2) held (λ d z now. now ≡ held d z) refl (λ d z. refl) d z i

pub writes_nothing : (contents : Option Contents) → WritesZone contents contents
writes_nothing None = ([], refl)
writes_nothing (Some held) = (held 0 2, ap (λ (h : Contents). Some h) (sym (same_zone held)))

-- bytes were put at the end of the zone
pub writes_appended : (bytes : List ℕ) (before after : Option Contents) → after ≡ option_map (appended 0 2 bytes) before → WritesZone before after
writes_appended bytes before after is = at_one before is
  where
    at_one : (c : Option Contents) → after ≡ option_map (appended 0 2 bytes) c → WritesZone c after
    at_one None is = ([], is)
    at_one (Some held) is = (held 0 2 ++ bytes, is)

pub goes_without : (lost : Bool) (bay : BayState) → Goes lost lost bay bay
goes_without lost bay = record {
  goes_on = goes_nowhere bay _ _;
  zone = writes_nothing bay.contents;
  others = λ d other. refl;
  kept = λ works. refl;
  rose = λ works is. absurd cc;
  stays = λ was. was;
}

-- an answer that isn't an object
abbrev pub HasNoBytes : Reply → Type 0
HasNoBytes (Object bytes) = ⊥
HasNoBytes reply = ⊤

-- what is known stays, and so does where a get leaves the store
pub knows_still : (op : Op) (reply : Reply) (known : Extents) → IsUndone reply → known_after op reply known ≡ known
knows_still op Done known undone = absurd undone
knows_still (Put name object) (Object bytes) known undone = refl
knows_still (Put name object) NotFound known undone = refl
knows_still (Put name object) (Names names more) known undone = refl
knows_still (Put name object) (Refused why) known undone = refl
knows_still (Delete name) (Object bytes) known undone = refl
knows_still (Delete name) NotFound known undone = refl
knows_still (Delete name) (Names names more) known undone = refl
knows_still (Delete name) (Refused why) known undone = refl
knows_still (Get name) reply known undone = refl
knows_still (ListNames after limit) reply known undone = refl

never_done : (reply : Reply) → IsUndone reply → reply ≡ Done → ⊥
never_done reply undone is = subst IsUndone is undone

module _ {B : Type 0} {g : bay.Ghosts B} where
  -- two cores are equal in all but their room and their proofs
  abbrev pub IsSame : Core B g → Core B g → Type 0
  IsSame old new = (bay_of new ≡ bay_of old) × (array_in new ≡ array_in old) × (known_in new ≡ known_in old) × (standing_of new ≡ standing_of old) × (is_lost_in new ≡ is_lost_in old)

  module _ (old new : Core B g) (same : IsSame old new) (op : Op) (reply : Reply) (cause : Cause (case_of old old) op reply) (undone : IsUndone reply)
      (gives : IfSome (g.state old.bay).contents (λ held. Gives (objects_over old held) op reply)) (fits : FitsFrame reply) where
    kept_without : IsKept old new op reply
    kept_without =
        let loses = stays_lost (case_of old old) op reply cause in
        record {
          array = same.1;
          known = same.2;
          at = same.3 ∙ sym (stands_still op reply old.is_lost (standing_of old) undone loses);
          blocks = ap (λ (s : Standing). s.blocks) same.3;
          lost = subst (LosesBy reply old.is_lost) (sym same.4) loses;
          stays = λ was. same.4 ∙ was;
          shape = ap (λ (b : B). (g.state b).shape) same.0;
          later = subst (λ (b : B). (g.state old.bay).moment ≤ (g.state b).moment) (sym same.0) (omega arith);
          cut = subst (λ (b : B). Told (g.state old.bay).contents (g.state b).contents (λ before after. cut_to old.zone.blocks after ≡ cut_to old.zone.blocks before)) (sym same.0) (Told-same (g.state old.bay).contents _ (λ held. refl));
          gives = gives;
        }

    -- nothing changed
    pub steps_without : Steps g.state old op reply new
    steps_without =
        let kept = kept_without in
        let cause' : Cause (case_of old new) op reply = subst (λ b. Cause (record (case_of old old) { is_lost = b }) op reply) (sym same.4) cause in
        record {
          told = told_kept old new op reply kept cause' undone;
          cause = cause';
          known = same.2 ∙ sym (knows_still op reply (known_in old) undone);
          at = kept.at;
          array = same.1;
          goes = subst (λ (b : B). Goes old.is_lost new.is_lost (g.state old.bay) (g.state b)) (sym same.0) (subst (λ b. Goes old.is_lost b (g.state old.bay) (g.state old.bay)) (sym same.4) (goes_without old.is_lost (g.state old.bay)));
          failed = λ works is. absurd (let no : false ≡ true = sym works ∙ sym same.4 ∙ is in cc);
          untouched = λ was. same.0;
          calm = λ is. same.0;
          reads = λ is. subst (λ (b : B). OnlyReads (g.state old.bay) (g.state b) (λ _ _. ⊤)) (sym same.0) (reads_nothing (g.state old.bay) _);
          firm = λ is. absurd (never_done reply undone is);
          fits = fits;
          stopped = λ enough keeps. stops_as (array_in old) (objects_in g.state old) (objects_in g.state old) (objects_in g.state old) (objects_in g.state new) (g.state old.bay) (g.state new.bay) refl (sym (objects_kept old new op reply kept))
              (subst (λ (b : B). MayStop (array_in old) (objects_in g.state old) (objects_in g.state old) (g.state old.bay) (g.state b)) (sym same.0) (stops_nowhere (array_in old) (objects_in g.state old) (g.state old.bay) keeps));
        }

-- an answer without an object's bytes gives the bytes of none
pub gives_none : (op : Op) (reply : Reply) → HasNoBytes reply → (objects : Map) → Gives objects op reply
gives_none (Put name object) reply none objects = tt
gives_none (Get name) Done none objects = tt
gives_none (Get name) (Object bytes) none objects = absurd none
gives_none (Get name) NotFound none objects = tt
gives_none (Get name) (Names names more) none objects = tt
gives_none (Get name) (Refused why) none objects = tt
gives_none (Delete name) reply none objects = tt
gives_none (ListNames after limit) reply none objects = tt

pub if_all : {A : Type 0} (o : Option A) (P : A → Type 0) → ((x : A) → P x) → IfSome o P
if_all None P each = tt
if_all (Some x) P each = each x

module _ {B : Type 0} {g : bay.Ghosts B} where
  -- an answer in other words
  pub steps_as : (old new : Core B g) (op : Op) (reply same : Reply) → same ≡ reply → Steps g.state old op reply new → Steps g.state old op same new
  steps_as old new op reply same is steps = subst (λ (r : Reply). Steps g.state old op r new) (sym is) steps

  -- an answer where nothing changed
  pub steps_answered : (old new : Core B g) → IsSame old new → (op : Op) (reply : Reply) → Cause (case_of old old) op reply → IsUndone reply → HasNoBytes reply → FitsFrame reply → Steps g.state old op reply new
  steps_answered old new same op reply cause undone none fits = steps_without old new same op reply cause undone (if_all (g.state old.bay).contents _ (λ held. gives_none op reply none (objects_over old held))) fits

  -- a refusal where nothing changed
  pub steps_refused : (old new : Core B g) → IsSame old new → (op : Op) (why : Refusal) (reply : Reply) → reply ≡ Refused why → Cause (case_of old old) op (Refused why) → Steps g.state old op reply new
  steps_refused old new same op why reply is cause = steps_as old new op (Refused why) reply is (steps_answered old new same op (Refused why) cause tt tt tt)

-- ---- steps with calls

ok_part : {T E P : Type 0} (r : Result T E) → is_err r ≡ false → OnOk r P → P
ok_part (Ok x) is p = p
ok_part (Err e) is p = absurd cc

err_part : {T E P : Type 0} (r : Result T E) → is_err r ≡ true → OnErr r P → P
err_part (Ok x) is p = absurd cc
err_part (Err e) is p = p

-- only a call that failed makes the drive lost
pub goes_calls : {T E : Type 0} (r : Result T E) (old new : BayState) (P : Instant → Contents → Type 0) (was is : Bool) → was ≡ false → is ≡ is_err r → GoesOn old new P (λ d _. IsErr r × (d ≡ 0)) → HasCause r (old.faults 0) (new.faults 0) → WritesZone old.contents new.contents → Goes was is old new
goes_calls r old new P was is works same goes cause writes = record {
  goes_on = goes_weaker old new _ _ _ _ (λ i image since left. tt) (λ d m since failed. (failed.1, same ∙ failed.0)) goes;
  zone = writes;
  others = λ d other. no_fault old new _ _ d goes (λ m failed. other failed.1);
  kept = λ good. ok_part r (sym same ∙ good) cause.ok;
  rose = λ good bad. err_part r (sym same ∙ bad) cause.err;
  stays = λ bad. absurd (let no : true ≡ false = sym bad ∙ works in cc);
}

told_same : (before after : Option Contents) (P : Contents → Contents → Type 0) → after ≡ before → ((held : Contents) → P held held) → Told before after P
told_same before after P same each = subst (λ (o : Option Contents). Told before o P) (sym same) (Told-same before P each)

writes_same : (before after : Option Contents) → after ≡ before → WritesZone before after
writes_same before after same = subst (WritesZone before) (sym same) (writes_nothing before)

-- a failed read is a failed append of no bytes
pub fails_appending : (old new : BayState) → FailsReading 0 old new → FailsAppending old new
fails_appending old new fails = (
  [],
  if_some old.contents _ _ (λ held it. record {
    moment = it.0;
    held = held;
    firm = old.firm;
    since = it.1;
    way = record { began = extends_itself held; extends = append_extends 0 2 [] held; no_less = λ d z. omega arith };
    over = it.2;
  }) fails,
)

get_stands : (name : List ℕ) (reply : Reply) (was : Bool) (at : Standing) → IsUndone reply → standing_after (Get name) reply was at ≡ at
get_stands name Done was at undone = absurd undone
get_stands name (Object bytes) was at undone = refl
get_stands name NotFound was at undone = refl
get_stands name (Names names more) was at undone = refl
get_stands name (Refused Memory) was at undone = refl
get_stands name (Refused (NameBad n)) was at undone = refl
get_stands name (Refused (TooLarge n)) was at undone = refl
get_stands name (Refused (Full need room)) was at undone = refl
get_stands name (Refused (TooFewFragments of_set missing)) true at undone = refl
get_stands name (Refused (TooFewFragments of_set missing)) false at undone = refl
get_stands name (Refused Spent) was at undone = refl
get_stands name (Refused (Damaged upload part)) was at undone = refl

module _ {B : Type 0} {g : bay.Ghosts B} {T E : Type 0} (r : Result T E) (old new : Core B g) (name : List ℕ) (reply : Reply)
    (array : array_in new ≡ array_in old) (known : known_in new ≡ known_in old) (at : standing_of new ≡ standing_of old)
    (works : old.is_lost ≡ false) (lost : new.is_lost ≡ is_err r) (calls : ReadsOn 0 (g.state old.bay) (g.state new.bay) r)
    (cause : GetCause (case_of old new) name reply) (undone : IsUndone reply) (loses : LosesBy reply old.is_lost new.is_lost) (busy : IsCalm reply → ⊥)
    (gives : IfSome (g.state old.bay).contents (λ held. Gives (objects_over old held) (Get name) reply)) (fits : FitsFrame reply) where
  -- a get that read, whether its calls were answered or one failed
  pub steps_reading : Steps g.state old (Get name) reply new
  steps_reading = record {
    told = told_kept old new (Get name) reply kept cause undone;
    cause = cause;
    known = known ∙ sym (knows_still (Get name) reply (known_in old) undone);
    at = kept.at;
    array = array;
    goes = goes_calls r (g.state old.bay) (g.state new.bay) _ old.is_lost new.is_lost works lost calls.only.goes_on calls.cause (writes_same (g.state old.bay).contents (g.state new.bay).contents calls.only.contents);
    failed = λ was bad. fails_appending (g.state old.bay) (g.state new.bay) (err_part r (sym lost ∙ bad) calls.over);
    untouched = λ bad. absurd (let no : true ≡ false = sym bad ∙ works in cc);
    calm = λ is. absurd (busy is);
    reads = λ is. reads_weaker (g.state old.bay) (g.state new.bay) _ _ (λ d m since failed. tt) calls.only;
    firm = λ is. absurd (never_done reply undone is);
    fits = fits;
    stopped = λ enough keeps. stops_as (array_in old) (objects_in g.state old) (objects_in g.state old) (objects_in g.state old) (objects_in g.state new) (g.state old.bay) (g.state new.bay) refl (sym (objects_kept old new (Get name) reply kept))
        (stops_reading (array_in old) (objects_in g.state old) (g.state old.bay) (g.state new.bay) _ calls.only keeps);
  }
    where
      kept : IsKept old new (Get name) reply
      kept = record {
        array = array;
        known = known;
        at = at ∙ sym (get_stands name reply old.is_lost (standing_of old) undone);
        blocks = ap (λ (s : Standing). s.blocks) at;
        lost = loses;
        stays = λ bad. absurd (let no : true ≡ false = sym bad ∙ works in cc);
        shape = calls.only.goes_on.same_shape;
        later = calls.only.goes_on.later;
        cut = told_same (g.state old.bay).contents (g.state new.bay).contents _ calls.only.contents (λ held. refl);
        gives = gives;
      }

-- ---- an object's bytes

module _ {B : Type 0} {g : bay.Ghosts B} (core : Core B g) where
  -- each part lies within what the zone holds
  pub all_written : (upload : ℕ) → IfSome (g.state core.bay).contents (λ held. AllLieIn (held 0 2) (parts_in core.index) upload)
  all_written upload = if_some (g.state core.bay).contents _ _
      (λ held it number part there.
      let array = array_in core in
      let bytes = used core.zone held in
      let filled = open_filled array bytes it.usable in
      let lies = all_lie array core.one_source bytes (whole_records array bytes) filled.fill.begin core.index it.says upload number part there in
      omega (arith, lies, length-take (512 * core.zone.blocks) (held 0 2)))
      (core_holds core)

  -- and can be read
  pub all_readable : (upload : ℕ) → AllCanBeRead (g.state core.bay).shape.blocks (length core.buffer.items) (parts_in core.index) upload
  all_readable upload number part there =
      let sound = (core_sound core).parts upload number part there in
      record {
        within = omega (arith, sound.within, core.of_bay.blocks);
        fits = omega (arith, sound.small, core.room);
      }

  -- a name with a note of so many bytes stands for the bytes of its parts
  pub note_gives : (name : List ℕ) (note : Note) (size : ℕ) → finmap.get (notes_in core.index) name ≡ Some note → extent_in (parts_in core.index) note ≡ Sized size
      → IfSome (g.state core.bay).contents (λ held. (finmap.get (objects_over core held) name ≡ Some (Whole (parts_at (parts_in core.index) (held 0 2) note.upload 0 note.parts))) × (length (parts_at (parts_in core.index) (held 0 2) note.upload 0 note.parts) ≡ size))
  note_gives name note size named sized = if_some (g.state core.bay).contents _ _
      (λ held it.
      let array = array_in core in
      let shape = (g.state core.bay).shape in
      let bytes = used core.zone held in
      let ms = whole_records array bytes in
      let filled = open_filled array bytes it.usable in
      let lie = all_lie array core.one_source bytes ms filled.fill.begin core.index it.says note.upload in
      let front : parts_at (parts_in core.index) (held 0 2) note.upload 0 note.parts ≡ parts_at (parts_in core.index) bytes note.upload 0 note.parts =
      ap (λ (l : List ℕ). parts_at (parts_in core.index) l note.upload 0 note.parts) (sym (take-append-drop (512 * core.zone.blocks) (held 0 2)))
      ∙ parts_at-front (parts_in core.index) bytes (drop (512 * core.zone.blocks) (held 0 2)) note.upload 0 note.parts lie in
      let long = length-parts_at array core.one_source bytes ms filled.fill.begin core.index it.says note.upload note.parts size (sized_sum (parts_in core.index) note size sized).0 in
      let object = object_is array core.one_source bytes ms filled.fill.begin core.index it.says note size sized in (
        ap (λ (m : Map). finmap.get m name) (map_used array shape core.one_source core.one_parity (has_drives core) (has_zones core) core.zone core.next_stamp core.index held it)
            ∙ value_used array shape core.one_source core.one_parity (has_drives core) (has_zones core) core.zone core.next_stamp core.index held it name
            ∙ value_found array core.one_source bytes ms filled.fill.begin core.index it.says name
            ∙ ap (option_map (object_in array core.one_source bytes ms filled.fill.begin core.index it.says)) named
            ∙ ap (λ (v : Value). Some v) object
            ∙ ap (λ (l : List ℕ). Some (Whole l)) (sym front),
        ap length front ∙ long,
      ))
      (core_holds core)

  -- it knows what its note says of a name
  pub knows_note : (name : List ℕ) (note : Note) (extent : Extent) → finmap.get (notes_in core.index) name ≡ Some note → extent_in (parts_in core.index) note ≡ extent → finmap.get (known_in core) name ≡ Some extent
  knows_note name note extent named is =
      get-mapped (extent_in (parts_in core.index)) (notes_in core.index) name
      ∙ ap (option_map (extent_in (parts_in core.index))) named ∙ ap (λ (e : Extent). Some e) is

  pub knows_none : (name : List ℕ) → finmap.get (notes_in core.index) name ≡ None → finmap.get (known_in core) name ≡ None
  knows_none name none = get-mapped (extent_in (parts_in core.index)) (notes_in core.index) name ∙ ap (option_map (extent_in (parts_in core.index))) none

  pub knows_some : (name : List ℕ) → IsSome (finmap.get (notes_in core.index) name) → IsSome (finmap.get (known_in core) name)
  knows_some name there = at_one (finmap.get (notes_in core.index) name) refl there
    where
      at_one : (o : Option Note) → finmap.get (notes_in core.index) name ≡ o → IsSome o → IsSome (finmap.get (known_in core) name)
      at_one None e there = absurd cc
      at_one (Some note) e there = ap is_some (get-mapped (extent_in (parts_in core.index)) (notes_in core.index) name ∙ ap (option_map (extent_in (parts_in core.index))) e)
