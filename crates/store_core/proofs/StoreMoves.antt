-- Moves of a store that change no object.
use Rattle.std.proofs.Common.{◌≡◌, ℕ, ◌<◌, ◌≤◌, Bool, true, false, List, length, take, Option, Some, None, refl, sym, ap, subst, ◌∙◌}
use Rattle.std.specs.Prelude.{◌||◌, ◌↔◌, IsSome, IsTrue, option_map, ⊤}
use Rattle.std.specs.Ordering.{nat_cmp, eq_by_cmp}
use Rattle.std.specs.Cmp.{nat_cmp_total}
use Rattle.std.specs.FinMap as finmap
use Rattle.std.specs.FinSet as set
use Rattle.std.specs.FinSet.{contains-empty, contains-insert, same_set, nat_cmp-IsAntisymmetric}
use Rattle.smore_base.specs.Name.{IsName}
use Rattle.smore_base.specs.Objects.{Value, Whole, Map}
use Rattle.rs_code.specs.Blob.{CutBytes}
use Rattle.object_machine.specs.declared.op.Op.{Op}
use Rattle.object_machine.specs.declared.op.Op.TheVariants.{Put, Get, Delete, List as ListNames}
use Rattle.object_machine.specs.declared.reply.Reply.{Reply}
use Rattle.object_machine.specs.declared.reply.Reply.TheVariants.{Done, Object, NotFound, Names, Refused}
use Rattle.object_machine.specs.declared.reply.Refusal.{Refusal}
use Rattle.object_machine.specs.declared.reply.Refusal.TheVariants.{Memory, NameBad, TooLarge, Full, TooFewFragments, Spent, Damaged}
use Rattle.object_machine.specs.State.{State, Step, HasObject, IsLost, OnlyLoses, ListsNames, most_names, names_above as names_of_map}
use Rattle.store_core.specs.declared.extent.Extent.{Extent}
use Rattle.store_core.specs.Extent.{Extents, names_above, extent_of, extents_of}
use Rattle.store_core.specs.declared.zone.Load.{Load}
use Rattle.store_core.specs.Store.{Standing, Case, MayAppend, Cause, AppendCause, PutCause, GetCause, DeleteCause, ListCause, note_load, put_load, lost_after, standing_after}
use Rattle.store_core.specs.Core.{lost_drives}
use Rattle.store_core.proofs.Mapped.{get-mapped, above-mapped}

-- ---- the lost devices

pub lost_known : (lost : Bool) → set.contains (lost_drives lost) 0 ≡ lost
lost_known false = contains-empty nat_cmp 0
lost_known true = contains-insert nat_cmp_total set.empty 0 0

lost_again : set.insert (lost_drives true) 0 ≡ lost_drives true
lost_again = same_set nat_cmp_total nat_cmp-IsAntisymmetric _ _ (λ q.
    contains-insert nat_cmp_total (lost_drives true) 0 q
    ∙ ap (λ b. eq_by_cmp nat_cmp q 0 || b) (contains-insert nat_cmp_total set.empty 0 q)
    ∙ twice (eq_by_cmp nat_cmp q 0) (set.contains (set.empty {R = nat_cmp}) q)
    ∙ sym (contains-insert nat_cmp_total set.empty 0 q))
  where
    twice : (a b : Bool) → (a || (a || b)) ≡ (a || b)
    twice true b = refl
    twice false b = refl

-- only the answer that drive 0 is lost changes whether it is
abbrev pub LosesBy : Reply → Bool → Bool → Type 0
LosesBy (Refused (TooFewFragments of_set missing)) was is = is ≡ true
LosesBy reply was is = is ≡ was

same_drives : (was is : Bool) → is ≡ was → lost_drives is ≡ lost_drives was
same_drives was is same = ap lost_drives same

pub lost_moves : (reply : Reply) (was is : Bool) → LosesBy reply was is → lost_drives is ≡ lost_after reply (lost_drives was)
lost_moves Done was is by = same_drives was is by
lost_moves (Object bytes) was is by = same_drives was is by
lost_moves NotFound was is by = same_drives was is by
lost_moves (Names names more) was is by = same_drives was is by
lost_moves (Refused Memory) was is by = same_drives was is by
lost_moves (Refused (NameBad n)) was is by = same_drives was is by
lost_moves (Refused (TooLarge n)) was is by = same_drives was is by
lost_moves (Refused (Full need room)) was is by = same_drives was is by
lost_moves (Refused (TooFewFragments of_set missing)) false is by = same_drives true is by
lost_moves (Refused (TooFewFragments of_set missing)) true is by = same_drives true is by ∙ sym lost_again
lost_moves (Refused Spent) was is by = same_drives was is by
lost_moves (Refused (Damaged upload part)) was is by = same_drives was is by

-- where an answer without a call says that it is lost, it was
abbrev IsLostBy : Bool → Reply → Type 0
IsLostBy lost (Refused (TooFewFragments of_set missing)) = lost ≡ true
IsLostBy lost reply = ⊤

lost_said : (c : Case) (op : Op) (of_set missing : ℕ) → Cause c op (Refused (TooFewFragments of_set missing)) → c.is_lost ≡ true
lost_said c (Put name object) of_set missing cause = cause.2.1.lost
lost_said c (Get name) of_set missing cause = cause.2.lost
lost_said c (Delete name) of_set missing cause = cause.2.1.lost
lost_said c (ListNames after limit) of_set missing cause = absurd cause

pub stays_lost : (c : Case) (op : Op) (reply : Reply) → Cause c op reply → LosesBy reply c.is_lost c.is_lost
stays_lost c op Done cause = refl
stays_lost c op (Object bytes) cause = refl
stays_lost c op NotFound cause = refl
stays_lost c op (Names names more) cause = refl
stays_lost c op (Refused Memory) cause = refl
stays_lost c op (Refused (NameBad n)) cause = refl
stays_lost c op (Refused (TooLarge n)) cause = refl
stays_lost c op (Refused (Full need room)) cause = refl
stays_lost c op (Refused (TooFewFragments of_set missing)) cause = lost_said c op of_set missing cause
stays_lost c op (Refused Spent) cause = refl
stays_lost c op (Refused (Damaged upload part)) cause = refl

-- whether records may be appended doesn't hang on what is lost afterwards
pub may_still : (c : Case) (load : Load) (lost : Bool) → MayAppend c load → MayAppend (record c { is_lost = lost }) load
may_still c load lost may = record { stamp = may.stamp; room = record { blocks = may.room.blocks; records = may.room.records; whole = may.room.whole } }

-- ---- answers that change no object

-- all but one
abbrev pub IsUndone : Reply → Type 0
IsUndone Done = ⊥
IsUndone reply = ⊤

-- the bytes that a get answers are those of the map
abbrev pub Gives : Map → Op → Reply → Type 0
Gives objects (Get name) (Object bytes) = finmap.get objects name ≡ Some (Whole bytes)
Gives objects op reply = ⊤

-- without a call the store stays where it stands
pub stands_still : (op : Op) (reply : Reply) (lost : Bool) (at : Standing) → IsUndone reply → LosesBy reply lost lost → standing_after op reply lost at ≡ at
stands_still op Done lost at undone by = absurd undone
stands_still op (Object bytes) lost at undone by = refl
stands_still op NotFound lost at undone by = refl
stands_still op (Names names more) lost at undone by = refl
stands_still op (Refused Memory) lost at undone by = refl
stands_still op (Refused (NameBad n)) lost at undone by = refl
stands_still op (Refused (TooLarge n)) lost at undone by = refl
stands_still op (Refused (Full need room)) lost at undone by = refl
stands_still op (Refused (TooFewFragments of_set missing)) true at undone by = refl
stands_still op (Refused (TooFewFragments of_set missing)) false at undone by = absurd cc
stands_still op (Refused Spent) lost at undone by = refl
stands_still op (Refused (Damaged upload part)) lost at undone by = refl

some_made : {X Y : Type 0} (f : X → Y) (o : Option X) (y : Y) → option_map f o ≡ Some y → IsSome o
some_made f None y e = absurd cc
some_made f (Some x) y e = refl

none_made : {X Y : Type 0} (f : X → Y) (o : Option X) → option_map f o ≡ None → o ≡ None
none_made f None e = refl
none_made f (Some x) e = absurd cc

-- a name of which something is known has an object
pub has_object : (objects : Map) (known : Extents) (name : List ℕ) → extents_of objects ≡ known → IsSome (finmap.get known name) → HasObject objects name
has_object objects known name knows is = at_one (finmap.get objects name) (subst IsSome (ap (λ k. finmap.get k name) (sym knows) ∙ get-mapped extent_of objects name) is)
  where
    at_one : (o : Option Value) → IsSome (option_map extent_of o) → IsSome o
    at_one None e = absurd cc
    at_one (Some value) e = refl

module _ (c : Case) (old new : State) (known : c.known ≡ extents_of old.objects) (same : new.objects ≡ old.objects) (stay : (d : ℕ) → IsLost old d → IsLost new d) where
  only : OnlyLoses old new
  only = record { rest = record { objects = same }; stay_lost = stay }

  known_at : (name : List ℕ) → finmap.get c.known name ≡ option_map extent_of (finmap.get old.objects name)
  known_at name = ap (λ k. finmap.get k name) known ∙ get-mapped extent_of old.objects name

  there : (name : List ℕ) (extent : Extent) → finmap.get c.known name ≡ Some extent → HasObject old.objects name
  there name extent is = some_made extent_of (finmap.get old.objects name) extent (sym (known_at name) ∙ is)

  absent : (name : List ℕ) → finmap.get c.known name ≡ None → finmap.get old.objects name ≡ None
  absent name is = none_made extent_of (finmap.get old.objects name) (sym (known_at name) ∙ is)

  some_there : (name : List ℕ) → IsSome (finmap.get c.known name) → HasObject old.objects name
  some_there name is = has_object old.objects c.known name (sym known) is

  step_put : (name : List ℕ) (object : CutBytes) (reply : Reply) → PutCause c name (length object.bytes) reply → IsUndone reply → Step old (Put name object) reply new
  step_put name object Done cause undone = absurd undone
  step_put name object (Object bytes) cause undone = absurd cause.2
  step_put name object NotFound cause undone = absurd cause.2
  step_put name object (Names names more) cause undone = absurd cause.2
  step_put name object (Refused Memory) cause undone = (tt, only)
  step_put name object (Refused (NameBad n)) cause undone = (tt, only)
  step_put name object (Refused (TooLarge n)) cause undone = (tt, only)
  step_put name object (Refused (Full need room)) cause undone = (tt, only)
  step_put name object (Refused (TooFewFragments of_set missing)) cause undone = (tt, only)
  step_put name object (Refused Spent) cause undone = (tt, only)
  step_put name object (Refused (Damaged upload part)) cause undone = absurd cause.2

  step_delete : (name : List ℕ) (reply : Reply) → DeleteCause c name reply → IsUndone reply → Step old (Delete name) reply new
  step_delete name Done cause undone = absurd undone
  step_delete name (Object bytes) cause undone = absurd cause.2
  step_delete name NotFound cause undone = (cause.0, absent name cause.1, only)
  step_delete name (Names names more) cause undone = absurd cause.2
  step_delete name (Refused Memory) cause undone = (tt, λ named. some_there name cause.1, only)
  step_delete name (Refused (NameBad n)) cause undone = (tt, λ named. absurd (cause.0 named), only)
  step_delete name (Refused (TooLarge n)) cause undone = absurd cause.2
  step_delete name (Refused (Full need room)) cause undone = (tt, λ named. some_there name cause.1, only)
  step_delete name (Refused (TooFewFragments of_set missing)) cause undone = (tt, λ named. some_there name cause.1, only)
  step_delete name (Refused Spent) cause undone = (tt, λ named. some_there name cause.1, only)
  step_delete name (Refused (Damaged upload part)) cause undone = absurd cause.2

  step_get : (name : List ℕ) (reply : Reply) → GetCause c name reply → Gives old.objects (Get name) reply → Step old (Get name) reply new
  step_get name Done cause gives = absurd cause
  step_get name (Object bytes) cause gives = (gives, cause.2, only)
  step_get name NotFound cause gives = (cause.0, absent name cause.1, only)
  step_get name (Names names more) cause gives = absurd cause
  step_get name (Refused Memory) cause gives = (tt, λ named. there name _ cause.1.1.known, only)
  step_get name (Refused (NameBad n)) cause gives = (tt, λ named. absurd (cause.0 named), only)
  step_get name (Refused (TooLarge n)) cause gives = (tt, λ named. there name _ cause.1, only)
  step_get name (Refused (Full need room)) cause gives = absurd cause
  step_get name (Refused (TooFewFragments of_set missing)) cause gives = (tt, λ named. there name _ cause.1.1.known, only)
  step_get name (Refused Spent) cause gives = absurd cause
  step_get name (Refused (Damaged upload part)) cause gives = (tt, λ named. there name _ cause.1, only)

  above : (after : List ℕ) → names_above c.known after ≡ names_of_map old.objects after
  above after = ap (λ k. names_above k after) known ∙ above-mapped extent_of old.objects after

  step_list : (after : List ℕ) (limit : ℕ) (reply : Reply) → ListCause c after limit reply → Step old (ListNames after limit) reply new
  step_list after limit Done cause = absurd cause
  step_list after limit (Object bytes) cause = absurd cause
  step_list after limit NotFound cause = absurd cause
  step_list after limit (Names names more) cause =
      let lists : ListsNames old.objects after limit names more = record {
        first = cause.1.first ∙ ap (take (most_names limit)) (above after);
        others = subst (λ (l : List (List ℕ)). IsTrue more ↔ (most_names limit < length l)) (above after) cause.1.others;
      } in
      (lists, cause.0, only)
  step_list after limit (Refused Memory) cause = (tt, only)
  step_list after limit (Refused (NameBad n)) cause = (tt, only)
  step_list after limit (Refused (TooLarge n)) cause = absurd cause
  step_list after limit (Refused (Full need room)) cause = absurd cause
  step_list after limit (Refused (TooFewFragments of_set missing)) cause = absurd cause
  step_list after limit (Refused Spent) cause = absurd cause
  step_list after limit (Refused (Damaged upload part)) cause = absurd cause

  pub step_kept : (op : Op) (reply : Reply) → Cause c op reply → IsUndone reply → Gives old.objects op reply → Step old op reply new
  step_kept (Put name object) reply cause undone gives = step_put name object reply cause undone
  step_kept (Get name) reply cause undone gives = step_get name reply cause gives
  step_kept (Delete name) reply cause undone gives = step_delete name reply cause undone
  step_kept (ListNames after limit) reply cause undone gives = step_list after limit reply cause

-- ---- refusals of a step that is to append

pub delete_refused : (c : Case) (name : List ℕ) (why : Refusal) → IsName name → IsSome (finmap.get c.known name) → AppendCause c note_load (Refused why) → DeleteCause c name (Refused why)
delete_refused c name Memory named there cause = (named, there, cause)
delete_refused c name (NameBad n) named there cause = absurd cause
delete_refused c name (TooLarge n) named there cause = absurd cause
delete_refused c name (Full need room) named there cause = (named, there, cause)
delete_refused c name (TooFewFragments of_set missing) named there cause = (named, there, cause)
delete_refused c name Spent named there cause = (named, there, cause)
delete_refused c name (Damaged upload part) named there cause = absurd cause

pub put_refused : (c : Case) (name : List ℕ) (bytes : ℕ) (why : Refusal) → IsName name → bytes ≤ c.geometry.shard → AppendCause c (put_load bytes) (Refused why) → PutCause c name bytes (Refused why)
put_refused c name bytes Memory named small cause = (named, small, cause)
put_refused c name bytes (NameBad n) named small cause = absurd cause
put_refused c name bytes (TooLarge n) named small cause = absurd cause
put_refused c name bytes (Full need room) named small cause = (named, small, cause)
put_refused c name bytes (TooFewFragments of_set missing) named small cause = (named, small, cause)
put_refused c name bytes Spent named small cause = (named, small, cause)
put_refused c name bytes (Damaged upload part) named small cause = absurd cause
