-- In a run a deleted object stays absent.
use Rattle.std.proofs.Common.{◌≡◌, ℕ, List, [], ◌∷◌, ◌++◌, length, Option, Some, None, refl, sym, ap, subst}
use Rattle.std.specs.Prelude.{IsSome, option_map, unwrap_or}
use Rattle.std.specs.FinMap as finmap
use Rattle.smore_base.specs.Objects.{Map}
use Rattle.smore_base.specs.Told.{Told}
use Rattle.zone_bay.specs.declared.bay.Bay as bay
use Rattle.zone_bay.specs.Contents.{Contents}
use Rattle.zone_bay.specs.Bay.{BayState}
use Rattle.object_machine.specs.declared.op.Op.{Op}
use Rattle.object_machine.specs.declared.op.Op.TheVariants.{Delete}
use Rattle.object_machine.specs.declared.reply.Reply.{Reply}
use Rattle.object_machine.specs.declared.reply.Reply.TheVariants.{Done}
use Rattle.object_machine.specs.declared.machine.Entry.{Entry}
use Rattle.object_machine.specs.State.{State, Step}
use Rattle.object_machine.specs.Laws.{HasNoDonePut}
use Rattle.object_machine.proofs.StateLaws.{deleted_is_gone, stays_absent}
use Rattle.store_core.specs.declared.store.Core.{Core}
use Rattle.store_core.specs.Store.{Move}
use Rattle.store_core.specs.Core.{bay_of, geometry_of, store_over, objects_in, Steps}
use Rattle.smore_top.specs.Headline.{Leads, objects_after, DeletedStayAbsent}

abbrev pub IsAbsent : List ℕ → Map → Type 0
IsAbsent name objects = finmap.get objects name ≡ None

module _ {B : Type 0} {g : bay.Ghosts B} (state : B → BayState) where
  -- what a step does to the objects, where they are told
  record StepsTold (core : Core B g) (op : Op) (reply : Reply) (next : Core B g) : Type 0 where
    old : State
    new : State
    step : Step old op reply new
    before : old.objects ≡ objects_in state core
    after : new.objects ≡ objects_in state next
    told : IsSome (state (bay_of next)).contents

  step_told : (core : Core B g) (op : Op) (reply : Reply) (next : Core B g) → Steps state core op reply next → IsSome (state (bay_of core)).contents → StepsTold core op reply next
  step_told core op reply next steps told = by_told (state (bay_of core)).contents (state (bay_of next)).contents refl refl told steps.told
    where
      objects_told : (own : Core B g) (held : Contents) → (state (bay_of own)).contents ≡ Some held → (store_over own (state (bay_of own)) held).state.objects ≡ objects_in state own
      objects_told own held e = ap (λ (o : Option Contents). (store_over own (state (bay_of own)) (unwrap_or o (λ _ _. []))).state.objects) (sym e)

      by_told : (c c' : Option Contents) → (state (bay_of core)).contents ≡ c → (state (bay_of next)).contents ≡ c' → IsSome c
          → Told (option_map (store_over core (state (bay_of core))) c) (option_map (store_over next (state (bay_of next))) c') (λ s t. Move (geometry_of core) s op reply t)
          → StepsTold core op reply next
      by_told None c' e e' told move = absurd cc
      by_told (Some held) None e e' told move = absurd move
      by_told (Some held) (Some at) e e' told move = record {
        old = (store_over core (state (bay_of core)) held).state;
        new = (store_over next (state (bay_of next)) at).state;
        step = move.step;
        before = objects_told core held e;
        after = objects_told next at e';
        told = subst (λ (o : Option Contents). IsSome o) (sym e') refl;
      }

  absent_on : (name : List ℕ) (core : Core B g) (more rest : List Entry) (cores : List (Core B g)) → Leads state core (more ++ rest) cores → IsSome (state (bay_of core)).contents → IsAbsent name (objects_in state core) → HasNoDonePut name more
      → IsAbsent name (objects_after state core cores (length more))
  absent_on name core [] rest cores leads told absent none = absent
  absent_on name core (entry ∷ more) rest [] leads told absent none = absurd leads
  absent_on name core (entry ∷ more) rest (next ∷ cores) leads told absent none =
      let it = step_told core entry.op entry.reply next leads.0 told in
      let gone = stays_absent it.old it.new entry.op entry.reply name (subst (IsAbsent name) (sym it.before) absent) none.0 it.step in
      absent_on name next more rest cores leads.1 it.told (subst (IsAbsent name) it.after gone) none.1

  deleted_from : (name : List ℕ) (core : Core B g) (first more rest : List Entry) (deleted : Entry) (cores : List (Core B g)) → Leads state core ((first ++ deleted ∷ more) ++ rest) cores → IsSome (state (bay_of core)).contents
      → deleted.op ≡ Delete name → deleted.reply ≡ Done → HasNoDonePut name more → IsAbsent name (objects_after state core cores (length (first ++ deleted ∷ more)))
  deleted_from name core [] more rest deleted [] leads told op reply none = absurd leads
  deleted_from name core [] more rest deleted (next ∷ cores) leads told op reply none =
      let it = step_told core deleted.op deleted.reply next leads.0 told in
      let step : Step it.old (Delete name) Done it.new = subst (λ (r : Reply). Step it.old (Delete name) r it.new) reply (subst (λ (o : Op). Step it.old o deleted.reply it.new) op it.step) in
      absent_on name next more rest cores leads.1 it.told (subst (IsAbsent name) it.after (deleted_is_gone it.old it.new name step)) none
  deleted_from name core (entry ∷ first) more rest deleted [] leads told op reply none = absurd leads
  deleted_from name core (entry ∷ first) more rest deleted (next ∷ cores) leads told op reply none =
      deleted_from name next first more rest deleted cores leads.1 (step_told core entry.op entry.reply next leads.0 told).told op reply none

  pub deleted_stay_absent : (core : Core B g) (entries : List Entry) (cores : List (Core B g)) → Leads state core entries cores → IsSome (state (bay_of core)).contents → DeletedStayAbsent state core entries cores
  deleted_stay_absent core entries cores leads told name first more rest deleted is op reply none =
      deleted_from name core first more rest deleted cores (subst (λ (l : List Entry). Leads state core l cores) is leads) told op reply none
