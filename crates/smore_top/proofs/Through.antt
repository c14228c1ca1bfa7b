-- What holds of a whole run, by its steps.
use Rattle.std.proofs.Common.{Option, Some, None, IfSome, ◌≡◌, ℕ, zero, suc, ◌≤◌, List, [], ◌∷◌, ◌++◌, length, map, arith, sym, subst, ◌∙◌, append_assoc, false}
use Rattle.std.specs.List.Sorted.{IsNonDecreasing}
use Rattle.std.proofs.lemmas.List.Sorted.{IsNonDecreasingBy-short, IsNonDecreasingBy-take, IsNonDecreasingBy-drop}
use Rattle.smore_base.specs.declared.geometry.Geometry.{Geometry}
use Rattle.smore_base.specs.Told.{Told}
use Rattle.zone_bay.specs.declared.bay.Bay as bay
use Rattle.zone_bay.specs.Bay.{BayState, IsSound}
use Rattle.object_machine.specs.declared.machine.Entry.{Entry}
use Rattle.store_core.specs.declared.store.Core.{Core}
use Rattle.store_core.specs.Core.{bay_of, geometry_of, coding_of, is_lost_in, HoldsMap, Goes, Serves}
use Rattle.smore_top.specs.declared.end.End.{End}
use Rattle.smore_top.specs.declared.end.End.TheVariants.{BadFrame}
use Rattle.smore_top.specs.Frames.{AreWholeFrames, ops_of}
use Rattle.smore_top.specs.Answering.{StandsBehind}
use Rattle.smore_top.specs.Headline.{Sides, Ends, Ran, around, Transcript, moment_in, Leads, told_ends, Runs, RunsBatch}
use Rattle.smore_top.proofs.FrameLaws.{whole_not_bad}
use Rattle.smore_top.proofs.Goes.{goes_then, through}
use Rattle.smore_top.proofs.Stopping.{may_stop_run}

-- ---- whole frames

not_bad : (geometry : Geometry) (ran : Ran) (entries : List Entry) (before after : Ends) → Transcript geometry ran entries before after → AreWholeFrames (coding_of geometry) before.left → ran.end ≡ BadFrame → ⊥
not_bad geometry ran entries before after t whole is =
    let behind = subst (λ (end : End). StandsBehind (coding_of geometry) end t.more after.left) is t.behind in
    whole_not_bad (coding_of geometry) (ops_of entries) whole.0 t.calls (t.more ++ after.left) whole.1 whole.2 t.spelled whole.4 behind.0 behind.1 whole.5
    (sym (t.taken ∙ append_assoc t.calls t.more after.left) ∙ whole.3)

-- ---- rising moments

-- a number in front that the first one isn't below
in_front : (x y : ℕ) (ys : List ℕ) → x ≤ y → IsNonDecreasing (y ∷ ys) → IsNonDecreasing (x ∷ y ∷ ys)
in_front x y ys le rest zero zero d ij inside = omega arith
in_front x y ys le rest zero (suc j) d ij inside = omega (arith, le, rest 0 j d (omega arith) (omega (arith, inside)))
in_front x y ys le rest (suc i) zero d ij inside = omega (arith, ij)
in_front x y ys le rest (suc i) (suc j) d ij inside = rest i j d (omega (arith, ij)) (omega (arith, inside))

module _ {B : Type 0} {g : bay.Ghosts B} (state : B → BayState) where
  rising : (core : Core B g) (entries : List Entry) (cores : List (Core B g)) → Leads state core entries cores → IsNonDecreasing (moment_in state core ∷ map (moment_in state) cores)
  rising core [] [] leads = IsNonDecreasingBy-short (λ m. m) (moment_in state core ∷ []) (omega arith)
  rising core [] (next ∷ cores) leads = absurd leads
  rising core (entry ∷ entries) [] leads = absurd leads
  rising core (entry ∷ entries) (next ∷ cores) leads = in_front (moment_in state core) (moment_in state next) (map (moment_in state) cores) leads.0.goes.goes_on.later (rising next entries cores leads.1)

  -- marks never fall
  pub marks_rise : (ran : Ran) (before after : Sides (Core B g)) → Runs state ran before after → IsNonDecreasing ran.marks
  marks_rise ran before after run =
      let moments = map (moment_in state) run.cores in
      subst IsNonDecreasing (sym run.marks) (IsNonDecreasingBy-take (λ m. m) (length ran.marks) moments (IsNonDecreasingBy-drop (λ m. m) 1 (moment_in state before.works_on ∷ moments) (rising before.works_on run.entries run.cores run.leads)))

told_first : (before after : Option Ends) (P : Ends → Ends → Type 0) (Q : Ends → Type 0) → Told before after P → ((b a : Ends) → P b a → Q b) → IfSome before Q
told_first None after P Q told each = tt
told_first (Some b) None P Q told each = absurd told
told_first (Some b) (Some a) P Q told each = each b a told

-- A run over the core that an opening gave, which then gives the bay back.
pub opened_run : {B : Type 0} (g : bay.Ghosts B) (sound : (b : B) → IsSound (g.state b)) (ran : Ran) (before after : Sides B) (opened closed : Core B g) → Serves g.state before.works_on opened → Runs g.state ran (around opened before) (around closed after) → after.works_on ≡ bay_of closed → HoldsMap g.state closed → RunsBatch g ran before after
opened_run g sound ran before after opened closed serves run given_back holds =
    let steps = subst (λ (core : Core _ g). Goes (is_lost_in opened) (is_lost_in core) (g.state (bay_of opened)) (g.state (bay_of core))) (sym run.last) (through g.state opened run.entries run.cores run.leads) in
    record {
      opened = opened;
      closed = closed;
      opens = serves;
      runs = run;
      given_back = given_back;
      holds = holds;
      goes = subst (λ (end : _). Goes false (is_lost_in closed) (g.state before.works_on) (g.state end)) (sym given_back)
          (goes_then false false (is_lost_in closed) _ _ _ serves.goes (subst (λ lost. Goes lost (is_lost_in closed) (g.state (bay_of opened)) (g.state (bay_of closed))) serves.works steps));
      complete = told_first (told_ends g.state (around opened before)) (told_ends g.state (around closed after)) _ _ run.told (λ b a t whole is. not_bad (geometry_of opened) ran run.entries b a t whole is);
      stopped = λ enough keeps. may_stop_run g sound ran before after opened closed serves run given_back enough keeps;
    }
