-- A run that is stopped leaves the objects after a prefix of its calls.
use Rattle.std.proofs.Common.{◌≡◌, ◌⊎◌, inl, inr, ℕ, zero, suc, ◌+◌, ◌≤◌, ◌<◌, nat_le, min, Bool, true, false, cond, List, [], ◌∷◌, map, length, take, Option, Some, None, arith, refl, sym, ap, subst, ◌∙◌}
use Rattle.std.proofs.lemmas.Bool.{leb-true, le-leb, lt-leb, cases_lt}
use Rattle.std.proofs.lemmas.List.{length-map}
use Rattle.std.specs.Prelude.{IsSome, option_map, unwrap_or}
use Rattle.std.specs.Prelude.{slice_get, slice_index_or}
use Rattle.std.specs.List.Sorted.{IsNonDecreasing}
use mathlib.Core.Bool.{true≢false}
use Rattle.smore_base.specs.Objects.{Map}
use Rattle.smore_base.specs.Told.{Told}
use Rattle.zone_bay.specs.declared.bay.Bay as bay
use Rattle.zone_bay.specs.Contents.{Shape, Contents}
use Rattle.zone_bay.specs.Images.{Instant, Between, During, moment_of}
use Rattle.zone_bay.specs.Bay.{BayState, IsSound, IsImageNow}
use Rattle.zone_bay.specs.Stretch.{GoesOn}
use Rattle.zone_bay.proofs.Stretch.{goes_nowhere, goes_join}
use Rattle.object_machine.specs.declared.machine.Entry.{Entry}
use Rattle.store_core.specs.declared.store.Core.{Core}
use Rattle.store_core.specs.Stopped.{Array, RecoversTo, Keeps, MayStop}
use Rattle.store_core.specs.Core.{map_in, objects_held, array_in, bay_of, is_lost_in, store_over, objects_in, HasEnough, Serves}
use Rattle.smore_top.specs.declared.end.End.{End}
use Rattle.smore_top.specs.declared.end.End.TheVariants.{Done, NoMemory, BadWords, SourceFailed, SinkFailed, BadFrame, NotOpened, NotFormatted}
use Rattle.smore_top.specs.End.{ArePut}
use Rattle.smore_top.specs.Headline.{Sides, Ran, around, moment_in, Leads, last_of, Runs, acknowledged, AcknowledgeEach, objects_after, RecoversAfter, MayStopRun}
use Rattle.smore_top.proofs.Deleted.{deleted_stay_absent}
use Rattle.smore_top.proofs.Goes.{through}

-- what is said of images since, said otherwise by what is told of them
goes_otherwise : (old new : BayState) (P P' : Instant → Contents → Type 0) (Q : ℕ → ℕ → Type 0) → ((i : Instant) (image : Contents) → old.moment ≤ moment_of i → new.left i image → P i image → P' i image) → GoesOn old new P Q → GoesOn old new P' Q
goes_otherwise old new P P' Q other goes = record {
  same_shape = goes.same_shape;
  later = goes.later;
  no_fewer = goes.no_fewer;
  told = goes.told;
  keeps_left = goes.keeps_left;
  keeps_failed = goes.keeps_failed;
  left = λ i image is. elim (goes.left i image is) [
    | inl before ↦ inl before
    | inr since ↦ inr (since.0, other i image since.0 is since.1)
  ];
  failed = goes.failed;
  rose = goes.rose;
}

suc_is : (n : ℕ) → suc n ≡ 1 + n
suc_is n = omega arith

-- an instant that isn't earlier than now is between two calls
at_end : (bay : BayState) (i : Instant) (image : Contents) → IsSound bay → bay.left i image → bay.moment ≤ moment_of i → i ≡ Between bay.moment
at_end bay (Between m) image sound left since = ap Between (let same : m ≡ bay.moment = omega (arith, sound.none_later (Between m) image left, since) in same)
at_end bay (During m) image sound left since =
    let same : m ≡ bay.moment = omega (arith, sound.none_later (During m) image left, since) in
    absurd (sound.none_yet image (subst (λ (n : ℕ). bay.left (During n) image) same left))

-- how many marks have come by a moment, of the first ones
acknowledged_take : (n : ℕ) (marks : List ℕ) (m : ℕ) → acknowledged (take n marks) m ≡ min n (acknowledged marks m)
acknowledged_take zero marks m = omega arith
acknowledged_take (suc n) [] m = omega arith
acknowledged_take (suc n) (mark ∷ marks) m = at_one (nat_le mark m) (acknowledged_take n marks m)
  where
    at_one : (b : Bool) → acknowledged (take n marks) m ≡ min n (acknowledged marks m) → cond b (1 + acknowledged (take n marks) m) 0 ≡ min (suc n) (cond b (1 + acknowledged marks m) 0)
    at_one true rest = omega (arith, rest)
    at_one false rest = omega arith

acknowledged_most : (marks : List ℕ) (m : ℕ) → acknowledged marks m ≤ length marks
acknowledged_most [] m = omega arith
acknowledged_most (mark ∷ marks) m = at_one (nat_le mark m) (acknowledged_most marks m)
  where
    at_one : (b : Bool) → acknowledged marks m ≤ length marks → cond b (1 + acknowledged marks m) 0 ≤ suc (length marks)
    at_one true rest = omega (arith, rest)
    at_one false rest = omega arith

-- a mark of this number
mark_at : (marks : List ℕ) (call mark : ℕ) → slice_get marks call ≡ Some mark → (call < length marks) × (slice_index_or marks call 0 ≡ mark)
mark_at [] call mark e = absurd cc
mark_at (first ∷ marks) zero mark e = (omega arith, cc)
mark_at (first ∷ marks) (suc call) mark e = let rest = mark_at marks call mark e in (omega (arith, rest.0), rest.1)

-- of marks that rise, each acknowledges its call
pub acknowledge_each : (marks : List ℕ) → IsNonDecreasing marks → AcknowledgeEach marks
acknowledge_each [] rise call mark moment e come = absurd cc
acknowledge_each (first ∷ marks) rise zero mark moment e come =
    let is : first ≡ mark = cc in
    rw (le-leb first moment (omega (arith, is, come))) (let yes : 0 < 1 + acknowledged marks moment = omega arith in yes)
acknowledge_each (first ∷ marks) rise (suc call) mark moment e come =
    let at = mark_at marks call mark e in
    let below = rise 0 (suc call) 0 (omega arith) (omega (arith, at.0)) in
    let rest = acknowledge_each marks (λ i j d ij inside. rise (suc i) (suc j) d (omega (arith, ij)) (omega (arith, inside))) call mark moment e come in
    rw (le-leb first moment (omega (arith, below, at.1, come))) (let more : suc call < 1 + acknowledged marks moment = omega (arith, rest) in more)

module _ {B : Type 0} (g : bay.Ghosts B) (sound : (b : B) → IsSound (g.state b)) (array : Array) (shape : Shape) where
  abbrev pub bay_in : Core B g → BayState
  bay_in core = g.state (bay_of core)

  abbrev pub recovers : Map → Contents → Type 0
  recovers objects image = RecoversTo array shape objects image

  abbrev pub objects : Core B g → Map
  objects core = objects_in g.state core

  abbrev pub moments : List (Core B g) → List ℕ
  moments cores = map (moment_in g.state) cores

  -- The core comes behind a bay with these objects, and a stop between them leaves the objects of one of both.
  pub record Follows (old : BayState) (before : Map) (next : Core B g) : Type 0 where
    pub within : GoesOn old (bay_in next) (λ i image. recovers before image ⊎ recovers (objects next) image) (λ d m. Unit {0})
    pub now : (image : Contents) → IsImageNow (bay_in next) image → recovers (objects next) image

  abbrev pub Chain : Core B g → List (Core B g) → Type 0
  Chain core [] = Unit {0}
  Chain core (next ∷ cores) = Follows (bay_in core) (objects core) next × Chain next cores

  -- the objects of the core, once the calls that are acknowledged at its moment are answered
  settled : (core : Core B g) (cores : List (Core B g)) (image : Contents) → Chain core cores → (bay_in core).left (Between (bay_in core).moment) image → recovers (objects core) image
      → recovers (objects_after g.state core cores (acknowledged (moments cores) (bay_in core).moment)) image
  settled core [] image chain left is = is
  settled core (next ∷ cores) image chain left is =
      let m = (bay_in core).moment in
      let mark = (bay_in next).moment in
      let rest = acknowledged (moments cores) m in
      elim (nat_le mark m) as (λ b. nat_le mark m ≡ b → recovers (objects_after g.state core (next ∷ cores) (cond b (1 + rest) 0)) image) [
        | false ↦ λ later. is
        | true ↦ λ come.
            let same : m ≡ mark = omega (arith, leb-true mark m come, chain.0.within.later) in
            let now : (bay_in next).left (Between mark) image = subst (λ (n : ℕ). (bay_in next).left (Between n) image) same (chain.0.within.keeps_left (Between m) image left) in
            let done = settled next cores image chain.1 now (chain.0.now image ((sound (bay_of next)).only_now image now)) in
            subst (λ (n : ℕ). recovers (objects_after g.state core (next ∷ cores) n) image) (suc_is rest)
            (subst (λ (n : ℕ). recovers (objects_after g.state next cores (acknowledged (moments cores) n)) image) (sym same) done)
      ] refl

  -- none is acknowledged before the first core
  none_acknowledged : (core : Core B g) (cores : List (Core B g)) (m : ℕ) → Chain core cores → m < (bay_in core).moment → acknowledged (moments cores) m ≡ 0
  none_acknowledged core [] m chain early = refl
  none_acknowledged core (next ∷ cores) m chain early = ap (λ b. cond b (1 + acknowledged (moments cores) m) 0) (lt-leb (bay_in next).moment m (omega (arith, early, chain.0.within.later)))

  -- what a stop leaves before a core, and at its moment
  abbrev pub LeavesUpTo : Map → Core B g → List (Core B g) → Instant → Contents → Type 0
  LeavesUpTo before core cores i image =
      ((moment_of i < (bay_in core).moment) × (recovers before image ⊎ recovers (objects core) image))
      ⊎ (((bay_in core).moment ≤ moment_of i) × recovers (objects_after g.state core cores (acknowledged (moments cores) (moment_of i))) image)

  up_to : (old : BayState) (before : Map) (core : Core B g) (cores : List (Core B g)) → Follows old before core → Chain core cores → GoesOn old (bay_in core) (LeavesUpTo before core cores) (λ d m. Unit {0})
  up_to old before core cores follows chain = goes_otherwise old (bay_in core) _ _ _ (λ i image since left is. elim (cases_lt (moment_of i) (bay_in core).moment) [
    | inl early ↦ inl (early, is)
    | inr late ↦
        let own = sound (bay_of core) in
        let between = at_end (bay_in core) i image own left late in
        let now : (bay_in core).left (Between (bay_in core).moment) image = subst (λ (j : Instant). (bay_in core).left j image) between left in
        let done = settled core cores image chain now (follows.now image (own.only_now image now)) in
        inr (late, subst (λ (n : ℕ). recovers (objects_after g.state core cores (acknowledged (moments cores) n)) image) (sym (ap moment_of between)) done)
  ]) follows.within

  -- the objects after so many calls, or after one more
  abbrev pub Prefix : Core B g → List (Core B g) → ℕ → Contents → Type 0
  Prefix first cores calls image = recovers (objects_after g.state first cores calls) image ⊎ recovers (objects_after g.state first cores (suc calls)) image

  abbrev pub LeavesPrefix : Core B g → List (Core B g) → Instant → Contents → Type 0
  LeavesPrefix first cores i image = Prefix first cores (acknowledged (moments cores) (moment_of i)) image

  -- one call more, which is acknowledged
  one_acknowledged : (first next : Core B g) (cores : List (Core B g)) (m : ℕ) → (bay_in next).moment ≤ m → acknowledged (moments (next ∷ cores)) m ≡ suc (acknowledged (moments cores) m)
  one_acknowledged first next cores m late = ap (λ b. cond b (1 + acknowledged (moments cores) m) 0) (le-leb (bay_in next).moment m late) ∙ sym (suc_is _)

  first_up_to : (first next : Core B g) (cores : List (Core B g)) (i : Instant) (image : Contents) → LeavesUpTo (objects first) next cores i image → LeavesPrefix first (next ∷ cores) i image
  first_up_to first next cores i image (inl early) = subst (λ (n : ℕ). Prefix first (next ∷ cores) n image) (sym (ap (λ b. cond b (1 + acknowledged (moments cores) (moment_of i)) 0) (lt-leb (bay_in next).moment (moment_of i) early.0))) early.1
  first_up_to first next cores i image (inr late) = subst (λ (n : ℕ). Prefix first (next ∷ cores) n image) (sym (one_acknowledged first next cores (moment_of i) late.0)) (inl late.1)

  stopped : (first : Core B g) (cores : List (Core B g)) → Chain first cores → GoesOn (bay_in first) (bay_in (last_of g.state first cores)) (LeavesPrefix first cores) (λ d m. Unit {0})
  stopped first [] chain = goes_nowhere (bay_in first) _ _
  stopped first (next ∷ cores) chain =
      goes_join (bay_in first) (bay_in next) (bay_in (last_of g.state next cores)) _ _
      (goes_otherwise _ _ _ _ _ (λ i image since left is. first_up_to first next cores i image is) (up_to (bay_in first) (objects first) next cores chain.0 chain.1))
      (goes_otherwise _ _ _ _ _ (λ i image since left is. subst (λ (n : ℕ). Prefix first (next ∷ cores) n image) (sym (one_acknowledged first next cores (moment_of i) since)) is) (stopped next cores chain.1))

  -- the same from the bay on that the first core was opened on
  stopped_since : (old : BayState) (first : Core B g) (cores : List (Core B g)) → Follows old (objects first) first → Chain first cores → GoesOn old (bay_in (last_of g.state first cores)) (LeavesPrefix first cores) (λ d m. Unit {0})
  stopped_since old first cores follows chain =
      goes_join old (bay_in first) (bay_in (last_of g.state first cores)) _ _
      (goes_otherwise _ _ _ _ _ (λ i image since left is. at_first i image is) (up_to old (objects first) first cores follows chain))
      (stopped first cores chain)
    where
      at_first : (i : Instant) (image : Contents) → LeavesUpTo (objects first) first cores i image → LeavesPrefix first cores i image
      at_first i image (inl early) = inl (subst (λ (n : ℕ). recovers (objects_after g.state first cores n) image) (sym (none_acknowledged first cores (moment_of i) chain early.0)) (elim early.1 [ inl is ↦ is | inr is ↦ is ]))
      at_first i image (inr late) = inl late.1

  -- ---- by marks, of which the last may be missing

  past_end : (first : Core B g) (cores : List (Core B g)) (calls : ℕ) → length cores ≤ calls → objects_after g.state first cores (suc calls) ≡ objects_after g.state first cores calls
  past_end first [] zero all = refl
  past_end first [] (suc calls) all = refl
  past_end first (next ∷ cores) zero all = absurd (omega arith)
  past_end first (next ∷ cores) (suc calls) all = past_end next cores calls (omega (arith, all))

  by_marks : (first : Core B g) (cores : List (Core B g)) (n m : ℕ) (image : Contents) → length cores ≤ n + 1 → Prefix first cores (acknowledged (moments cores) m) image → Prefix first cores (acknowledged (take n (moments cores)) m) image
  by_marks first cores n m image most is =
      let all = acknowledged (moments cores) m in
      let marked = acknowledged_take n (moments cores) m in
      elim (cases_lt n all) [
        | inr within ↦ subst (λ (k : ℕ). Prefix first cores k image) (let e : all ≡ acknowledged (take n (moments cores)) m = omega (arith, marked, within) in e) is
        | inl above ↦
            let few : all ≤ length cores = omega (arith, acknowledged_most (moments cores) m, length-map cores (moment_in g.state)) in
            let last : all ≡ suc n = omega (arith, few, most, above) in
            let one : recovers (objects_after g.state first cores all) image = elim is [
              | inl is ↦ is
              | inr is ↦ subst (λ (o : Map). recovers o image) (past_end first cores all (omega (arith, last, most))) is
            ] in
            subst (λ (k : ℕ). Prefix first cores k image) (let e : n ≡ acknowledged (take n (moments cores)) m = omega (arith, marked, above) in e) (inr (subst (λ (k : ℕ). recovers (objects_after g.state first cores k) image) last one))
      ]

  -- ---- a run

  follows_by : (array' : Array) (old : BayState) (before : Map) (next : Core B g) → array' ≡ array → old.shape ≡ shape → MayStop array' before (objects next) old (bay_in next) → Follows old before next
  follows_by array' old before next same same_shape stops =
      let own : MayStop array before (objects next) old (bay_in next) = subst (λ (a : Array). MayStop a before (objects next) old (bay_in next)) same stops in
      record {
        within = goes_otherwise _ _ _ _ _ (λ i image since left is. subst (λ (s : Shape). RecoversTo array s before image ⊎ RecoversTo array s (objects next) image) same_shape is) own.within;
        now = λ image is. subst (λ (s : Shape). RecoversTo array s (objects next) image) (own.within.same_shape ∙ same_shape) (own.keeps.now image is);
      }

  -- each step of a run that has enough follows the one before
  chain_by : (core : Core B g) (entries : List Entry) (cores : List (Core B g)) → Leads g.state core entries cores → HasEnough (last_of g.state core cores) → array_in core ≡ array → (bay_in core).shape ≡ shape → Keeps array (objects core) (bay_in core)
      → Chain core cores × Keeps array (objects (last_of g.state core cores)) (bay_in (last_of g.state core cores))
  chain_by core [] [] leads enough own same keeps = (tt, keeps)
  chain_by core [] (next ∷ cores) leads enough own same keeps = absurd leads
  chain_by core (entry ∷ entries) [] leads enough own same keeps = absurd leads
  chain_by core (entry ∷ entries) (next ∷ cores) leads enough own same keeps =
      let step = leads.0 in
      let after = through g.state next entries cores leads.1 in
      let works : HasEnough next = still_works (is_lost_in next) (is_lost_in (last_of g.state next cores)) after.stays enough in
      let stops = step.stopped works (subst (λ (a : Array). Keeps a (objects core) (bay_in core)) (sym own) keeps) in
      let now : Keeps array (objects next) (bay_in next) = subst (λ (a : Array). Keeps a (objects next) (bay_in next)) own stops.keeps in
      let rest = chain_by next entries cores leads.1 enough (step.array ∙ own) (stops.within.same_shape ∙ same) now in
      ((follows_by (array_in core) (bay_in core) (objects core) next own same stops, rest.0), rest.1)
    where
      still_works : (now later : Bool) → (now ≡ true → later ≡ true) → later ≡ false → now ≡ false
      still_works true later stays works = absurd (true≢false (sym (stays refl) ∙ works))
      still_works false later stays works = refl

-- as many cores as entries
as_many : {B : Type 0} {g : bay.Ghosts B} (state : B → BayState) (core : Core B g) (entries : List Entry) (cores : List (Core B g)) → Leads state core entries cores → length cores ≡ length entries
as_many state core [] [] leads = refl
as_many state core [] (next ∷ cores) leads = absurd leads
as_many state core (entry ∷ entries) [] leads = absurd leads
as_many state core (entry ∷ entries) (next ∷ cores) leads = ap suc (as_many state next entries cores leads.1)

-- one mark is missing at most
marks_most : (end : End) (calls put : ℕ) → ArePut end calls put → calls ≤ put + 1
marks_most Done calls put are = omega (arith, are)
marks_most NoMemory calls put (inl all) = omega (arith, all)
marks_most NoMemory calls put (inr but_one) = omega (arith, but_one)
marks_most BadWords calls put are = omega (arith, are)
marks_most SourceFailed calls put are = omega (arith, are)
marks_most SinkFailed calls put are = omega (arith, are)
marks_most BadFrame calls put are = omega (arith, are)
marks_most NotOpened calls put are = omega (arith, are)
marks_most NotFormatted calls put are = omega (arith, are)

module _ {B : Type 0} (g : bay.Ghosts B) where
  -- an opened core has the objects of the bay that it was opened on
  pub opened_objects : (old : B) (opened : Core B g) → Serves g.state old opened → IsSome (g.state old).contents → objects_held (array_in opened) (g.state old) ≡ objects_in g.state opened
  opened_objects old opened serves told = by_told (g.state old).contents (g.state (bay_of opened)).contents refl refl told serves.map
    where
      by_told : (before now : Option Contents) → (g.state old).contents ≡ before → (g.state (bay_of opened)).contents ≡ now → IsSome before
          → Told before (option_map (store_over opened (g.state (bay_of opened))) now) (λ held s. s.state.objects ≡ map_in (array_in opened) (g.state old).shape held)
          → objects_held (array_in opened) (g.state old) ≡ objects_in g.state opened
      by_told None now e e' told map = absurd cc
      by_told (Some held) None e e' told map = absurd map
      by_told (Some held) (Some at) e e' told map =
          ap (λ (o : Option Contents). map_in (array_in opened) (g.state old).shape (unwrap_or o (λ _ _. []))) e
          ∙ sym map
          ∙ ap (λ (o : Option Contents). (store_over opened (g.state (bay_of opened)) (unwrap_or o (λ _ _. []))).state.objects) (sym e')

  -- Stopped at any drive call, a run from a bay that keeps its objects loses no acknowledged call.
  pub may_stop_run : (sound : (b : B) → IsSound (g.state b)) (ran : Ran) (before after : Sides B) (opened closed : Core B g) → Serves g.state before.works_on opened → (run : Runs g.state ran (around opened before) (around closed after)) → after.works_on ≡ bay_of closed
      → HasEnough closed → Keeps (array_in opened) (objects_held (array_in opened) (g.state before.works_on)) (g.state before.works_on)
      → MayStopRun g.state ran.marks opened run.entries run.cores (g.state before.works_on) (g.state after.works_on)
  may_stop_run sound ran before after opened closed serves run given_back enough keeps =
      let array = array_in opened in
      let old = g.state before.works_on in
      let shape = (g.state (bay_of opened)).shape in
      let last = last_of g.state opened run.cores in
      let n = length ran.marks in
      let opening = serves.stopped keeps in
      let same : objects_held array old ≡ objects_in g.state opened = opened_objects before.works_on opened serves keeps.told in
      let served : MayStop array (objects_in g.state opened) (objects_in g.state opened) old (g.state (bay_of opened)) = subst (λ (o : Map). MayStop array o o old (g.state (bay_of opened))) same opening in
      let chain = chain_by g sound array shape opened run.entries run.cores run.leads (subst HasEnough run.last enough) refl refl served.keeps in
      let first = follows_by g sound array shape array old (objects_in g.state opened) opened refl (sym served.within.same_shape) served in
      let most : length run.cores ≤ n + 1 = omega (arith, as_many g.state opened run.entries run.cores run.leads, run.counted, marks_most ran.end ran.calls n run.put) in
      let end : g.state (bay_of last) ≡ g.state after.works_on = sym (ap g.state given_back ∙ ap (λ (core : Core B g). g.state (bay_of core)) run.last) in
      record {
        opening = opening;
        stopped = subst (λ (bay : BayState). GoesOn old bay (λ i image. RecoversAfter g.state array opened run.cores (acknowledged ran.marks (moment_of i)) image) (λ d m. Unit {0})) end
            (goes_otherwise old (g.state (bay_of last)) _ _ _ (λ i image since left is.
            subst (λ (marks : List ℕ). Prefix g sound array shape opened run.cores (acknowledged marks (moment_of i)) image) (sym run.marks)
            (by_marks g sound array shape opened run.cores n (moment_of i) image most is)) (stopped_since g sound array shape old opened run.cores first chain.0));
        ended = subst (λ (bay : BayState). Keeps array (objects_in g.state last) bay) end chain.1;
        deleted = deleted_stay_absent g.state opened run.entries run.cores run.leads served.keeps.told;
      }
