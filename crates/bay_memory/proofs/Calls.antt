-- What a call does, from what it did before its failure was counted.
use Rattle.std.proofs.Common.{IsTrue, ◌↔◌, Bool, true, false, ◌≡◌, ◌⊎◌, ℕ, ◌<◌, ◌≤◌, List, length, Option, Some, None, Result, Ok, Err, refl, sym, subst, ◌∙◌, ap, arith, inl, inr}
use Rattle.std.specs.Prelude.{option_map}
use Rattle.std.specs.Result.{is_ok, is_err, IsErr}
use Rattle.std.proofs.lemmas.Bool.{cases_eq, false≢true}
use Rattle.zone_bay.specs.Outside.{counted, last}
use Rattle.zone_bay.specs.Contents.{Shape, Contents}
use Rattle.zone_bay.specs.Images.{Instant, Between, During, moment_of}
use Rattle.zone_bay.specs.Bay.{BayState, Call, Written, Read, Append, Reset, Flush, Replace, device_of, made_by, firm_after, Elapses, Makes}
use Rattle.zone_bay.proofs.Images.{held_is_left, append_leaves_any_part}
use Rattle.bay_memory.specs.Past.{State, Track, IsSteady, now, held_at}
use Rattle.bay_memory.specs.Operation.{done_by}
use Rattle.bay_memory.specs.Device.{View, track_in, HasFailedAt, KeepsFailures}
use Rattle.bay_memory.specs.Array.{view_at, track_at, AllSteady, contents_in, firm_in, failed_in, lost_then, ArrayGoes, KeepsTracks, NotesFault}
use Rattle.bay_memory.specs.MemoryBay.{bay_views, bay_shape, bay_moment, reads_of, faults_of, contents_of, firm_of, left_of, state_of, asked_of, kept_of, IsAsked, IsDueFor, KeepsImage, KeepsRequests, Begins, MakesInMemory}
use Rattle.bay_memory.specs.Sound.{counts_image}
use Rattle.bay_memory.proofs.Made.{bytes_after, firm_made, none_made, still_all_firm}
use Rattle.bay_memory.proofs.Results.{of_ok, of_err, is_ok_not}
use Rattle.bay_memory.proofs.Timeline.{elapses}
use Rattle.bay_memory.specs.declared.asked.Asked.{Asked}
use Rattle.bay_memory.specs.Image.{image_shape, image_bytes}
use Rattle.bay_memory.specs.declared.image.Image.{Image}
use Rattle.bay_memory.specs.declared.memory_bay.MemoryBay.{MemoryBay}

-- what is told where no zone changes
contents_kept : (old new : List View) → KeepsTracks old new → contents_in new ≡ contents_in old
contents_kept old new keeps = λ i d z. ap (λ (tracks : List Track). (now (track_in tracks z)).bytes) (keeps.tracks d) i

firm_kept : (old new : List View) → KeepsTracks old new → firm_in new ≡ firm_in old
firm_kept old new keeps = λ i d z. ap (λ (tracks : List Track). (now (track_in tracks z)).firm) (keeps.tracks d) i

pub steady_kept : (moment : ℕ) (old new : List View) → KeepsTracks old new → AllSteady moment old → AllSteady moment new
steady_kept moment old new keeps steady d z = subst (λ (tracks : List Track). IsSteady moment (track_in tracks z)) (sym (keeps.tracks d)) (steady d z)

-- which calls have failed, where none does, and where one does
failed_kept : (old new : View) (m : ℕ) → KeepsFailures old new → HasFailedAt old m → HasFailedAt new m
failed_kept old new m keeps failed = rw (keeps.failed, keeps.unnoted) failed

failed_before : (old new : View) (m : ℕ) → KeepsFailures old new → HasFailedAt new m → HasFailedAt old m
failed_before old new m keeps failed = rw (sym keeps.failed, sym keeps.unnoted) failed

fault_keeps : (device moment : ℕ) (old new : List View) → NotesFault device moment old new → (d m : ℕ) → failed_in old d m → failed_in new d m
fault_keeps device moment old new fault d m failed = elim (cases_eq d device) [
  | inl same ↦ subst (λ (n : ℕ). failed_in new n m) (sym same) (fault.noted.keeps m (subst (λ (n : ℕ). failed_in old n m) same failed))
  | inr other ↦ failed_kept (view_at old d) (view_at new d) m (fault.others d other) failed
]

fault_only : (device moment : ℕ) (old new : List View) → NotesFault device moment old new → (d m : ℕ) → failed_in new d m → failed_in old d m ⊎ ((d ≡ device) × (moment ≤ m))
fault_only device moment old new fault d m failed = elim (cases_eq d device) [
  | inl same ↦ elim (fault.noted.only m (subst (λ (n : ℕ). failed_in new n m) same failed)) [
    | inl was ↦ inl (subst (λ (n : ℕ). failed_in old n m) (sym same) was)
    | inr since ↦ inr (same, since)
  ]
  | inr other ↦ inl (failed_before (view_at old d) (view_at new d) m (fault.others d other) failed)
]

-- the image that is kept is one
same_image : (old new : MemoryBay) (a b : Contents) → KeepsImage a old new → KeepsImage b old new → a ≡ b
same_image old new a b is_a is_b = ap (λ (p : Shape × Contents). p.1) (some_same (sym is_a ∙ is_b))
  where
    some_same : {x y : Shape × Contents} → ◌≡◌ {A = Option (Shape × Contents)} (Some x) (Some y) → x ≡ y
    some_same e = cc

not_none : {A : Type 0} (x : A) (o : Option A) → o ≡ Some x → o ≡ None → ⊥
not_none {A = A} x o some none = absurd (different (sym some ∙ none))
  where
    different : ◌≡◌ {A = Option A} (Some x) None → ⊥
    different e = cc

-- an image that a crash at the call's moment may have left
abbrev LeftThen : MemoryBay → MemoryBay → Contents → Type 0
LeftThen old new image = (i : Instant) × (moment_of i ≡ bay_moment old) × left_of new i image

held_allowed : (old new : MemoryBay) → ((i : Instant) (image : Contents) → left_of old i image → left_of new i image) → LeftThen old new (contents_of old)
held_allowed old new keeps = (Between (bay_moment old), refl, keeps (Between (bay_moment old)) (contents_of old) (counts_image old (contents_of old) (held_is_left (contents_of old) (firm_of old))))

done_allowed : {T E : Type 0} (call : Call) (n : ℕ) (x : T) (old new : MemoryBay) → Elapses {E = E} (made_by call) (state_of old) (state_of new) (Ok x) → LeftThen old new (done_by n call (contents_of old))
done_allowed (Written device zone) n x old new time = held_allowed old new time.keeps
done_allowed (Read device zone) n x old new time = held_allowed old new time.keeps
done_allowed (Append device zone bytes) n x old new time = (During (bay_moment old), refl, time.in_call _ (inr (append_leaves_any_part (contents_of old) (firm_of old) device zone bytes (contents_of old) n old.array.whole.firm_held (held_is_left (contents_of old) (firm_of old)))))
done_allowed (Reset device zone) n x old new time = held_allowed old new time.keeps
done_allowed (Flush device) n x old new time = held_allowed old new time.keeps
done_allowed (Replace device) n x old new time = held_allowed old new time.keeps

-- each call is due to fail at the last moment
pub due_last : (call : Call) (bay : MemoryBay) → bay_moment bay ≡ last → IsDueFor call bay
due_last (Written device zone) bay is = inl (inl is)
due_last (Read device zone) bay is = inl (inl is)
due_last (Append device zone bytes) bay is = inl (inl is)
due_last (Reset device zone) bay is = inl (inl is)
due_last (Flush device) bay is = inl (inl is)
due_last (Replace device) bay is = inl is

-- a call that is answered
module _ {T E : Type 0} (call : Call) (due : Bool) (old new : MemoryBay) (r : Result T E) (begins : Begins due call old new r) (answered : is_err r ≡ false) (due_is : IsTrue due ↔ IsDueFor call old) where
  goes : ArrayGoes (bay_moment old) call (bay_views old) (bay_views new)
  goes = (of_ok r answered begins.ok).1

  not_due : due ≡ false
  not_due = (of_ok r answered begins.ok).0

  early : bay_moment old < last
  early = elim (cases_eq (bay_moment old) last) [
    | inl same ↦ absurd (false≢true (sym not_due ∙ due_is.1 (due_last call old same)))
    | inr other ↦ omega (arith, begins.later, begins.no_earlier)
  ]

  contents_done : contents_of new ≡ made_by call (contents_of old)
  contents_done = λ i d z. (ap (λ (s : State). s.bytes) (goes.each d z).changed ∙ bytes_after call (contents_of old) d z (now (track_at (bay_views old) d z)) refl) i

  firm_done : firm_of new ≡ firm_after call true (contents_of new) (firm_of old)
  firm_done = λ i d z. (ap (λ (s : State). s.firm) (goes.each d z).changed ∙ firm_made call (contents_of new) (firm_of old) d z (now (track_at (bay_views old) d z)) refl (old.array.whole.firm_held d z) (ap (λ (s : State). s.bytes) (sym (goes.each d z).changed))) i

  time_done : {U D : Type 0} (x : U) → Elapses {E = D} (made_by call) (state_of old) (state_of new) (Ok x)
  time_done {U = U} {D = D} x = let r : Result U D = Ok x in elapses old new (λ d z m so_far. (goes.each d z).until m so_far) begins.later begins.no_earlier (made_by call) r (early, contents_done)

  pub makes_done : {U D : Type 0} (x : U) → Makes {E = D} call (state_of old) (state_of new) (Ok x)
  makes_done x = record {
    same_shape = begins.shape;
    later = begins.later;
    no_earlier = begins.no_earlier;
    in_time = λ last_one. absurd (omega (arith, early));
    unchanged = λ last_one. absurd (omega (arith, early));
    cause = record { keeps = omega (arith, (begins.failures (device_of call)).faults); ok = (begins.failures (device_of call)).faults; err = tt };
    others = λ d other. (begins.failures d).faults;
    done = ap Some contents_done;
    part = tt;
    firm = firm_done;
    reads = begins.reads;
    time = time_done x;
    failure = record {
      keeps = λ d m. failed_kept (view_at (bay_views old) d) (view_at (bay_views new) d) m (begins.failures d);
      told = tt;
      only = λ d m failed. inl (failed_before (view_at (bay_views old) d) (view_at (bay_views new) d) m (begins.failures d) failed);
    };
  }

  pub memory_done : {U D : Type 0} (x : U) → MakesInMemory {E = D} call old new (Ok x)
  memory_done {U = U} {D = D} x = record {
    exact = λ is. absurd (false≢true (sym not_due ∙ due_is.1 is));
    kept = tt;
    count = tt;
    listed = begins.listed;
    lost = begins.lost ∙ ap (λ (b : Bool). lost_then call b (bay_views old)) (is_ok_not r false answered);
    image = record {
      not_asked = begins.image.not_asked;
      no_longer = begins.image.no_longer;
      done = done;
      failed = λ asked. tt;
    };
    allowed = λ image asked kept. subst (λ (c : Contents). LeftThen old new c) (same_image old new _ image (done asked.0 asked.1 asked.2) kept) (done_allowed call asked.0.bytes x old new time);
  }
    where
      time : Elapses {E = D} (made_by call) (state_of old) (state_of new) (Ok x)
      time = time_done x

      done : (asked : Asked) → asked_of old ≡ Some asked → asked.call ≡ bay_moment old → KeepsImage (done_by asked.bytes call (contents_of old)) old new
      done asked is at_it = of_ok r answered (begins.image.done asked is at_it)

-- a call that fails
module _ {T E : Type 0} (call : Call) (due : Bool) (old mid new : MemoryBay) (r : Result T E) (begins : Begins due call old mid r) (failed : is_err r ≡ true) (due_is : IsTrue due ↔ IsDueFor call old) (fault : NotesFault (device_of call) (bay_moment old) (bay_views mid) (bay_views new)) (shape : bay_shape new ≡ bay_shape mid) (moment : bay_moment new ≡ bay_moment mid) (reads : reads_of new ≡ reads_of mid) (requests : KeepsRequests mid new) where
  kept : KeepsTracks (bay_views old) (bay_views new)
  kept =
      let first = (of_err r failed begins.err).0 in
      record { count = fault.tracks.count ∙ first.count; tracks = λ d. fault.tracks.tracks d ∙ first.tracks d }

  counted_once : faults_of new (device_of call) ≡ counted (faults_of old (device_of call))
  counted_once = fault.faults ∙ ap counted (begins.failures (device_of call)).faults

  later_now : bay_moment new ≡ counted (bay_moment old)
  later_now = moment ∙ begins.later

  no_earlier_now : bay_moment old ≤ bay_moment new
  no_earlier_now = omega (arith, moment, begins.no_earlier)

  time_failed : {U D : Type 0} (e : D) → Elapses {T = U} (made_by call) (state_of old) (state_of new) (Err e)
  time_failed {U = U} {D = D} e = let r : Result U D = Err e in elapses old new (λ d z m so_far. ap (λ (tracks : List Track). held_at (track_in tracks z) m) (kept.tracks d)) later_now no_earlier_now (made_by call) r (contents_kept (bay_views old) (bay_views new) kept)

  pub makes_failed : {U D : Type 0} (e : D) → Makes {T = U} call (state_of old) (state_of new) (Err e)
  makes_failed e = record {
    same_shape = shape ∙ begins.shape;
    later = later_now;
    no_earlier = no_earlier_now;
    in_time = λ last_one. refl;
    unchanged = λ last_one. (ap Some (contents_kept (bay_views old) (bay_views new) kept), firm_kept (bay_views old) (bay_views new) kept);
    cause = record { keeps = omega (arith, fault.no_fewer, (begins.failures (device_of call)).faults); ok = tt; err = λ below. omega (arith, counted_once) };
    others = λ d other. (fault.others d other).faults ∙ (begins.failures d).faults;
    done = tt;
    part = (0, ap Some (contents_kept (bay_views old) (bay_views new) kept ∙ sym (none_made call (contents_of old))));
    firm = firm_kept (bay_views old) (bay_views new) kept ∙ still_all_firm call (contents_of new) (firm_of old) (λ d z. omega (arith, old.array.whole.firm_held d z, ap (λ (tracks : List Track). length (now (track_in tracks z)).bytes) (kept.tracks d)));
    reads = reads ∙ begins.reads;
    time = time_failed e;
    failure = record {
      keeps = λ d m was. fault_keeps (device_of call) (bay_moment old) (bay_views mid) (bay_views new) fault d m (failed_kept (view_at (bay_views old) d) (view_at (bay_views mid) d) m (begins.failures d) was);
      told = fault.noted.told;
      only = λ d m told. elim (fault_only (device_of call) (bay_moment old) (bay_views mid) (bay_views new) fault d m told) [
        | inl was ↦ inl (failed_before (view_at (bay_views old) d) (view_at (bay_views mid) d) m (begins.failures d) was)
        | inr since ↦ inr (refl, since.0, since.1)
      ];
    };
  }

  same_kept : kept_of new ≡ kept_of mid
  same_kept = ap (λ (o : Option Image). option_map (λ image. (image_shape image, image_bytes image)) o) requests.kept

  pub memory_failed : {U D : Type 0} (e : D) → MakesInMemory {T = U} call old new (Err e)
  memory_failed {U = U} {D = D} e = record {
    exact = elim (of_err r failed begins.err).1 [
      | inl is_due ↦ inl (due_is.0 is_due)
      | inr (inl needs) ↦ inr (inl needs)
      | inr (inr none) ↦ inr (inr (none.0, same_kept ∙ none.1))
    ];
    kept = (contents_kept (bay_views old) (bay_views new) kept, firm_kept (bay_views old) (bay_views new) kept);
    count = counted_once;
    listed = requests.listed ∙ begins.listed;
    lost = fault.lost ∙ begins.lost ∙ ap (λ (b : Bool). lost_then call b (bay_views old)) (is_ok_not r true failed);
    image = record {
      not_asked = λ not. (requests.asked ∙ (begins.image.not_asked not).0, requests.kept ∙ (begins.image.not_asked not).1);
      no_longer = λ asked. requests.asked ∙ begins.image.no_longer asked;
      done = λ asked is at_it. tt;
      failed = given;
    };
    allowed = λ image asked is. elim (given asked) [
      | inl none ↦ absurd (not_none _ _ is none)
      | inr held ↦ subst (λ (c : Contents). LeftThen old new c) (same_image old new _ image held is) (held_allowed old new time.keeps)
    ];
  }
    where
      time : Elapses {T = U} (made_by call) (state_of old) (state_of new) (Err e)
      time = time_failed e

      given : IsAsked old → (kept_of new ≡ None) ⊎ KeepsImage (contents_of old) old new
      given asked = elim (of_err r failed (begins.image.failed asked)) [
        | inl none ↦ inl (same_kept ∙ none)
        | inr held ↦ inr (same_kept ∙ held)
      ]

-- the same failed call with another error
pub makes_as : {T U E D : Type 0} (call : Call) (old new : BayState) (e : E) (s : Result U D) → IsErr s → Makes {T = T} call old new (Err e) → Makes call old new s
makes_as call old new e (Ok x) is makes = cc
makes_as call old new e (Err e') is makes = record {
  same_shape = makes.same_shape;
  later = makes.later;
  no_earlier = makes.no_earlier;
  in_time = λ last_one. refl;
  unchanged = makes.unchanged;
  cause = record { keeps = makes.cause.keeps; ok = tt; err = makes.cause.err };
  others = makes.others;
  done = tt;
  part = makes.part;
  firm = makes.firm;
  reads = makes.reads;
  time = record { keeps = makes.time.keeps; in_call = tt; only = makes.time.only };
  failure = record {
    keeps = makes.failure.keeps;
    told = makes.failure.told;
    only = λ d m told. elim (makes.failure.only d m told) [ inl was ↦ inl was | inr this ↦ inr (refl, this.1, this.2) ];
  };
}

-- an answered call that makes nothing of what is held
pub held_same : {T E : Type 0} (call : Call) (old new : MemoryBay) (r : Result T E) → is_ok r ≡ true → ((held : Contents) → made_by call held ≡ held) → Makes call (state_of old) (state_of new) r → contents_of new ≡ contents_of old
held_same call old new (Ok x) answered same makes = some_same makes.done ∙ same (contents_of old)
  where
    some_same : {x y : Contents} → ◌≡◌ {A = Option Contents} (Some x) (Some y) → x ≡ y
    some_same e = cc
held_same call old new (Err e) answered same makes = cc
