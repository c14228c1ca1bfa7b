-- The beginning of a call, from the image that it took.
use Rattle.std.proofs.Common.{Bool, true, false, ◌≡◌, ◌⊎◌, ℕ, ◌≤◌, Option, None, Result, Ok, Err, refl, subst, ◌∙◌, ap, inl, inr}
use Rattle.std.specs.Prelude.{option_map}
use Rattle.std.specs.Result.{is_err, OnErr}
use Rattle.zone_bay.specs.Outside.{counted}
use Rattle.zone_bay.specs.Bay.{Call, Written, Read, Append, Reset, Flush, Replace, reads_after}
use Rattle.bay_memory.specs.Operation.{done_unless}
use Rattle.bay_memory.specs.Device.{lost_after}
use Rattle.bay_memory.specs.Array.{ArrayMakes, KeepsTracks, AllKeepFailures, lost_in, lost_then}
use Rattle.bay_memory.specs.Views.{views_of, shape_of}
use Rattle.bay_memory.specs.Image.{image_shape, image_bytes}
use Rattle.bay_memory.specs.MemoryBay.{bay_views, bay_shape, bay_moment, reads_of, contents_of, state_of, listed_calls, asked_of, stored_of, kept_of, IsAsked, KeepsImage, FindsNoMemory, TakesImage, Begins}
use Rattle.bay_memory.proofs.Results.{of_ok, is_ok_not}
use Rattle.bay_memory.specs.declared.image.Image.{Image}
use Rattle.bay_memory.specs.declared.array.Array.{Array}
use Rattle.bay_memory.specs.declared.memory_bay.MemoryBay.{MemoryBay}

-- an array as it was
tracks_same : (old new : Array) → new ≡ old → KeepsTracks (views_of old) (views_of new)
tracks_same old new same = rw same (record { count = refl; tracks = λ d. refl })

failures_same : (old new : Array) → new ≡ old → AllKeepFailures (views_of old) (views_of new)
failures_same old new same = rw same (λ d. record { faults = refl; failed = refl; unnoted = refl })

-- a failed call finds no device
lost_still : (call : Call) (d : ℕ) (lost : Bool) → lost ≡ lost_after call false d lost
lost_still (Written device zone) d lost = refl
lost_still (Read device zone) d lost = refl
lost_still (Append device zone bytes) d lost = refl
lost_still (Reset device zone) d lost = refl
lost_still (Flush device) d lost = refl
lost_still (Replace device) d lost = refl

lost_same : (call : Call) (old new : Array) → new ≡ old → lost_in (views_of new) ≡ lost_then call false (views_of old)
lost_same call old new same = rw same (λ i d. lost_still call d (lost_in (views_of old) d) i)

-- a call of which only the image was taken
module _ {T E : Type 0} (due : Bool) (call : Call) (old mid now : MemoryBay) (r : Result T E) (array : now.array ≡ old.array) (later : bay_moment now ≡ counted (bay_moment old)) (no_earlier : bay_moment old ≤ bay_moment now) (reads : reads_of now ≡ reads_after call (state_of old)) (listed : listed_calls now ≡ listed_calls old) (asked_is : asked_of now ≡ asked_of mid) (stored_is : stored_of now ≡ stored_of mid) (takes : TakesImage (done_unless due call) old mid r) (none : OnErr r (IsAsked old × (kept_of mid ≡ None))) where
  kept_is : kept_of now ≡ kept_of mid
  kept_is = ap (λ (o : Option Image). option_map (λ image. (image_shape image, image_bytes image)) o) stored_is

  failed_image : (s : Result T E) → r ≡ s → (due ≡ true) ⊎ (is_err r ≡ true) → IsAsked old → (kept_of now ≡ None) ⊎ KeepsImage (contents_of old) old now
  failed_image (Ok x) is why asked = elim why [
    | inl is_due ↦
        let done : KeepsImage (done_unless due call asked.0.bytes (contents_of old)) old mid = rw is at (takes.done asked.0 asked.1 asked.2) in
        inr (kept_is ∙ (rw is_due at done))
    | inr failed ↦ cc
  ]
  failed_image (Err e) is why asked = inl (kept_is ∙ (rw is at none).1)

  why_failed : (s : Result T E) → r ≡ s → (due ≡ true) ⊎ (is_err r ≡ true) → (due ≡ true) ⊎ FindsNoMemory call old now
  why_failed s is (inl is_due) = inl is_due
  why_failed (Ok x) is (inr failed) = cc
  why_failed (Err e) is (inr failed) = let it = rw is at none in inr (inr (it.0, kept_is ∙ it.1))

  pub begins_failed : {U D : Type 0} (e : D) → (due ≡ true) ⊎ (is_err r ≡ true) → Begins {T = U} due call old now (Err e)
  begins_failed e why = record {
    shape = ap shape_of array;
    later = later;
    no_earlier = no_earlier;
    reads = reads;
    listed = listed;
    ok = tt;
    err = (tracks_same old.array now.array array, why_failed r refl why);
    failures = failures_same old.array now.array array;
    lost = lost_same call old.array now.array array;
    image = record {
      not_asked = λ not. (asked_is ∙ (takes.not_asked not).0, stored_is ∙ (takes.not_asked not).1);
      no_longer = λ asked. asked_is ∙ takes.no_longer asked;
      done = λ asked is at_it. tt;
      failed = failed_image r refl why;
    };
  }

-- a call that was made
module _ {T E U D : Type 0} (due : Bool) (call : Call) (old mid now : MemoryBay) (r : Result T E) (s : Result U D) (took : is_err r ≡ false) (made : is_err s ≡ false) (not_due : due ≡ false) (takes : TakesImage (done_unless due call) old mid r) (array : mid.array ≡ old.array) (shape : bay_shape now ≡ bay_shape mid) (makes : ArrayMakes (bay_moment old) call (bay_views mid) (bay_views now) s) (asked_is : asked_of now ≡ asked_of mid) (stored_is : stored_of now ≡ stored_of mid) where
  makes_old : ArrayMakes (bay_moment old) call (bay_views old) (bay_views now) s
  makes_old = subst (λ (a : Array). ArrayMakes (bay_moment old) call (views_of a) (bay_views now) s) array makes

  pub begins_done : {V F : Type 0} (x : V) → bay_moment now ≡ counted (bay_moment old) → bay_moment old ≤ bay_moment now → reads_of now ≡ reads_after call (state_of old) → listed_calls now ≡ listed_calls old → Begins {E = F} due call old now (Ok x)
  begins_done x later no_earlier reads listed = record {
    shape = shape ∙ ap shape_of array;
    later = later;
    no_earlier = no_earlier;
    reads = reads;
    listed = listed;
    ok = (not_due, of_ok s made makes_old.ok);
    err = tt;
    failures = makes_old.failures;
    lost = makes_old.lost ∙ ap (λ (b : Bool). lost_then call b (bay_views old)) (is_ok_not s false made);
    image = record {
      not_asked = λ not. (asked_is ∙ (takes.not_asked not).0, stored_is ∙ (takes.not_asked not).1);
      no_longer = λ asked. asked_is ∙ takes.no_longer asked;
      done = λ asked is at_it. ap (λ (o : Option Image). option_map (λ image. (image_shape image, image_bytes image)) o) stored_is ∙ (rw not_due at (of_ok r took (takes.done asked is at_it)));
      failed = λ asked. tt;
    };
  }
