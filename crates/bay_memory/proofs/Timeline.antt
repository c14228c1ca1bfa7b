-- What crashes may have left, after a call: until then each zone held what it held.
use Rattle.std.proofs.Common.{◌≡◌, ◌⊎◌, ℕ, ◌+◌, ◌<◌, ◌≤◌, List, Result, Ok, Err, refl, sym, subst, ◌∙◌, ap, arith, inl, inr}
use Rattle.std.specs.Prelude.{MatchResult, OnOk}
use Rattle.std.proofs.lemmas.Bool.{cases_lt}
use Rattle.zone_bay.specs.Outside.{counted, last}
use Rattle.zone_bay.specs.Contents.{Contents, Lengths}
use Rattle.zone_bay.specs.Images.{IsFirmPrefix, IsImage, Instant, Between, During}
use Rattle.zone_bay.specs.Bay.{Elapses, LeftInCall, LeftByCall}
use Rattle.bay_memory.specs.Past.{State, now, held_at}
use Rattle.bay_memory.specs.Array.{track_at}
use Rattle.bay_memory.specs.MemoryBay.{bay_views, firm_of, contents_of, left_of, bay_moment, state_of}
use Rattle.bay_memory.specs.Sound.{held_steady}
use Rattle.bay_memory.specs.declared.memory_bay.MemoryBay.{MemoryBay}

-- an image of equal bytes, with equal firm lengths
prefix_by : (held held' : List ℕ) (firm firm' : ℕ) (left : List ℕ) → held ≡ held' → firm ≡ firm' → IsFirmPrefix held firm left → IsFirmPrefix held' firm' left
prefix_by held held' firm firm' left h f is = subst (λ (l : List ℕ). IsFirmPrefix l firm' left) h (subst (λ (n : ℕ). IsFirmPrefix held n left) f is)

image_by : (held held' : Contents) (firm firm' : Lengths) (image : Contents) → ((d z : ℕ) → held d z ≡ held' d z) → ((d z : ℕ) → firm d z ≡ firm' d z) → IsImage held firm image → IsImage held' firm' image
image_by held held' firm firm' image h f is d z = prefix_by (held d z) (held' d z) (firm d z) (firm' d z) (image d z) (h d z) (f d z) (is d z)

-- an image of the states that each zone has there, and of equal ones
states_by : (from to from' to' : ℕ → ℕ → State) (image : Contents) → ((d z : ℕ) → from d z ≡ to d z) → ((d z : ℕ) → from' d z ≡ to' d z) → IsImage (λ d z. (from d z).bytes) (λ d z. (from' d z).firm) image → IsImage (λ d z. (to d z).bytes) (λ d z. (to' d z).firm) image
states_by from to from' to' image same same' = image_by _ _ _ _ image (λ d z. ap (λ (s : State). s.bytes) (same d z)) (λ d z. ap (λ (s : State). s.firm) (same' d z))

module _ (old new : MemoryBay) (until : (d z m : ℕ) → m ≤ bay_moment old → held_at (track_at (bay_views new) d z) m ≡ held_at (track_at (bay_views old) d z) m) (later : bay_moment new ≡ counted (bay_moment old)) (no_earlier : bay_moment old ≤ bay_moment new) where
  -- what each zone held at a moment, before the call and after it, and what it holds now
  abbrev then_old : ℕ → ℕ → ℕ → State
  then_old m d z = held_at (track_at (bay_views old) d z) m

  abbrev then_new : ℕ → ℕ → ℕ → State
  then_new m d z = held_at (track_at (bay_views new) d z) m

  abbrev now_old : ℕ → ℕ → State
  now_old d z = now (track_at (bay_views old) d z)

  abbrev now_new : ℕ → ℕ → State
  now_new d z = now (track_at (bay_views new) d z)

  before : (m d z : ℕ) → m ≡ bay_moment old → then_new m d z ≡ now_old d z
  before m d z is = until d z m (omega arith) ∙ held_steady old.moment m (track_at (bay_views old) d z) (old.steady d z) (omega arith)

  after : (m d z : ℕ) → bay_moment new ≤ m → then_new m d z ≡ now_new d z
  after m d z since = held_steady new.moment m (track_at (bay_views new) d z) (new.steady d z) since

  keeps : (i : Instant) (image : Contents) → left_of old i image → left_of new i image
  keeps (Between m) image left = (omega (arith, left.0), states_by (then_old m) (then_new m) (then_old m) (then_new m) image (λ d z. sym (until d z m left.0)) (λ d z. sym (until d z m left.0)) left.1)
  keeps (During m) image left = (
    omega (arith, left.0),
    elim (left.1) [
      | inl was ↦ inl (states_by (then_old m) (then_new m) (then_old m) (then_new m) image (λ d z. sym (until d z m (omega (arith, left.0)))) (λ d z. sym (until d z m (omega (arith, left.0)))) was)
      | inr done ↦ inr (states_by (then_old (m + 1)) (then_new (m + 1)) (then_old m) (then_new m) image (λ d z. sym (until d z (m + 1) (omega (arith, left.0)))) (λ d z. sym (until d z m (omega (arith, left.0)))) done)
    ],
  )

  -- what a crash in the call may leave
  abbrev InCall : Contents → Type 0
  InCall image = IsImage (contents_of old) (firm_of old) image ⊎ IsImage (contents_of new) (firm_of old) image

  in_call : bay_moment old < last → (image : Contents) → InCall image → left_of new (During (bay_moment old)) image
  in_call early image left = (
    omega arith,
    elim left [
      | inl was ↦ inl (states_by now_old (then_new (bay_moment old)) now_old (then_new (bay_moment old)) image (λ d z. sym (before (bay_moment old) d z refl)) (λ d z. sym (before (bay_moment old) d z refl)) was)
      | inr done ↦ inr (states_by now_new (then_new (bay_moment old + 1)) now_old (then_new (bay_moment old)) image (λ d z. sym (after (bay_moment old + 1) d z (omega arith))) (λ d z. sym (before (bay_moment old) d z refl)) done)
    ],
  )

  -- what the call added to what crashes may have left
  abbrev Added : Instant → Contents → Type 0
  Added (Between m) image = (m ≡ bay_moment new) × IsImage (contents_of new) (firm_of new) image
  Added (During m) image = (m ≡ bay_moment old) × InCall image

  only : (i : Instant) (image : Contents) → left_of new i image → left_of old i image ⊎ Added i image
  only (Between m) image left = elim (cases_lt (bay_moment old) m) [
    | inl since ↦ inr (omega (arith, left.0), states_by (then_new m) now_new (then_new m) now_new image (λ d z. after m d z (omega (arith, left.0))) (λ d z. after m d z (omega (arith, left.0))) left.1)
    | inr so_far ↦ inl (so_far, states_by (then_new m) (then_old m) (then_new m) (then_old m) image (λ d z. until d z m so_far) (λ d z. until d z m so_far) left.1)
  ]
  only (During m) image left = elim (cases_lt m (bay_moment old)) [
    | inl so_far ↦ inl (
      so_far,
      elim (left.1) [
        | inl was ↦ inl (states_by (then_new m) (then_old m) (then_new m) (then_old m) image (λ d z. until d z m (omega arith)) (λ d z. until d z m (omega arith)) was)
        | inr done ↦ inr (states_by (then_new (m + 1)) (then_old (m + 1)) (then_new m) (then_old m) image (λ d z. until d z (m + 1) (omega arith)) (λ d z. until d z m (omega arith)) done)
      ],
    )
    | inr since ↦ inr (
      omega (arith, left.0),
      elim (left.1) [
        | inl was ↦ inl (states_by (then_new m) now_old (then_new m) now_old image (λ d z. before m d z (omega (arith, left.0))) (λ d z. before m d z (omega (arith, left.0))) was)
        | inr done ↦ inr (states_by (then_new (m + 1)) now_new (then_new m) now_old image (λ d z. after (m + 1) d z (omega (arith, left.0))) (λ d z. before m d z (omega (arith, left.0))) done)
      ],
    )
  ]

  -- a call that is answered makes the change, and one that fails changes nothing
  abbrev Changed : {T E : Type 0} → (Contents → Contents) → Result T E → Type 0
  Changed change r = MatchResult r (λ _. (bay_moment old < last) × (contents_of new ≡ change (contents_of old))) (λ _. contents_of new ≡ contents_of old)

  in_call_of : {T E : Type 0} (change : Contents → Contents) (r : Result T E) → Changed change r → OnOk r ((image : Contents) → LeftInCall change (state_of old) image → left_of new (During (bay_moment old)) image)
  in_call_of change (Ok x) changed = λ image left. in_call changed.0 image (subst (λ (c : Contents). IsImage (contents_of old) (firm_of old) image ⊎ IsImage c (firm_of old) image) (sym changed.1) left)
  in_call_of change (Err e) same = tt

  -- what is held once it is made is what the change makes, or what was held
  made_in : {T E : Type 0} (change : Contents → Contents) (r : Result T E) → Changed change r → (image : Contents) → IsImage (contents_of new) (firm_of old) image → LeftInCall change (state_of old) image
  made_in change (Ok x) changed image made = inr (subst (λ (c : Contents). IsImage c (firm_of old) image) changed.1 made)
  made_in change (Err e) same image made = inl (subst (λ (c : Contents). IsImage c (firm_of old) image) same made)

  by_call : (change : Contents → Contents) → ((image : Contents) → IsImage (contents_of new) (firm_of old) image → LeftInCall change (state_of old) image) → (i : Instant) (image : Contents) → Added i image → LeftByCall change (state_of old) (state_of new) i image
  by_call change made (Between m) image added = added
  by_call change made (During m) image added = (added.0, elim (added.1) [ inl was ↦ inl was | inr done ↦ made image done ])

  pub elapses : {T E : Type 0} (change : Contents → Contents) (r : Result T E) → Changed change r → Elapses change (state_of old) (state_of new) r
  elapses change r changed = record {
    keeps = keeps;
    in_call = in_call_of change r changed;
    only = λ i image left. elim (only i image left) [
      | inl was ↦ inl was
      | inr added ↦ inr (by_call change (made_in change r changed) i image added)
    ];
  }
