-- Of a bay that tells counts alone, as one over files does.
use Rattle.std.specs.Prelude.{◌≡◌, ◌≢◌, ℕ, ◌≤◌, None, Result, IsErr, ⊤}
use Rattle.zone_bay.specs.Outside.{last, counted, HasCause}
use Rattle.zone_bay.specs.Contents.{Shape}
use Rattle.zone_bay.specs.Bay.{BayState, IsSound}

-- its shape and its counts
pub record Counts : Type 0 where
  pub shape : Shape
  pub faults : ℕ → ℕ
  pub moment : ℕ
  pub reads : ℕ

-- All that it tells: nothing of what is held, so nothing of crashes, and each device may have failed at any moment.
abbrev pub counts_alone : Counts → BayState
counts_alone counts = record {
  shape = counts.shape;
  contents = None;
  firm = λ _ _. 0;
  left = λ _ _. ⊥;
  faults = counts.faults;
  failed = λ _ _. ⊤;
  moment = counts.moment;
  reads = counts.reads;
}

pub counts_are_sound : (counts : Counts) → IsSound (counts_alone counts)
counts_are_sound counts = record {
  firm_held = tt;
  fits = tt;
  inside = tt;
  counts_now = λ image is. is;
  only_now = λ image is. is;
  none_yet = λ image is. is;
  none_later = λ i image is. absurd is;
}

-- what a call on the device does to the counts
pub record CountsCall {T E : Type 0} (device : ℕ) (old new : BayState) (result : Result T E) : Type 0 where
  pub same_shape : new.shape ≡ old.shape
  pub later : new.moment ≡ counted old.moment
  pub no_earlier : old.moment ≤ new.moment
  pub in_time : old.moment ≡ last → IsErr result
  pub cause : HasCause result (old.faults device) (new.faults device)
  pub others : (d : ℕ) → d ≢ device → new.faults d ≡ old.faults d
