-- Several calls, one after another.
use Rattle.std.proofs.Common.{◌≡◌, ℕ, ◌+◌, ◌≤◌, refl, sym, ◌∙◌, arith, inl, inr}
use Rattle.std.proofs.lemmas.Bool.{cases_lt}
use Rattle.smore_base.proofs.Told.{Told-same, Told-then}
use Rattle.zone_bay.specs.Contents.{Contents, Lengths}
use Rattle.zone_bay.specs.Images.{Instant, moment_of}
use Rattle.zone_bay.specs.Bay.{BayState, IsImageNow}
use Rattle.zone_bay.specs.Stretch.{GoesOn, OnlyReads, ReadsAtMost, FailsOver}

-- no call
pub goes_nowhere : (bay : BayState) (P : Instant → Contents → Type 0) (Q : ℕ → ℕ → Type 0) → GoesOn bay bay P Q
goes_nowhere bay P Q = record {
  same_shape = refl;
  later = omega arith;
  no_fewer = λ d. omega arith;
  told = Told-same bay.contents _ (λ held. tt);
  keeps_left = λ i image is. is;
  keeps_failed = λ d m is. is;
  left = λ i image is. inl is;
  failed = λ d m is. inl is;
  rose = λ d more. absurd (omega arith);
}

-- two stretches of calls
pub goes_join : (old mid new : BayState) (P : Instant → Contents → Type 0) (Q : ℕ → ℕ → Type 0) → GoesOn old mid P Q → GoesOn mid new P Q → GoesOn old new P Q
goes_join old mid new P Q first then = record {
  same_shape = then.same_shape ∙ first.same_shape;
  later = omega (arith, first.later, then.later);
  no_fewer = λ d. omega (arith, first.no_fewer d, then.no_fewer d);
  told = Told-then old.contents mid.contents new.contents _ _ _ first.told then.told (λ x y z p q. tt);
  keeps_left = λ i image is. then.keeps_left i image (first.keeps_left i image is);
  keeps_failed = λ d m is. then.keeps_failed d m (first.keeps_failed d m is);
  left = λ i image is. elim (then.left i image is) [
    | inl before ↦ first.left i image before
    | inr since ↦ inr (omega (arith, first.later, since.0), since.1)
  ];
  failed = λ d m is. elim (then.failed d m is) [
    | inl before ↦ first.failed d m before
    | inr since ↦ inr (omega (arith, first.later, since.0), since.1)
  ];
  rose = λ d more. elim (cases_lt (old.faults d) (mid.faults d)) [
    | inl earlier ↦ let it = first.rose d earlier in (it.0, it.1, omega (arith, it.2, then.later), then.keeps_failed d it.0 it.3, it.4)
    | inr not_more ↦ let it = then.rose d (omega arith) in (it.0, omega (arith, first.later, it.1), it.2, it.3, it.4)
  ];
}

-- what is said of images and failures since, said with less
pub goes_weaker : (old new : BayState) (P P' : Instant → Contents → Type 0) (Q Q' : ℕ → ℕ → Type 0) → ((i : Instant) (image : Contents) → old.moment ≤ moment_of i → P i image → P' i image) → ((d m : ℕ) → old.moment ≤ m → Q d m → Q' d m) → GoesOn old new P Q → GoesOn old new P' Q'
goes_weaker old new P P' Q Q' weaker_P weaker_Q goes = record {
  same_shape = goes.same_shape;
  later = goes.later;
  no_fewer = goes.no_fewer;
  told = goes.told;
  keeps_left = goes.keeps_left;
  keeps_failed = goes.keeps_failed;
  left = λ i image is. elim (goes.left i image is) [
    | inl before ↦ inl before
    | inr since ↦ inr (since.0, weaker_P i image since.0 since.1)
  ];
  failed = λ d m is. elim (goes.failed d m is) [
    | inl before ↦ inl before
    | inr since ↦ inr (since.0, weaker_Q d m since.0 since.1)
  ];
  rose = λ d more. let it = goes.rose d more in (it.0, it.1, it.2, it.3, weaker_Q d it.0 it.1 it.4);
}

-- A device for which Q doesn't hold didn't fail.
pub no_fault : (old new : BayState) (P : Instant → Contents → Type 0) (Q : ℕ → ℕ → Type 0) (d : ℕ) → GoesOn old new P Q → ((m : ℕ) → Q d m → ⊥) → new.faults d ≡ old.faults d
no_fault old new P Q d goes none = elim (cases_lt (old.faults d) (new.faults d)) [
  | inl more ↦ let it = goes.rose d more in absurd (none it.0 it.4)
  | inr not_more ↦ omega (arith, goes.no_fewer d)
]

-- calls that only read
pub reads_nothing : (bay : BayState) (Q : ℕ → ℕ → Type 0) → OnlyReads bay bay Q
reads_nothing bay Q = record { contents = refl; firm = refl; goes_on = goes_nowhere bay _ Q }

image_before : (old mid : BayState) (image : Contents) → mid.contents ≡ old.contents → mid.firm ≡ old.firm → IsImageNow mid image → IsImageNow old image
image_before old mid image contents firm is = rw (sym contents, sym firm) is

pub reads_join : (old mid new : BayState) (Q : ℕ → ℕ → Type 0) → OnlyReads old mid Q → OnlyReads mid new Q → OnlyReads old new Q
reads_join old mid new Q first then = record {
  contents = then.contents ∙ first.contents;
  firm = then.firm ∙ first.firm;
  goes_on = goes_join old mid new _ Q first.goes_on (goes_weaker mid new _ _ Q Q (λ i image since is. image_before old mid image first.contents first.firm is) (λ d m since q. q) then.goes_on);
}

pub reads_weaker : (old new : BayState) (Q Q' : ℕ → ℕ → Type 0) → ((d m : ℕ) → old.moment ≤ m → Q d m → Q' d m) → OnlyReads old new Q → OnlyReads old new Q'
reads_weaker old new Q Q' weaker reads = record {
  contents = reads.contents;
  firm = reads.firm;
  goes_on = goes_weaker old new _ _ Q Q' (λ i image since is. is) weaker reads.goes_on;
}

pub reads_sum : (a b : ℕ) (old mid new : BayState) → ReadsAtMost a old mid → ReadsAtMost b mid new → ReadsAtMost (a + b) old new
reads_sum a b old mid new first then = omega arith

-- what a failure left stays told
pub fails_over_stays : (device moment : ℕ) (held : Contents) (firm : Lengths) (old new : BayState) (P : Instant → Contents → Type 0) (Q : ℕ → ℕ → Type 0) → GoesOn old new P Q → FailsOver device moment held firm old → FailsOver device moment held firm new
fails_over_stays device moment held firm old new P Q goes fails = record {
  failed = goes.keeps_failed device moment fails.failed;
  left = λ image is. goes.keeps_left _ image (fails.left image is);
}
