-- One call, as a stretch of calls.
use Rattle.std.proofs.Common.{cond, ap, nat_lt, ◌+◌, ◌≡◌, ◌⊎◌, ℕ, zero, suc, ◌<◌, ◌≤◌, Bool, true, false, take, Option, Some, None, IfSome, Result, Ok, Err, refl, subst, sym, ◌∙◌, arith, inl, inr}
use Rattle.std.specs.Prelude.{option_map, unwrap_or, [], ⊤}
use Rattle.std.specs.Result.{is_err, IsErr}
use Rattle.std.proofs.lemmas.Bool.{cases_eq}
use Rattle.smore_base.specs.Told.{Told}
use Rattle.zone_bay.specs.Outside.{counted}
use Rattle.zone_bay.specs.Contents.{Contents, Lengths, appended, emptied, blanked}
use Rattle.zone_bay.specs.Images.{IsImage, ImageOf, Instant, Between, During, moment_of}
use Rattle.zone_bay.specs.Bay.{BayState, IsSound, IsImageNow, Call, Written, Read, Append, Reset, Flush, Replace, device_of, made_by, part_made_by, firm_after, held_in, LeftByCall, Makes}
use Rattle.zone_bay.specs.Laws.{NoMoreFirm}
use Rattle.zone_bay.specs.Stretch.{GoesOn, OnlyReads, ReadsAtMost, FailsOver, FailsReading, LeftAround}
use Rattle.zone_bay.proofs.Images.{append_leaves_old, part_leaves_less, flush_leaves_fewer, still_firm_leaves_same}
use Rattle.zone_bay.proofs.Stretch.{goes_weaker, goes_join}

-- what is left in the call
around_in : (call : Call) (held : Option Contents) (firm : Lengths) (image : Contents) → IfSome held (λ h. NoMoreFirm h firm) → ImageOf held firm image ⊎ ImageOf (option_map (made_by call) held) firm image → LeftAround call held firm image
around_in call None firm image within (inl is) = absurd is
around_in call None firm image within (inr is) = absurd is
around_in (Written device zone) (Some held) firm image within (inl is) = is
around_in (Written device zone) (Some held) firm image within (inr is) = is
around_in (Read device zone) (Some held) firm image within (inl is) = is
around_in (Read device zone) (Some held) firm image within (inr is) = is
around_in (Append device zone bytes) (Some held) firm image within (inl is) = append_leaves_old held firm device zone bytes image within is
around_in (Append device zone bytes) (Some held) firm image within (inr is) = is
around_in (Reset device zone) (Some held) firm image within left = left
around_in (Flush device) (Some held) firm image within (inl is) = is
around_in (Flush device) (Some held) firm image within (inr is) = is
around_in (Replace device) (Some held) firm image within left = left

-- what is left after it, where it was answered
around_done : (call : Call) (held : Option Contents) (firm after : Lengths) (image : Contents) → IfSome held (λ h. NoMoreFirm h firm) → after ≡ firm_after call true (unwrap_or (option_map (made_by call) held) (λ _ _. [])) firm → ImageOf (option_map (made_by call) held) after image → LeftAround call held firm image
around_done call None firm after image within is_firm is = absurd is
around_done (Written device zone) (Some held) firm after image within is_firm is = subst (λ (f : Lengths). IsImage held f image) is_firm is
around_done (Read device zone) (Some held) firm after image within is_firm is = subst (λ (f : Lengths). IsImage held f image) is_firm is
around_done (Append device zone bytes) (Some held) firm after image within is_firm is = subst (λ (f : Lengths). IsImage (appended device zone bytes held) f image) is_firm is
around_done (Reset device zone) (Some held) firm after image within is_firm is = inr (still_firm_leaves_same (emptied device zone held) firm image (subst (λ (f : Lengths). IsImage (emptied device zone held) f image) is_firm is))
around_done (Flush device) (Some held) firm after image within is_firm is = flush_leaves_fewer held firm device image within (subst (λ (f : Lengths). IsImage held f image) is_firm is)
around_done (Replace device) (Some held) firm after image within is_firm is = inr (still_firm_leaves_same (blanked device held) firm image (subst (λ (f : Lengths). IsImage (blanked device held) f image) is_firm is))

-- what is left after it, where it failed
around_part : (n : ℕ) (call : Call) (held : Option Contents) (firm after : Lengths) (image : Contents) → IfSome held (λ h. NoMoreFirm h firm) → after ≡ firm_after call false (unwrap_or (option_map (part_made_by n call) held) (λ _ _. [])) firm → ImageOf (option_map (part_made_by n call) held) after image → LeftAround call held firm image
around_part n call None firm after image within is_firm is = absurd is
around_part n (Written device zone) (Some held) firm after image within is_firm is = subst (λ (f : Lengths). IsImage held f image) is_firm is
around_part n (Read device zone) (Some held) firm after image within is_firm is = subst (λ (f : Lengths). IsImage held f image) is_firm is
around_part n (Append device zone bytes) (Some held) firm after image within is_firm is = part_leaves_less held firm device zone bytes n image within (subst (λ (f : Lengths). IsImage (appended device zone (take n bytes) held) f image) is_firm is)
around_part zero (Reset device zone) (Some held) firm after image within is_firm is = inl (still_firm_leaves_same held firm image (subst (λ (f : Lengths). IsImage held f image) is_firm is))
around_part (suc n) (Reset device zone) (Some held) firm after image within is_firm is = inr (still_firm_leaves_same (emptied device zone held) firm image (subst (λ (f : Lengths). IsImage (emptied device zone held) f image) is_firm is))
around_part n (Flush device) (Some held) firm after image within is_firm is = subst (λ (f : Lengths). IsImage held f image) is_firm is
around_part zero (Replace device) (Some held) firm after image within is_firm is = inl (still_firm_leaves_same held firm image (subst (λ (f : Lengths). IsImage held f image) is_firm is))
around_part (suc n) (Replace device) (Some held) firm after image within is_firm is = inr (still_firm_leaves_same (blanked device held) firm image (subst (λ (f : Lengths). IsImage (blanked device held) f image) is_firm is))

-- what is firm after an answered call, and after a failed one
pub firm_done : {T E : Type 0} (call : Call) (old new : BayState) (x : T) → Makes {E = E} call old new (Ok x) → new.firm ≡ firm_after call true (unwrap_or (option_map (made_by call) old.contents) (λ _ _. [])) old.firm
firm_done call old new x makes = subst (λ (c : Option Contents). new.firm ≡ firm_after call true (unwrap_or c (λ _ _. [])) old.firm) makes.done makes.firm

pub firm_failed : {T E : Type 0} (call : Call) (old new : BayState) (e : E) → (makes : Makes {T = T} call old new (Err e)) → new.firm ≡ firm_after call false (unwrap_or (option_map (part_made_by makes.part.0 call) old.contents) (λ _ _. [])) old.firm
firm_failed call old new e makes = subst (λ (c : Option Contents). new.firm ≡ firm_after call false (unwrap_or c (λ _ _. [])) old.firm) makes.part.1 makes.firm

module _ (call : Call) (old new : BayState) (sound : IsSound old) where
  around_now : {T E : Type 0} (r : Result T E) → Makes call old new r → (image : Contents) → IsImageNow new image → LeftAround call old.contents old.firm image
  around_now (Ok x) makes image is = around_done call old.contents old.firm new.firm image sound.firm_held
      (firm_done call old new x makes)
      (subst (λ (c : Option Contents). ImageOf c new.firm image) makes.done is)
  around_now (Err e) makes image is = around_part makes.part.0 call old.contents old.firm new.firm image sound.firm_held
      (firm_failed call old new e makes)
      (subst (λ (c : Option Contents). ImageOf c new.firm image) makes.part.1 is)

  around_call : {T E : Type 0} (r : Result T E) → Makes call old new r → (i : Instant) (image : Contents) → LeftByCall (made_by call) old new i image → (old.moment ≤ moment_of i) × LeftAround call old.contents old.firm image
  around_call r makes (Between m) image by = (omega (arith, makes.no_earlier, by.0), around_now r makes image by.1)
  around_call r makes (During m) image by = (omega (arith, by.0), around_in call old.contents old.firm image sound.firm_held by.1)

-- a fact of what is held and what is made of it
pub told_made : (change : Contents → Contents) (held after : Option Contents) (P : Contents → Contents → Type 0) → after ≡ option_map change held → ((h : Contents) → P h (change h)) → Told held after P
told_made change held after P is each = subst (λ (c : Option Contents). Told held c P) (sym is) (made held)
  where
    made : (held : Option Contents) → Told held (option_map change held) P
    made None = tt
    made (Some h) = each h

-- contents that are told stay told
told_by : {T E : Type 0} (call : Call) (old new : BayState) (r : Result T E) → Makes call old new r → Told old.contents new.contents (λ _ _. ⊤)
told_by call old new (Ok x) makes = told_made (made_by call) old.contents new.contents _ makes.done (λ h. tt)
told_by call old new (Err e) makes = told_made (part_made_by makes.part.0 call) old.contents new.contents _ makes.part.1 (λ h. tt)

-- only a call that failed raises a count, that of its device
rose_by : {T E : Type 0} (call : Call) (old new : BayState) (r : Result T E) → Makes call old new r → (d : ℕ) → old.faults d < new.faults d → (m : ℕ) × (old.moment ≤ m) × (m ≤ new.moment) × new.failed d m × (IsErr r × (d ≡ device_of call))
rose_by call old new r makes d more = elim (cases_eq d (device_of call)) [
  | inl same ↦ failed r makes same (subst (λ (n : ℕ). old.faults n < new.faults n) same more)
  | inr other ↦ absurd (let stays = makes.others d other in omega arith)
]
  where
    failed : {T E : Type 0} (r : Result T E) → Makes call old new r → d ≡ device_of call → old.faults (device_of call) < new.faults (device_of call) → (m : ℕ) × (old.moment ≤ m) × (m ≤ new.moment) × new.failed d m × (IsErr r × (d ≡ device_of call))
    failed (Ok x) makes same more = absurd (let stays = makes.cause.ok in omega arith)
    failed (Err e) makes same more = (old.moment, omega arith, makes.no_earlier, subst (λ (n : ℕ). new.failed n old.moment) (sym same) makes.failure.told, (refl, same))

pub call_goes : {T E : Type 0} (call : Call) (old new : BayState) (r : Result T E) → IsSound old → Makes call old new r → GoesOn old new (λ _ image. LeftAround call old.contents old.firm image) (λ d _. IsErr r × (d ≡ device_of call))
call_goes call old new r sound makes = record {
  same_shape = makes.same_shape;
  later = makes.no_earlier;
  no_fewer = λ d. elim (cases_eq d (device_of call)) [
    | inl same ↦ subst (λ (n : ℕ). old.faults n ≤ new.faults n) (sym same) makes.cause.keeps
    | inr other ↦ let stays = makes.others d other in omega arith
  ];
  told = told_by call old new r makes;
  keeps_left = makes.time.keeps;
  keeps_failed = makes.failure.keeps;
  left = λ i image is. elim (makes.time.only i image is) [
    | inl before ↦ inl before
    | inr by ↦ inr (around_call call old new sound r makes i image by)
  ];
  failed = λ d m is. elim (makes.failure.only d m is) [
    | inl before ↦ inl before
    | inr by ↦ inr (by.2, (by.0, by.1))
  ];
  rose = rose_by call old new r makes;
}

-- one call more
pub one_more : {T E : Type 0} (call : Call) (old mid new : BayState) (r : Result T E) (P : Instant → Contents → Type 0) (Q : ℕ → ℕ → Type 0) → IsSound mid → GoesOn old mid P Q → Makes call mid new r → ((i : Instant) (image : Contents) → mid.moment ≤ moment_of i → LeftAround call mid.contents mid.firm image → P i image) → ((m : ℕ) → mid.moment ≤ m → IsErr r → Q (device_of call) m) → GoesOn old new P Q
one_more call old mid new r P Q sound so_far makes left failed = goes_join old mid new P Q so_far (goes_weaker mid new _ P _ Q left (λ d m since it. subst (λ (n : ℕ). Q n m) (sym it.1) (failed m since it.0)) (call_goes call mid new r sound makes))

-- a failed call leaves each image of what was held just before it
pub fails_over : {T E : Type 0} (call : Call) (old new : BayState) (r : Result T E) (held : Contents) → IsSound old → IsErr r → old.contents ≡ Some held → Makes call old new r → FailsOver (device_of call) old.moment held old.firm new
fails_over call old new (Ok x) held sound failed is makes = cc
fails_over call old new (Err e) held sound failed is makes = record {
  failed = makes.failure.told;
  left = λ image is_image. makes.time.keeps _ image (sound.counts_now image (subst (λ (c : Option Contents). ImageOf c old.firm image) (sym is) is_image));
}

-- what an answered call makes of the contents
pub made_of : {T E : Type 0} (call : Call) (old new : BayState) (r : Result T E) → is_err r ≡ false → Makes call old new r → new.contents ≡ option_map (made_by call) old.contents
made_of call old new (Ok x) answered makes = makes.done
made_of call old new (Err e) answered makes = cc

-- calls that read
pub same_held : (held : Option Contents) → option_map (λ h. h) held ≡ held
same_held None = refl
same_held (Some held) = refl

pub written_reads : {T E : Type 0} (device zone : ℕ) (old new : BayState) (r : Result T E) → IsSound old → Makes (Written device zone) old new r → OnlyReads old new (λ d _. IsErr r × (d ≡ device))
written_reads device zone old new r sound makes = record { contents = same r makes; firm = makes.firm; goes_on = call_goes (Written device zone) old new r sound makes }
  where
    same : {T E : Type 0} (r : Result T E) → Makes (Written device zone) old new r → new.contents ≡ old.contents
    same (Ok x) makes = makes.done ∙ same_held old.contents
    same (Err e) makes = makes.part.1 ∙ same_held old.contents

pub read_reads : {T E : Type 0} (device zone : ℕ) (old new : BayState) (r : Result T E) → IsSound old → Makes (Read device zone) old new r → OnlyReads old new (λ d _. IsErr r × (d ≡ device))
read_reads device zone old new r sound makes = record { contents = same r makes; firm = makes.firm; goes_on = call_goes (Read device zone) old new r sound makes }
  where
    same : {T E : Type 0} (r : Result T E) → Makes (Read device zone) old new r → new.contents ≡ old.contents
    same (Ok x) makes = makes.done ∙ same_held old.contents
    same (Err e) makes = makes.part.1 ∙ same_held old.contents

-- how many reads of drives a call makes
counted_once : (b : Bool) (n : ℕ) → cond b (counted n) n ≤ n + 1
counted_once true n = omega arith
counted_once false n = omega arith

pub reads_once : {T E : Type 0} (device zone : ℕ) (old new : BayState) (r : Result T E) → Makes (Read device zone) old new r → ReadsAtMost 1 old new
reads_once device zone old new r makes = subst (λ (n : ℕ). n ≤ old.reads + 1) (sym makes.reads) (counted_once (nat_lt (device + 1) old.shape.devices) old.reads)

pub written_reads_none : {T E : Type 0} (device zone : ℕ) (old new : BayState) (r : Result T E) → Makes (Written device zone) old new r → ReadsAtMost 0 old new
written_reads_none device zone old new r makes = omega (arith, makes.reads)

-- a call that failed behind calls that only read
pub fails_reading : {T E : Type 0} (call : Call) (old mid new : BayState) (Q : ℕ → ℕ → Type 0) (r : Result T E) → IsSound mid → OnlyReads old mid Q → IsErr r → Makes call mid new r → FailsReading (device_of call) old new
fails_reading call old mid new Q r sound so_far failed makes = told_fails old.contents so_far.contents
  where
    told_fails : (held : Option Contents) → mid.contents ≡ held → IfSome held (λ h. (moment : ℕ) × (old.moment ≤ moment) × FailsOver (device_of call) moment h old.firm new)
    told_fails None is = tt
    told_fails (Some h) is = (mid.moment, so_far.goes_on.later, subst (λ (f : Lengths). FailsOver (device_of call) mid.moment h f new) so_far.firm (fails_over call mid new r h sound failed is makes))

-- what a reader left that failed behind calls that only read
pub fails_reading_then : (device : ℕ) (old mid new : BayState) (Q : ℕ → ℕ → Type 0) → OnlyReads old mid Q → FailsReading device mid new → FailsReading device old new
fails_reading_then device old mid new Q so_far fails = told_fails old.contents mid.contents so_far.contents fails
  where
    told_fails : (held then : Option Contents) → then ≡ held → IfSome then (λ h. (moment : ℕ) × (mid.moment ≤ moment) × FailsOver device moment h mid.firm new) → IfSome held (λ h. (moment : ℕ) × (old.moment ≤ moment) × FailsOver device moment h old.firm new)
    told_fails None then is fails = tt
    told_fails (Some h) then is fails = let it = subst (λ (o : Option Contents). IfSome o (λ h. (moment : ℕ) × (mid.moment ≤ moment) × FailsOver device moment h mid.firm new)) is fails in
        (it.0, omega (arith, so_far.goes_on.later, it.1), subst (λ (f : Lengths). FailsOver device it.0 h f new) so_far.firm it.2)

-- what two calls made, one behind the other
pub made_then : (f g : Contents → Contents) (held mid new : Option Contents) → mid ≡ option_map f held → new ≡ option_map g mid → new ≡ option_map (λ h. g (f h)) held
made_then f g held mid new first then = then ∙ ap (option_map g) first ∙ both held
  where
    both : (held : Option Contents) → option_map g (option_map f held) ≡ option_map (λ h. g (f h)) held
    both None = refl
    both (Some h) = refl

-- how much is firm after an answered call
pub firm_then : {T E : Type 0} (call : Call) (old new : BayState) (r : Result T E) → is_err r ≡ false → Makes call old new r → new.firm ≡ firm_after call true (held_in new) old.firm
firm_then call old new (Ok x) answered makes = makes.firm
firm_then call old new (Err e) answered makes = cc
