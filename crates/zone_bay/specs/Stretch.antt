-- What any number of calls on any devices does to what a bay tells.
use Rattle.std.specs.Prelude.{◌≡◌, ◌⊎◌, ℕ, ◌+◌, ◌<◌, ◌≤◌, Option, option_map, IfSome, ⊤}
use Rattle.smore_base.specs.Told.{Told}
use Rattle.zone_bay.specs.Contents.{Contents, Lengths, appended, emptied, blanked, Extends}
use Rattle.zone_bay.specs.Images.{IsImage, ImageOf, Instant, Between, moment_of}
use Rattle.zone_bay.specs.Bay.{BayState, IsImageNow, Call, Append, Reset, Replace}

-- Calls led from old to new. Each image that new tells and old didn't came at an instant since old, and has P there. Each
-- failure that new tells and old didn't is of a device and a moment with Q. What old told, and so the images of what was
-- held at first, needn't have P.
pub record GoesOn (old new : BayState) (P : Instant → Contents → Type 0) (Q : ℕ → ℕ → Type 0) : Type 0 where
  pub same_shape : new.shape ≡ old.shape
  pub later : old.moment ≤ new.moment
  pub no_fewer : (d : ℕ) → old.faults d ≤ new.faults d
  -- contents that are told stay told
  pub told : Told old.contents new.contents (λ _ _. ⊤)
  -- so does what crashes may have left, and which calls failed
  pub keeps_left : (i : Instant) (image : Contents) → old.left i image → new.left i image
  pub keeps_failed : (d m : ℕ) → old.failed d m → new.failed d m
  pub left : (i : Instant) (image : Contents) → new.left i image → old.left i image ⊎ ((old.moment ≤ moment_of i) × P i image)
  pub failed : (d m : ℕ) → new.failed d m → old.failed d m ⊎ ((old.moment ≤ m) × Q d m)
  -- a device whose count rose has a failure since
  pub rose : (d : ℕ) → old.faults d < new.faults d → (m : ℕ) × (old.moment ≤ m) × (m ≤ new.moment) × new.failed d m × Q d m

-- All that is held and firm stayed, and crashes since may have left only images of it.
pub record OnlyReads (old new : BayState) (Q : ℕ → ℕ → Type 0) : Type 0 where
  pub contents : new.contents ≡ old.contents
  pub firm : new.firm ≡ old.firm
  pub goes_on : GoesOn old new (λ _ image. IsImageNow old image) Q

-- no more than so many reads of drives were made
abbrev pub ReadsAtMost : ℕ → BayState → BayState → Type 0
ReadsAtMost n old new = new.reads ≤ old.reads + n

-- A call on the device failed at the moment, when this was held and these lengths were firm: each image of that is told
-- of the instant just before the call.
pub record FailsOver (device moment : ℕ) (held : Contents) (firm : Lengths) (bay : BayState) : Type 0 where
  pub failed : bay.failed device moment
  pub left : (image : Contents) → IsImage held firm image → bay.left (Between moment) image

-- A call on the device failed since old, while what was held at first was held and as much of it was firm.
abbrev pub FailsReading : ℕ → BayState → BayState → Type 0
FailsReading device old bay = IfSome old.contents (λ held. (moment : ℕ) × (old.moment ≤ moment) × FailsOver device moment held old.firm bay)

-- What crashes in a call and after it may leave of contents with these firm lengths, whether it is answered or not: images
-- of what was held; of an append, with all its bytes at the end; of a reset, perhaps with the zone emptied; of a
-- replacement, perhaps with the device blank.
abbrev pub LeftAround : Call → Option Contents → Lengths → Contents → Type 0
LeftAround (Append device zone bytes) held firm image = ImageOf (option_map (appended device zone bytes) held) firm image
LeftAround (Reset device zone) held firm image = ImageOf held firm image ⊎ ImageOf (option_map (emptied device zone) held) firm image
LeftAround (Replace device) held firm image = ImageOf held firm image ⊎ ImageOf (option_map (blanked device) held) firm image
LeftAround call held firm image = ImageOf held firm image

-- What is held now is on the way from what was held to the goal: each extends the one before, and no less is firm.
pub record IsOnTheWay (from goal : Contents) (firm : Lengths) (held : Contents) (firm_now : Lengths) : Type 0 where
  pub began : Extends from held
  pub extends : Extends held goal
  pub no_less : (d z : ℕ) → firm d z ≤ firm_now d z

-- What is held now is on the way to what the goal makes of what was held.
abbrev pub IsToward : (Contents → Contents) → BayState → BayState → Type 0
IsToward goal old now = Told old.contents now.contents (λ held at. IsOnTheWay held (goal held) old.firm at now.firm)

-- Calls led toward the goal: whichever of them fail, a crash since leaves an image of what the goal makes of what was held,
-- with the firm lengths of then.
pub record GoesToward (goal : Contents → Contents) (old now : BayState) (Q : ℕ → ℕ → Type 0) : Type 0 where
  pub toward : IsToward goal old now
  pub goes_on : GoesOn old now (λ _ image. ImageOf (option_map goal old.contents) old.firm image) Q

-- A call on the device failed since old, when this was held on the way to the goal and these lengths were firm.
pub record FailsOnTheWay (device : ℕ) (from goal : Contents) (old bay : BayState) : Type 0 where
  pub moment : ℕ
  pub held : Contents
  pub firm : Lengths
  pub since : old.moment ≤ moment
  pub way : IsOnTheWay from goal old.firm held firm
  pub over : FailsOver device moment held firm bay

-- the same, to what the goal makes of what was held, where that is told
abbrev pub FailsToward : (Contents → Contents) → ℕ → BayState → BayState → Type 0
FailsToward goal device old bay = IfSome old.contents (λ from. FailsOnTheWay device from (goal from) old bay)

-- the call leads no further than the goal
abbrev pub StaysToward : Call → Contents → Contents → Type 0
StaysToward (Append device zone bytes) goal held = Extends (appended device zone bytes held) goal
StaysToward (Reset device zone) goal held = ⊥
StaysToward (Replace device) goal held = ⊥
StaysToward call goal held = ⊤
