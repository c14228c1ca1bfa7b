-- What a bay tells, and what each of its calls does to that.
use Rattle.std.specs.Prelude.{◌≡◌, ◌≢◌, ◌⊎◌, ℕ, zero, suc, ◌+◌, ◌*◌, ◌≤◌, Bool, nat_lt, List, [], length, take, Option, option_map, unwrap_or, IfSome, Result, is_ok, IsErr, OnOk, OnErr, if◌then◌else◌}
use Rattle.smore_base.specs.declared.limits.TheConstants.{BLOCK_BYTES}
use Rattle.zone_bay.specs.Outside.{last, counted, HasCause}
use Rattle.zone_bay.specs.Contents.{Shape, Contents, Lengths, appended, emptied, blanked}
use Rattle.zone_bay.specs.Images.{ImageOf, flushed, still_firm, Instant, Between, During, moment_of}

-- all that a bay tells
pub record BayState : Type 1 where
  pub shape : Shape
  -- the bytes of each zone, where they are told
  pub contents : Option Contents
  -- how many bytes of each zone are firm: a crash leaves at least these
  pub firm : Lengths
  -- what a crash at each instant so far may have left, with all devices there
  pub left : Instant → Contents → Type 0
  -- how often each device has failed
  pub faults : ℕ → ℕ
  -- the moments of each device's failed calls; more may be told, and never fewer
  pub failed : ℕ → ℕ → Type 0
  -- how many calls were made so far
  pub moment : ℕ
  -- how many reads of drives were made so far
  pub reads : ℕ

-- what is held, where it is told
abbrev pub held_in : BayState → Contents
held_in bay = unwrap_or bay.contents (λ _ _. [])

-- an image of what is held
abbrev pub IsImageNow : BayState → Contents → Type 0
IsImageNow bay image = ImageOf bay.contents bay.firm image

-- What holds of all that a bay tells, at any moment.
pub record IsSound (bay : BayState) : Type 0 where
  -- no more is firm than is held
  pub firm_held : IfSome bay.contents (λ held. (d z : ℕ) → bay.firm d z ≤ length (held d z))
  -- a zone has room for its blocks and for no more
  pub fits : IfSome bay.contents (λ held. (d z : ℕ) → length (held d z) ≤ BLOCK_BYTES * bay.shape.blocks)
  -- nothing is held outside the devices and their zones
  pub inside : IfSome bay.contents (λ held. (d z : ℕ) → (bay.shape.devices ≤ d) ⊎ (bay.shape.zones ≤ z) → held d z ≡ [])
  -- a crash now, before the next call, may leave each image of what is held
  pub counts_now : (image : Contents) → IsImageNow bay image → bay.left (Between bay.moment) image
  -- a crash now leaves nothing but such an image
  pub only_now : (image : Contents) → bay.left (Between bay.moment) image → IsImageNow bay image
  -- no crash has come in the call that is made next
  pub none_yet : (image : Contents) → bay.left (During bay.moment) image → ⊥
  -- no crash has come at an instant after now
  pub none_later : (i : Instant) (image : Contents) → bay.left i image → moment_of i ≤ bay.moment

-- the calls that count
pub data Call : Type 0 where
  Written : (device zone : ℕ) → Call
  Read : (device zone : ℕ) → Call
  Append : (device zone : ℕ) (bytes : List ℕ) → Call
  Reset : (device zone : ℕ) → Call
  Flush : (device : ℕ) → Call
  Replace : (device : ℕ) → Call

-- the device that is asked
abbrev pub device_of : Call → ℕ
device_of (Written device zone) = device
device_of (Read device zone) = device
device_of (Append device zone bytes) = device
device_of (Reset device zone) = device
device_of (Flush device) = device
device_of (Replace device) = device

-- what an answered call makes of the contents
abbrev pub made_by : Call → Contents → Contents
made_by (Append device zone bytes) held = appended device zone bytes held
made_by (Reset device zone) held = emptied device zone held
made_by (Replace device) held = blanked device held
made_by call held = held

-- nothing is done, or all
abbrev pub none_or_all : ℕ → (Contents → Contents) → Contents → Contents
none_or_all zero change held = held
none_or_all (suc n) change held = change held

-- What a failed call may make of them: so many bytes of an append, nothing or all of a reset or a replacement.
abbrev pub part_made_by : ℕ → Call → Contents → Contents
part_made_by n (Append device zone bytes) held = appended device zone (take n bytes) held
part_made_by n (Reset device zone) held = none_or_all n (emptied device zone) held
part_made_by n (Replace device) held = none_or_all n (blanked device) held
part_made_by n call held = held

-- How much is firm after a call, answered or not, by what is held then. A flush that is answered makes firm all that its
-- device holds, a reset and a replacement leave firm what is still held.
abbrev pub firm_after : Call → Bool → Contents → Lengths → Lengths
firm_after (Flush device) answered held firm = if answered then flushed device held firm else firm
firm_after (Reset device zone) answered held firm = still_firm held firm
firm_after (Replace device) answered held firm = still_firm held firm
firm_after call answered held firm = firm

-- The last device is the flash, and reads of it aren't counted.
abbrev pub reads_after : Call → BayState → ℕ
reads_after (Read device zone) bay = if nat_lt (device + 1) bay.shape.devices then counted bay.reads else bay.reads
reads_after call bay = bay.reads

-- where the contents are told, this is made of them
abbrev pub Becomes : (Contents → Contents) → BayState → BayState → Type 0
Becomes change old new = new.contents ≡ option_map change old.contents

-- A crash in a call leaves an image of what was held before it, or of what the call makes of that. None of the bytes
-- that an append puts there is firm, so the second leaves any prefix of them.
abbrev pub LeftInCall : (Contents → Contents) → BayState → Contents → Type 0
LeftInCall change old image = IsImageNow old image ⊎ ImageOf (option_map change old.contents) old.firm image

-- what a call that is to make the change adds to what crashes may have left: in it, and after it
abbrev pub LeftByCall : (Contents → Contents) → BayState → BayState → Instant → Contents → Type 0
LeftByCall change old new (During m) image = (m ≡ old.moment) × LeftInCall change old image
LeftByCall change old new (Between m) image = (m ≡ new.moment) × IsImageNow new image

-- What crashes may have left, after a call: what they may have left before stays, and only the call's own is added. Where
-- it is answered, all that a crash in it may leave is added.
pub record Elapses {T E : Type 0} (change : Contents → Contents) (old new : BayState) (result : Result T E) : Type 0 where
  pub keeps : (i : Instant) (image : Contents) → old.left i image → new.left i image
  pub in_call : OnOk result ((image : Contents) → LeftInCall change old image → new.left (During old.moment) image)
  pub only : (i : Instant) (image : Contents) → new.left i image → old.left i image ⊎ LeftByCall change old new i image

-- The moments of the failed calls of each device, after a call: a failed one adds its own, and may add later moments of
-- its device too. An answered call adds none.
pub record TellsFailure {T E : Type 0} (device : ℕ) (old new : BayState) (result : Result T E) : Type 0 where
  pub keeps : (d m : ℕ) → old.failed d m → new.failed d m
  pub told : OnErr result (new.failed device old.moment)
  pub only : (d m : ℕ) → new.failed d m → old.failed d m ⊎ (IsErr result × (d ≡ device) × (old.moment ≤ m))

-- What a call does.
pub record Makes {T E : Type 0} (call : Call) (old new : BayState) (result : Result T E) : Type 0 where
  pub same_shape : new.shape ≡ old.shape
  pub later : new.moment ≡ counted old.moment
  pub no_earlier : old.moment ≤ new.moment
  -- no call is answered at the last moment, and nothing that is held changes then
  pub in_time : old.moment ≡ last → IsErr result
  pub unchanged : old.moment ≡ last → (new.contents ≡ old.contents) × (new.firm ≡ old.firm)
  -- its device's count of faults says whether it failed, and the other counts stay
  pub cause : HasCause result (old.faults (device_of call)) (new.faults (device_of call))
  pub others : (d : ℕ) → d ≢ device_of call → new.faults d ≡ old.faults d
  pub done : OnOk result (Becomes (made_by call) old new)
  pub part : OnErr result ((n : ℕ) × Becomes (part_made_by n call) old new)
  pub firm : new.firm ≡ firm_after call (is_ok result) (held_in new) old.firm
  pub reads : new.reads ≡ reads_after call old
  pub time : Elapses (made_by call) old new result
  pub failure : TellsFailure (device_of call) old new result
