-- What follows from what a crash leaves.
use Rattle.std.specs.Prelude.{◌≡◌, ◌⊎◌, ℕ, ◌≤◌, List, [], ◌++◌, length, take, Contains}
use Rattle.zone_bay.specs.Contents.{Contents, Lengths, with_zone, appended, emptied, blanked, Extends}
use Rattle.zone_bay.specs.Images.{IsImage, flushed, still_firm, without, without_each, Instant, LeftSince}
use Rattle.zone_bay.specs.Bay.{BayState, IsImageNow}

-- no more is firm than is held
abbrev pub NoMoreFirm : Contents → Lengths → Type 0
NoMoreFirm held firm = (d z : ℕ) → firm d z ≤ length (held d z)

-- What a crash may leave after a flush, it could leave before it.
abbrev pub FlushLeavesFewer : Type 0
FlushLeavesFewer = (held : Contents) (firm : Lengths) (device : ℕ) (image : Contents) → NoMoreFirm held firm → IsImage held (flushed device held firm) image → IsImage held firm image

-- A crash after a flush leaves of the flushed device all that it held.
abbrev pub FlushKeepsDevice : Type 0
FlushKeepsDevice = (held : Contents) (firm : Lengths) (device : ℕ) (image : Contents) → IsImage held (flushed device held firm) image → (z : ℕ) → image device z ≡ held device z

-- A crash after a flush may leave each earlier image that has the flushed device whole: of the other devices no more is firm.
abbrev pub FlushLeavesOthers : Type 0
FlushLeavesOthers = (held : Contents) (firm : Lengths) (device : ℕ) (image : Contents) → IsImage held firm image → ((z : ℕ) → image device z ≡ held device z) → IsImage held (flushed device held firm) image

-- What a crash could leave before an append, it may leave after it.
abbrev pub AppendLeavesOld : Type 0
AppendLeavesOld = (held : Contents) (firm : Lengths) (device zone : ℕ) (bytes : List ℕ) (image : Contents) → NoMoreFirm held firm → IsImage held firm image → IsImage (appended device zone bytes held) firm image

-- What else a crash may leave after an append has all that the zone held, and then a prefix of the bytes.
abbrev pub AppendLeavesPart : Type 0
AppendLeavesPart = (held : Contents) (firm : Lengths) (device zone : ℕ) (bytes : List ℕ) (image : Contents) → IsImage (appended device zone bytes held) firm image → IsImage held firm image ⊎ ((n : ℕ) × (n ≤ length bytes) × (image device zone ≡ held device zone ++ take n bytes))

-- A crash after an append may leave any prefix of its bytes.
abbrev pub AppendLeavesAnyPart : Type 0
AppendLeavesAnyPart = (held : Contents) (firm : Lengths) (device zone : ℕ) (bytes : List ℕ) (image : Contents) (n : ℕ) → NoMoreFirm held firm → IsImage held firm image → IsImage (appended device zone bytes held) firm (with_zone device zone (held device zone ++ take n bytes) image)

-- What a crash may leave of an append's prefix, it may leave of the whole append.
abbrev pub PartLeavesLess : Type 0
PartLeavesLess = (held : Contents) (firm : Lengths) (device zone : ℕ) (bytes : List ℕ) (n : ℕ) (image : Contents) → NoMoreFirm held firm → IsImage (appended device zone (take n bytes) held) firm image → IsImage (appended device zone bytes held) firm image

-- What a crash may leave, it may leave where more stands behind what is held.
abbrev pub MoreLeavesMore : Type 0
MoreLeavesMore = (held more : Contents) (firm : Lengths) (image : Contents) → NoMoreFirm held firm → Extends held more → IsImage held firm image → IsImage more firm image

-- What a crash may leave, it may leave where less is firm.
abbrev pub LessFirmLeavesMore : Type 0
LessFirmLeavesMore = (held : Contents) (less more : Lengths) (image : Contents) → ((d z : ℕ) → less d z ≤ more d z) → IsImage held more image → IsImage held less image

-- What is no longer held needn't be firm: it makes no difference to what a crash may leave.
abbrev pub StillFirmLeavesSame : Type 0
StillFirmLeavesSame = (held : Contents) (firm : Lengths) (image : Contents) → IsImage held (still_firm held firm) image → IsImage held firm image

-- Where all that is held is firm, a crash leaves nothing else.
abbrev pub AllFirmLeavesAll : Type 0
AllFirmLeavesAll = (held : Contents) (firm : Lengths) (image : Contents) → ((d z : ℕ) → firm d z ≡ length (held d z)) → IsImage held firm image → image ≡ held

-- A crash may always leave all that is held.
abbrev pub HeldIsLeft : Type 0
HeldIsLeft = (held : Contents) (firm : Lengths) → IsImage held firm held

-- A crash after a reset leaves nothing of the zone.
abbrev pub ResetLeavesNothing : Type 0
ResetLeavesNothing = (held : Contents) (firm : Lengths) (device zone : ℕ) (image : Contents) → IsImage (emptied device zone held) firm image → image device zone ≡ []

-- A crash after a device was replaced leaves nothing of it.
abbrev pub ReplaceLeavesNothing : Type 0
ReplaceLeavesNothing = (held : Contents) (firm : Lengths) (device : ℕ) (image : Contents) → IsImage (blanked device held) firm image → (z : ℕ) → image device z ≡ []

-- What is still firm is held.
abbrev pub StillFirmIsHeld : Type 0
StillFirmIsHeld = (held : Contents) (firm : Lengths) → NoMoreFirm held (still_firm held firm)

-- And it is all that was firm, where that is still held.
abbrev pub StillFirmIsFirm : Type 0
StillFirmIsFirm = (held : Contents) (firm : Lengths) → NoMoreFirm held firm → still_firm held firm ≡ firm

-- Without a device, an image is an image of what is held without it.
abbrev pub MissingLeavesImage : Type 0
MissingLeavesImage = (held : Contents) (firm : Lengths) (device : ℕ) (image : Contents) → IsImage held firm image → IsImage (without device held) firm (without device image)

-- And without several of them.
abbrev pub MissingEachLeaveImage : Type 0
MissingEachLeaveImage = (held : Contents) (firm : Lengths) (devices : List ℕ) (image : Contents) → IsImage held firm image → IsImage (without_each devices held) firm (without_each devices image)

-- Two devices may be taken in either order.
abbrev pub MissingInAnyOrder : Type 0
MissingInAnyOrder = (a b : ℕ) (image : Contents) → without a (without b image) ≡ without b (without a image)

-- A device that is taken twice is as one that is taken once.
abbrev pub MissingTwice : Type 0
MissingTwice = (device : ℕ) (image : Contents) → without device (without device image) ≡ without device image

-- Devices may be taken in parts.
abbrev pub MissingOneByOne : Type 0
MissingOneByOne = (some more : List ℕ) (image : Contents) → without_each (some ++ more) image ≡ without_each more (without_each some image)

-- Each device that is taken holds nothing.
abbrev pub MissingHoldNothing : Type 0
MissingHoldNothing = (devices : List ℕ) (image : Contents) (d z : ℕ) → Contains devices d → without_each devices image d z ≡ []

-- The others hold what they held.
abbrev pub OthersKeepTheirs : Type 0
OthersKeepTheirs = (devices : List ℕ) (image : Contents) (d z : ℕ) → ¬ Contains devices d → without_each devices image d z ≡ image d z

-- What crashes since a moment may have left, crashes since an earlier one may have left.
abbrev pub LaterLeavesFewer : (Instant → Contents → Type 0) → Type 0
LaterLeavesFewer left = (earlier later : ℕ) (image : Contents) → earlier ≤ later → LeftSince left later image → LeftSince left earlier image

-- Crashes since now may have left nothing but images of what is held.
abbrev pub LeavesOnlyImages : BayState → Type 0
LeavesOnlyImages bay = (image : Contents) → LeftSince bay.left bay.moment image → IsImageNow bay image

-- Crashes since any moment so far may have left each image of what is held.
abbrev pub LeavesEachImage : BayState → Type 0
LeavesEachImage bay = (moment : ℕ) (image : Contents) → moment ≤ bay.moment → IsImageNow bay image → LeftSince bay.left moment image
