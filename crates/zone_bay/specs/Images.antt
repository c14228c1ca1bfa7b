-- What a crash may leave of what zones hold, and when a crash may come.
use Rattle.std.specs.Prelude.{◌≡◌, ℕ, ◌≤◌, ◌==◌, min, List, [], ◌∷◌, length, take, Option, None, Some, if◌then◌else◌}
use Rattle.zone_bay.specs.Contents.{Contents, Lengths, blanked}

-- a prefix of what the zone holds, with at least so many bytes of it
abbrev pub IsFirmPrefix : List ℕ → ℕ → List ℕ → Type 0
IsFirmPrefix held firm left = (n : ℕ) × (firm ≤ n) × (left ≡ take n held)

-- A crash leaves of each zone a prefix of what it holds, with at least the firm bytes.
abbrev pub IsImage : Contents → Lengths → Contents → Type 0
IsImage held firm image = (d z : ℕ) → IsFirmPrefix (held d z) (firm d z) (image d z)

-- an image of the contents, where they are told
abbrev pub ImageOf : Option Contents → Lengths → Contents → Type 0
ImageOf None firm image = ⊥
ImageOf (Some held) firm image = IsImage held firm image

-- All that the device holds is firm. The other devices stay as they were.
abbrev pub flushed : ℕ → Contents → Lengths → Lengths
flushed device held firm d z = if d == device then length (held d z) else firm d z

-- What was firm is firm where it is still held, and nothing else is.
abbrev pub still_firm : Contents → Lengths → Lengths
still_firm held firm d z = min (firm d z) (length (held d z))

-- A device that is missing holds nothing.
abbrev pub without : ℕ → Contents → Contents
without device image = blanked device image

-- what is left of an image where any of its devices are missing, taken out one at a time
abbrev pub without_each : List ℕ → Contents → Contents
without_each [] image = image
without_each (device ∷ more) image = without_each more (without device image)

-- when a crash comes: between two calls, after so many of them, or in the call that is made after so many
pub data Instant : Type 0 where
  Between : ℕ → Instant
  During : ℕ → Instant

-- how many calls were made before it
abbrev pub moment_of : Instant → ℕ
moment_of (Between m) = m
moment_of (During m) = m

-- a crash since the moment may have left the image
abbrev pub LeftSince : (Instant → Contents → Type 0) → ℕ → Contents → Type 0
LeftSince left moment image = (i : Instant) × (moment ≤ moment_of i) × left i image
