-- What a crash leaves of an array, as it is asked for.
use Rattle.std.specs.Prelude.{◌≡◌, ℕ, ◌&&◌, ◌==◌, max, List, length, take, if◌then◌else◌}
use Rattle.zone_bay.specs.Contents.{Contents, Lengths}
use Rattle.zone_bay.specs.Images.{IsImage, without_each}
use Rattle.bay_memory.specs.declared.crash.Crash.{Crash}
use Rattle.bay_memory.specs.Operation.{put_by}
use Rattle.bay_memory.specs.declared.keep.Keep.{Keep}
use Rattle.bay_memory.specs.declared.keep.Keep.TheVariants.{Firm, All, Short}

-- how many bytes of a zone
abbrev pub kept_bytes : Keep → ℕ → ℕ → ℕ → ℕ → ℕ
kept_bytes Firm d z held firm = firm
kept_bytes All d z held firm = held
kept_bytes (Short device zone bytes) d z held firm = if (d == device) && (z == zone) then max firm bytes else held

-- of each zone so many bytes
abbrev pub kept : Keep → Contents → Lengths → Contents
kept keep held firm d z = take (kept_bytes keep d z (length (held d z)) (firm d z)) (held d z)

-- that, with what an append has put behind one zone
abbrev pub kept_with : Crash → Contents → Lengths → Contents
kept_with crash held firm = put_by crash.put (kept crash.keep held firm)

-- that, without the devices that are removed
abbrev pub left_by : Crash → Contents → Lengths → Contents
left_by crash held firm = without_each crash.removed.now (kept_with crash held firm)

-- an image that a crash may leave, without the devices that are removed
abbrev pub IsLeft : List ℕ → Contents → Lengths → Contents → Type 0
IsLeft removed held firm image = (left : Contents) × IsImage held firm left × (image ≡ without_each removed left)
