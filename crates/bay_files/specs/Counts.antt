-- What a bay tells that counts its calls and faults, and doesn't tell what it holds.
use Rattle.std.specs.Prelude.{◌≡◌, ℕ, ◌+◌, ◌≤◌, Bool, false, nat_lt, if◌then◌else◌, slice_index, slice_set, min, Result}
use Rattle.zone_bay.specs.declared.failed.Failed.{Failed}
use Rattle.zone_bay.specs.Outside.{counted}
use Rattle.zone_bay.specs.Contents.{Shape}
use Rattle.zone_bay.specs.Bay.{BayState, Call, Read, device_of, Makes, IsSound}
use Rattle.zone_bay.specs.Counts.{Counts as ToldCounts, counts_alone}
use Rattle.bay_files.specs.declared.counts.Counts.{Counts}
use Rattle.bay_files.specs.declared.shape_line.ShapeLine.{ShapeLine}

-- the shape that the line of the file `bay` tells
abbrev pub shape_in : ShapeLine → Shape
shape_in line = record { devices = line.devices; zones = line.zones; blocks = line.blocks }

-- how often a device has failed
abbrev pub faults_of : Counts → ℕ → ℕ
faults_of counts device = slice_index counts.faults device

-- A device may have failed in each call since its first failed one.
abbrev pub HasFailed : Counts → ℕ → ℕ → Type 0
HasFailed counts device moment = slice_index counts.first device ≤ moment

-- its counts, as it tells them
abbrev pub told_of : Shape → Counts → ToldCounts
told_of shape counts = record { shape = shape; faults = faults_of counts; moment = counts.moment; reads = counts.reads }

-- All that such a bay tells. When its devices have failed is told more closely than where counts alone are told.
abbrev pub state_of : Shape → Counts → BayState
state_of shape counts = record (counts_alone (told_of shape counts)) { failed = HasFailed counts }

-- the counts with a fault of the device now
abbrev pub faulted : ℕ → Counts → Counts
faulted device counts = record counts {
  faults = slice_set counts.faults device (counted (faults_of counts device));
  first = slice_set counts.first device (min (slice_index counts.first device) counts.moment);
}

-- the counts with one more call
abbrev pub later : Counts → Counts
later counts = record counts { moment = counted counts.moment }

-- the counts with one more read of a drive, where there was one
abbrev pub with_read : Bool → Counts → Counts
with_read drive_read counts = record counts { reads = if drive_read then counted counts.reads else counts.reads }

-- a call that is a read of a drive, of an array of this shape
abbrev pub is_drive_read : Shape → Call → Bool
is_drive_read shape (Read device zone) = nat_lt (device + 1) shape.devices
is_drive_read shape call = false

-- The call on the device was counted, and its fault where it failed.
abbrev pub TellsCall : {T : Type 0} → ℕ → Bool → Counts → Counts → Result T Failed → Type 0
TellsCall {T} device drive_read old new result =
    (shape : Shape) (call : Call) → device_of call ≡ device → is_drive_read shape call ≡ drive_read → Makes {T = T} {E = Failed} call (state_of shape old) (state_of shape new) result

-- Of what isn't told nothing can be wrong.
pub is_sound : (shape : Shape) (counts : Counts) → IsSound (state_of shape counts)
is_sound shape counts = record {
  firm_held = tt;
  fits = tt;
  inside = tt;
  counts_now = λ image now. absurd now;
  only_now = λ image left. absurd left;
  none_yet = λ image left. left;
  none_later = λ i image left. absurd left;
}
