-- What a call makes of a bay that doesn't tell what it holds.
use Rattle.std.proofs.Common.{◌≡◌, ℕ, false, Result, sym, subst}
use Rattle.zone_bay.specs.declared.failed.Failed.{Failed}
use Rattle.zone_bay.specs.Bay.{Call, device_of, Makes}
use Rattle.bay_files.specs.declared.counts.Counts.{Counts}
use Rattle.bay_files.specs.declared.shape_line.ShapeLine.{ShapeLine}
use Rattle.bay_files.specs.Counts.{shape_in, state_of, is_drive_read, TellsCall}

-- What is told of a call is told of it in a bay whose line stays.
pub in_bay : (old_line new_line : ShapeLine) (old new : Counts) (device : ℕ) (result : Result (Unit {0}) Failed) → new_line ≡ old_line → TellsCall device false old new result
    → (call : Call) → device_of call ≡ device → is_drive_read (shape_in old_line) call ≡ false → Makes {T = Unit {0}} {E = Failed} call (state_of (shape_in old_line) old) (state_of (shape_in new_line) new) result
in_bay old_line new_line old new device result same told call on no_read =
    subst (λ (line : ShapeLine). Makes {T = Unit {0}} {E = Failed} call (state_of (shape_in old_line) old) (state_of (shape_in line) new) result) (sym same) (told (shape_in old_line) call on no_read)
