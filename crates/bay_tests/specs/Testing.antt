-- What a test of several calls aims at.
use Rattle.std.specs.Prelude.{ℕ, List}
use Rattle.zone_bay.specs.Contents.{Contents, appended}

-- the bytes at the end of the zone on devices 0 and 1
abbrev pub on_both : ℕ → List ℕ → Contents → Contents
on_both zone bytes held = appended 1 zone bytes (appended 0 zone bytes held)
