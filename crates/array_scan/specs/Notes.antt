-- Notes among valid records.
use Rattle.std.specs.Prelude.{Bool, true, nat_lt, Option, Some, None}
use Rattle.array_scan.specs.declared.set_read.RecordAt.{RecordAt}
use Rattle.array_scan.specs.declared.records.ValidRecord.{ValidRecord}

-- the note's stamp is greater than that of the note behind it, where there is one
abbrev pub is_later : RecordAt → Option ValidRecord → Bool
is_later at None = true
is_later at (Some note) = nat_lt note.at.now.marker.stamp at.marker.stamp
