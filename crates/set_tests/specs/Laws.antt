-- Laws of what is read of the records that a writer wrote.
use Rattle.std.specs.Prelude.{◌≡◌, ℕ, true, List, ◌∷◌, ◌++◌, length}
use Rattle.smore_base.specs.declared.place.Place.{Place}
use Rattle.smore_base.specs.Geometry.{IsWithinLimits}
use Rattle.zone_bay.specs.Contents.{Contents}
use Rattle.set_table.specs.Table.{Table, is_live}
use Rattle.set_writer.specs.Entry.{Entry}
use Rattle.set_writer.specs.Writer.{Writer, array_by, blocks_in, Fits}
use Rattle.set_writer.specs.Laws.{records_of}
use Rattle.set_table.specs.Table.{array_of}
use Rattle.set_reader.specs.Calls.{OnlyLoses}
use Rattle.set_reader.specs.Record.{StandsAt, Appends}

-- the place of a record of the set that stands behind these
abbrev pub place_behind : ℕ → List Entry → Place
place_behind set before = record { set = set; position = length before; block = blocks_in before }

-- Each record that a writer wrote stands at its place: the block of its marker is behind those of the records before it.
abbrev pub WrittenStands : Type 0
WrittenStands = (w : Writer) (es before after : List Entry) (e : Entry) (t : Table) (held : Contents) → array_by w ≡ array_of t → Fits w es t held → records_of w es ≡ before ++ e ∷ after
    → StandsAt t w.set (blocks_in before) e.marker held

-- What is put behind other bytes by a read of it is its payload, whichever drives were lost before or in the call.
abbrev pub WrittenIsReadBack : Type 0
WrittenIsReadBack = (w : Writer) (es before after : List Entry) (e : Entry) (t t' : Table) (held : Contents) (out more : List ℕ) → IsWithinLimits t.geometry → array_by w ≡ array_of t → Fits w es t held → records_of w es ≡ before ++ e ∷ after
    → OnlyLoses t t' → Appends t t' (place_behind w.set before) held out more → more ≡ out ++ e.payload
