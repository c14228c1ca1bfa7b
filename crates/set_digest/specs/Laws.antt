-- What follows from the definitions of lines.
use Rattle.std.specs.Prelude.{◌≡◌, ℕ, ◌^◌, ◌<◌, List, take, if◌then◌else◌}
use Rattle.marker_format.specs.declared.kind.Kind.TheVariants.{Head}
use Rattle.marker_format.specs.declared.marker.Marker.{Marker}
use Rattle.marker_format.specs.Marker.{IsMarker}
use Rattle.marker_format.specs.Zone.{Array, Begin, has_kind}
use Rattle.set_digest.specs.declared.line.Line.{Line}
use Rattle.set_digest.specs.Line.{IsListed, IsLine, spelling_of}
use Rattle.set_digest.specs.Lines.{IsList, spelling_of_list}
use Rattle.set_digest.specs.Records.{line_of, listed_of}

-- Two lines of the same bytes are one,
abbrev pub LinesAreApart : Type 0
LinesAreApart = (a b : Line) → IsLine a → IsLine b → spelling_of a ≡ spelling_of b → a ≡ b

-- and two spelled lists: bytes spell one list at most.
abbrev pub ListsAreApart : Type 0
ListsAreApart = (a b : List Line) → IsList a → IsList b → spelling_of_list a ≡ spelling_of_list b → a ≡ b

-- The first lines of a spelled list are one.
abbrev pub FirstAreList : Type 0
FirstAreList = (n : ℕ) (ls : List Line) → IsList ls → IsList (take n ls)

-- A well formed marker of a kind that is listed has a line, wherever it stands.
abbrev pub RecordHasLine : Type 0
RecordHasLine = (block : ℕ) (m : Marker) (is : IsMarker m) → IsListed is.kind → block < 2 ^ 32 → IsLine (line_of block m)

-- The zones of a set, rebuilt ones too, have the same line of a record.
abbrev pub ZonesHaveOneLine : Type 0
ZonesHaveOneLine = (block index part : ℕ) (m : Marker) → line_of block (record m { index = index; part = if has_kind Head m then part else m.part }) ≡ line_of block m

-- What a zone's records are listed as is a spelled list.
abbrev pub RecordsAreListed : Type 0
RecordsAreListed = (array : Array) (bytes : List ℕ) (ms : List Marker) → Begin array bytes ms → IsList (listed_of ms)
