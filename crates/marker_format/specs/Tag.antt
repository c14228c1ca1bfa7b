-- What a block holds.
use Rattle.std.specs.Prelude.{ℕ}
use Rattle.marker_format.specs.declared.tag.Tag.{Tag}
use Rattle.marker_format.specs.declared.tag.Tag.TheVariants.{Marker, Data, Foot, Label}

-- the number of a tag
abbrev pub code_of : Tag → ℕ
code_of Marker = 1
code_of Data = 2
code_of Foot = 3
code_of Label = 4
