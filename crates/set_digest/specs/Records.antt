-- The lines of records.
use Rattle.std.specs.Prelude.{ℕ, ◌+◌, List, [], ◌∷◌, if◌then◌else◌}
use Rattle.marker_format.specs.declared.kind.Kind.TheVariants.{Head, Digest}
use Rattle.marker_format.specs.declared.marker.Marker.{Marker}
use Rattle.marker_format.specs.Zone.{blocks_of, has_kind}
use Rattle.set_digest.specs.declared.line.Line.{Line}

-- The line of a record whose marker stands at this block. The rebuilt mark of a head is left aside: it is of one zone alone.
abbrev pub line_of : ℕ → Marker → Line
line_of block m = record {
  position = m.position;
  kind = m.kind;
  block = block;
  fragment = m.fragment;
  stamp = m.stamp;
  upload = m.upload;
  part = if has_kind Head m then 0 else m.part;
  parts = m.parts;
  length = m.length;
  payload = m.payload;
  name = m.name;
}

-- the lines of records that stand from this block on
abbrev pub lines_from : ℕ → List Marker → List Line
lines_from block [] = []
lines_from block (m ∷ ms) = line_of block m ∷ lines_from (block + blocks_of m) ms

-- the records before the first digest record
abbrev pub before_digest : List Marker → List Marker
before_digest [] = []
before_digest (m ∷ ms) = if has_kind Digest m then [] else m ∷ before_digest ms

-- What a digest lists of the records of its zone: all that stand before it.
abbrev pub listed_of : List Marker → List Line
listed_of ms = lines_from 0 (before_digest ms)
