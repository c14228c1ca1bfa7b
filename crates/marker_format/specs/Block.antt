-- Blocks: a tag and 511 bytes.
use Rattle.std.specs.Prelude.{ℕ, ◌-◌, ◌&&◌, List, ◌∷◌, ◌++◌, length, take, drop, replicate, Option, Some, None, if◌then◌else◌}
use Rattle.std.specs.Str.{bytes_eq}
use Rattle.smore_base.specs.declared.limits.TheConstants.{CONTENT_BYTES}
use Rattle.marker_format.specs.declared.tag.Tag.{Tag}
use Rattle.marker_format.specs.declared.tag.Tag.TheVariants as tags
use Rattle.marker_format.specs.declared.marker.Marker.{Marker}
use Rattle.marker_format.specs.declared.marker.TheConstants.{MARKER_BYTES}
use Rattle.marker_format.specs.declared.foot.Foot.{Foot}
use Rattle.marker_format.specs.declared.label.Label.{Label}
use Rattle.marker_format.specs.Tag.{code_of}
use Rattle.marker_format.specs.Marker as marker
use Rattle.marker_format.specs.Foot as foot
use Rattle.marker_format.specs.Label as label

-- the tag, the text, and zeros to 512 bytes
unfoldable pub block_of : Tag → List ℕ → List ℕ
block_of tag text = code_of tag ∷ (text ++ replicate (CONTENT_BYTES - length text) 0)

abbrev pub marker_block : Marker → List ℕ
marker_block m = block_of tags.Marker (marker.spelling_of m)

abbrev pub foot_block : Foot → List ℕ
foot_block f = block_of tags.Foot (foot.spelling_of f)

abbrev pub label_block : Label → List ℕ
label_block l = block_of tags.Label (label.spelling_of l)

-- at most 511 bytes of a fragment
abbrev pub data_block : List ℕ → List ℕ
data_block piece = block_of tags.Data piece

-- The marker that the block holds, where it holds a well formed one.
--     marker_in_block block ≡ Some m  exactly where  IsMarker m × (block ≡ marker_block m)
unfoldable pub marker_in_block : List ℕ → Option Marker
marker_in_block block =
    let m = marker.marker_at (take MARKER_BYTES (drop 1 block)) in
    if marker.is_marker m && bytes_eq block (marker_block m) then Some m else None
