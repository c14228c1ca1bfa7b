-- The label that a block holds.
use Rattle.std.specs.Prelude.{ℕ, List, take, drop, Option, Some, None, if◌then◌else◌}
use Rattle.std.specs.Str.{bytes_eq}
use Rattle.marker_format.specs.declared.label.Label.{Label}
use Rattle.marker_format.specs.declared.label.TheConstants.{LABEL_BYTES}
use Rattle.marker_format.specs.Label.{label_at}
use Rattle.marker_format.specs.Block.{label_block}

-- the label that the block holds, of whatever array and device
unfoldable pub label_in : List ℕ → Option Label
label_in block =
    let l = label_at (take LABEL_BYTES (drop 1 block)) in
    if bytes_eq block (label_block l) then Some l else None
