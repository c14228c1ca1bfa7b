use Rattle.std.proofs.Common.{arith}
use Rattle.marker_format.specs.declared.tag.Tag.TheVariants as tags
use Rattle.marker_format.specs.Marker.{spelling_of}
use Rattle.marker_format.proofs.BlockLaws.{same_text, IfNone-map}
use Rattle.marker_format.proofs.MarkerLaws.{length-spelling_of}
use Rattle.marker_format.proofs.block.read_marker_block.Goals as goal

pub returns-in_err-text_of-clause-none : goal.returns-in_err-text_of-clause-none
returns-in_err-text_of-clause-none c = rw c.from_residual.ensures (λ x is e. c.in_err-text_of.ensures.none (spelling_of x) (length-spelling_of x is) e)

pub returns-clause-none : goal.returns-clause-none
returns-clause-none c =
    let text = c.in_ok-text_of.ensures.found in
    IfNone-map c.read_marker.result c.read_marker.ensures.none (λ none x is e. none x is (same_text tags.Marker c.args.block.now _ (spelling_of x) 328 text.1 e text.0 (length-spelling_of x is) (omega arith)))
