use Rattle.std.proofs.Common.{ap, ◌∙◌}
use Rattle.marker_format.specs.Block.{marker_in_block}
use Rattle.marker_format.proofs.MarkerRules.{is_marker-true, IsMarker-true}
use Rattle.marker_format.proofs.BlockLaws.{marker_in_block-is, marker_in_block-again}
use Rattle.marker_format.proofs.laws.blocks_hold_markers.Goals as goal

pub returns-clause-rules : goal.returns-clause-rules
returns-clause-rules c = λ m. (IsMarker-true m, is_marker-true m)

pub returns-clause-holds : goal.returns-clause-holds
returns-clause-holds c = λ block m. (marker_in_block-is block m, λ h. ap marker_in_block h.1 ∙ marker_in_block-again m h.0)
