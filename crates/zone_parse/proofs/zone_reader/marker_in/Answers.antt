use Rattle.marker_format.proofs.BlockLaws.{marker_in_block-exact}
use Rattle.zone_parse.proofs.Shown.{both_outcomes}
use Rattle.zone_parse.proofs.zone_reader.marker_in.Goals as goal

pub returns : goal.returns
returns c = marker_in_block-exact c.args.block.now c.read_marker_block.result (both_outcomes _ _ c.read_marker_block.result c.read_marker_block.ensures.found c.read_marker_block.ensures.none)
