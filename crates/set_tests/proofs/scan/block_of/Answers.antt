use Rattle.std.proofs.Common.{sym, ◌∙◌}
use Rattle.marker_format.proofs.MarkerRules.{IsMarker-from}
use Rattle.set_tests.proofs.scan.block_of.Goals as goal

pub write_marker_block-requires-clause-marker : goal.write_marker_block-requires-clause-marker
write_marker_block-requires-clause-marker c = IsMarker-from c.args.marker.now c.requires (sym c.is_well_formed.ensures ∙ c.if-is_well_formed.true)
