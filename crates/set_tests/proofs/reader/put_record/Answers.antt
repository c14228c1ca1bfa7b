use Rattle.std.proofs.Common.{sym, ◌∙◌}
use Rattle.marker_format.proofs.MarkerRules.{IsMarker-from}
use Rattle.set_tests.proofs.reader.put_record.Goals as goal

pub write_record-requires-clause-marker : goal.write_record-requires-clause-marker
write_record-requires-clause-marker c = IsMarker-from c.args.marker.now c.requires.widths (sym c.is_well_formed.ensures ∙ c.if-not-is_well_formed.false)
