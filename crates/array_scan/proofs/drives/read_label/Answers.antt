use Rattle.std.proofs.Common.{Option}
use Rattle.zone_bay.specs.declared.failed.Failed.{Failed}
use Rattle.marker_format.specs.declared.label.Label.{Label}
use Rattle.array_scan.proofs.Calls.{read_answered, read_failed}
use Rattle.array_scan.proofs.drives.read_label.Goals as goal

pub returns-in-Ok-clause-reads : goal.returns-in-Ok-clause-reads
returns-in-Ok-clause-reads g c =
    read_answered Failed c.in-Ok.label c.args.device (g.B.Bay.state c.args.bay.now) (g.B.Bay.state c.read_bay_label.new.bay) c.in-Ok.ensures.reads.only

pub returns-in-Err-clause-reads : goal.returns-in-Err-clause-reads
returns-in-Err-clause-reads g c =
    read_failed (Option Label) _ c.args.device (g.B.Bay.state c.args.bay.now) (g.B.Bay.state c.read_bay_label.new.bay) c.in-Err.ensures.reads.only c.in-Err.ensures.reads.cause c.in-Err.ensures.reads.over
