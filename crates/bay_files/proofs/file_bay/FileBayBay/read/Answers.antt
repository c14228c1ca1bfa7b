use Rattle.std.proofs.Common.{refl, sym}
use Rattle.zone_bay.specs.Bay.{Read}
use Rattle.bay_files.specs.Counts.{shape_in}
use Rattle.bay_files.proofs.file_bay.FileBayBay.read.Goals as goal

pub returns-clause-call : goal.returns-clause-call
returns-clause-call g c = c.tell.ensures (shape_in c.args.self.now.line) (Read c.args.device c.args.zone) refl (sym c.is_drive-is_drive.ensures)
