use Rattle.std.proofs.Common.{refl}
use Rattle.zone_bay.specs.Bay.{Written}
use Rattle.bay_files.specs.Counts.{shape_in}
use Rattle.bay_files.proofs.file_bay.FileBayBay.written.Goals as goal

pub returns-clause-call : goal.returns-clause-call
returns-clause-call g c = c.tell.ensures (shape_in c.args.self.now.line) (Written c.args.device c.args.zone) refl refl
