use Rattle.std.proofs.Common.{refl}
use Rattle.zone_bay.specs.Bay.{Reset}
use Rattle.bay_files.proofs.Faults.{in_bay}
use Rattle.bay_files.proofs.file_bay.FileBayBay.reset.Goals as goal

pub returns : goal.returns
returns g c = record { call = in_bay _ _ _ _ _ _ c.change.ensures.line c.change.ensures.told (Reset c.args.device c.args.zone) refl refl }
