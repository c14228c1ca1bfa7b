use Rattle.std.proofs.Common.{refl}
use Rattle.zone_bay.specs.Bay.{Replace}
use Rattle.bay_files.proofs.Faults.{in_bay}
use Rattle.bay_files.proofs.file_bay.FileBayBay.replace.Goals as goal

pub returns : goal.returns
returns g c = record { call = in_bay _ _ _ _ _ _ c.change.ensures.line c.change.ensures.told (Replace c.args.device) refl refl }
