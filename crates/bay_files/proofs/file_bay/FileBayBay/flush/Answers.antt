use Rattle.std.proofs.Common.{refl}
use Rattle.zone_bay.specs.Bay.{Flush}
use Rattle.bay_files.proofs.Faults.{in_bay}
use Rattle.bay_files.proofs.file_bay.FileBayBay.flush.Goals as goal

pub returns : goal.returns
returns g c = record { call = in_bay _ _ _ _ _ _ c.change.ensures.line c.change.ensures.told (Flush c.args.device) refl refl }
