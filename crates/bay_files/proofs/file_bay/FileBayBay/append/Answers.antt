use Rattle.std.proofs.Common.{refl}
use Rattle.zone_bay.specs.Bay.{Append}
use Rattle.bay_files.proofs.Faults.{in_bay}
use Rattle.bay_files.proofs.file_bay.FileBayBay.append.Goals as goal

pub returns : goal.returns
returns g c = record { call = in_bay _ _ _ _ _ _ c.change.ensures.line c.change.ensures.told (Append c.args.device c.args.zone c.args.bytes.now) refl refl }
