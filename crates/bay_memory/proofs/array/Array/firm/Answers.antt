use Rattle.std.proofs.Common.{arith}
use Rattle.bay_memory.proofs.Devices.{zones_counted}
use Rattle.bay_memory.proofs.array.Array.firm.Goals as goal

pub firm-requires : goal.firm-requires
firm-requires c =
    let self = c.args.self.now in
    let device = c.index.result.now in
    let is = rw c.from.ensures at c.index.ensures in
    omega (arith, c.into.ensures, c.requires.zone_in, zones_counted self.devices.items c.args.device device device c.requires.device_in is self.zones self.blocks self.whole)
