use Rattle.bay_memory.proofs.Devices.{whole_kept, tracks_kept, fault_noted}
use Rattle.bay_memory.proofs.array.Array.fail.Goals as goal

pub invariant_of-self : goal.invariant_of-self
invariant_of-self c =
    let self = c.args.self.now in
    let device = c.index_mut.result.now in
    let is = rw c.from-device.ensures at c.index_mut.ensures.value in
    record { small = self.small; whole = rw c.from-device.ensures (whole_kept self.zones self.blocks _ _ self.whole (tracks_kept self.devices.items c.args.device device c.fail.new.self c.requires is c.fail.ensures.zones)) }

pub returns-clause-fault : goal.returns-clause-fault
returns-clause-fault c =
    let self = c.args.self.now in
    let device = c.index_mut.result.now in
    let is = rw c.from-device.ensures at c.index_mut.ensures.value in
    let fail = c.fail.ensures in
    rw c.from-device.ensures (fault_noted self.devices.items c.args.device device c.fail.new.self c.requires is c.args.moment fail.zones fail.faults fail.no_fewer fail.failures fail.lost)
