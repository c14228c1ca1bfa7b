use Rattle.std.proofs.Common.{true}
use Rattle.bay_memory.proofs.Devices.{whole_kept, tracks_kept, failures_kept, lost_becomes}
use Rattle.bay_memory.proofs.array.Array.lose.Goals as goal

pub invariant_of-self : goal.invariant_of-self
invariant_of-self c =
    let self = c.args.self.now in
    let device = c.index_mut.result.now in
    let is = rw c.from-device.ensures at c.index_mut.ensures.value in
    record { small = self.small; whole = rw c.from-device.ensures (whole_kept self.zones self.blocks _ _ self.whole (tracks_kept self.devices.items c.args.device device c.lose.new.self c.requires is c.lose.ensures.zones)) }

pub returns-clause-zones : goal.returns-clause-zones
returns-clause-zones c =
    let self = c.args.self.now in
    let device = c.index_mut.result.now in
    let is = rw c.from-device.ensures at c.index_mut.ensures.value in
    rw c.from-device.ensures (tracks_kept self.devices.items c.args.device device c.lose.new.self c.requires is c.lose.ensures.zones)

pub returns-clause-failures : goal.returns-clause-failures
returns-clause-failures c =
    let self = c.args.self.now in
    let device = c.index_mut.result.now in
    let is = rw c.from-device.ensures at c.index_mut.ensures.value in
    rw c.from-device.ensures (failures_kept self.devices.items c.args.device device c.lose.new.self c.requires is c.lose.ensures.failures)

pub returns-clause-lost : goal.returns-clause-lost
returns-clause-lost c =
    let self = c.args.self.now in
    let device = c.index_mut.result.now in
    let is = rw c.from-device.ensures at c.index_mut.ensures.value in
    rw c.from-device.ensures (lost_becomes self.devices.items c.args.device device c.lose.new.self c.requires is true c.lose.ensures.lost)
