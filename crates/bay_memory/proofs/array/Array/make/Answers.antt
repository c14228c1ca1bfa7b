use Rattle.std.proofs.Common.{ℕ, ◌∙◌, arith, subst, sym}
use Rattle.bay_memory.specs.Operation.{call_of, ZoneIn}
use Rattle.bay_memory.proofs.Devices.{call_made, this_steady, whole_made, zones_counted}
use Rattle.bay_memory.proofs.array.Array.make.Goals as goal

pub make-requires-clause-zone_in : goal.make-requires-clause-zone_in
make-requires-clause-zone_in c =
    let self = c.args.self.now in
    let counted = zones_counted self.devices.items c.from-device.result c.index_mut.result.now c.index_mut.result.now (omega (arith, c.from-device.ensures, c.device.ensures, c.requires.within.device_in)) c.index_mut.ensures.value self.zones self.blocks self.whole in
    subst (λ (n : ℕ). ZoneIn (call_of c.args.operation) n) (sym counted) c.requires.within.zone_in

pub make-requires-clause-steady : goal.make-requires-clause-steady
make-requires-clause-steady c = this_steady c.args.self.now.devices.items c.from-device.result c.index_mut.result.now c.index_mut.result.now (omega (arith, c.from-device.ensures, c.device.ensures, c.requires.within.device_in)) c.index_mut.ensures.value c.args.moment c.requires.steady (call_of c.args.operation) (c.from-device.ensures ∙ c.device.ensures)

pub returns-clause-call : goal.returns-clause-call
returns-clause-call c = call_made c.args.self.now.devices.items c.from-device.result c.index_mut.result.now c.make.new.self (omega (arith, c.from-device.ensures, c.device.ensures, c.requires.within.device_in)) c.index_mut.ensures.value c.args.moment c.requires.steady (call_of c.args.operation) (c.from-device.ensures ∙ c.device.ensures) c.make.result c.make.ensures

pub invariant_of-self : goal.invariant_of-self
invariant_of-self c =
    let self = c.args.self.now in
    let call = call_of c.args.operation in
    record {
      small = self.small;
      whole = whole_made self.zones self.blocks c.args.moment call _ _ c.make.result self.whole c.requires.within.fits (call_made self.devices.items c.from-device.result c.index_mut.result.now c.make.new.self (omega (arith, c.from-device.ensures, c.device.ensures, c.requires.within.device_in)) c.index_mut.ensures.value c.args.moment c.requires.steady call (c.from-device.ensures ∙ c.device.ensures) c.make.result c.make.ensures);
    }
