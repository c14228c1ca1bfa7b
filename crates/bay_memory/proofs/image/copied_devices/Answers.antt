use Rattle.std.proofs.Common.{ℕ, List, length, map, ap, subst, arith}
use Rattle.bay_memory.specs.Array.{contents_in, firm_in}
use Rattle.bay_memory.specs.Views.{views_of}
use Rattle.bay_memory.specs.Device.{view_of}
use Rattle.bay_memory.specs.Keep.{left_by}
use Rattle.bay_memory.specs.Copies.{AreDeviceCopies}
use Rattle.bay_memory.proofs.Copies.{more_devices}
use Rattle.bay_memory.proofs.image.copied_devices.Goals as goal

pub loop-device-init : goal.loop-device-init
loop-device-init c = record {
  count = ap (λ (l : List _). length (map view_of l)) c.new-devices.ensures.items;
  each = λ d h. absurd (omega arith);
}

pub loop-device-preserved : goal.loop-device-preserved
loop-device-preserved c =
    let array = c.args.array.now in
    more_devices (left_by c.args.crash.now (contents_in (views_of array)) (firm_in (views_of array))) c.loop-device.device array.zones c.loop-device.devices.items c.push.new.self.items c.in_ok-copied_device.field-0 c.in_ok-push.ensures.items c.loop-device.invariant c.in_ok-copied_device.ensures

pub returns : goal.returns
returns c =
    let array = c.args.array.now in
    subst (λ (n : ℕ). AreDeviceCopies (left_by c.args.crash.now (contents_in (views_of array)) (firm_in (views_of array))) n array.zones (map view_of c.loop-device.devices.items)) (omega arith) c.loop-device.invariant
