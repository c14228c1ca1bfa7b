use Rattle.std.proofs.Common.{map}
use Rattle.bay_memory.specs.Array.{contents_in, firm_in}
use Rattle.bay_memory.specs.Views.{views_of}
use Rattle.bay_memory.specs.Device.{view_of}
use Rattle.bay_memory.specs.Keep.{left_by}
use Rattle.bay_memory.specs.Copies.{AreDeviceCopies}
use Rattle.bay_memory.proofs.image.copied_devices.Given as goal

-- the devices so far are copies
abbrev pub invariant-loop-device : goal.invariant-loop-device
invariant-loop-device l = AreDeviceCopies (left_by l.crash (contents_in (views_of l.array)) (firm_in (views_of l.array))) l.device l.array.zones (map view_of l.devices.items)
