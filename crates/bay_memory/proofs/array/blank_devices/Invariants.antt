use Rattle.std.proofs.Common.{◌≡◌, map, replicate}
use Rattle.bay_memory.specs.Past.{blank_track}
use Rattle.bay_memory.specs.Device.{view_of, view_with}
use Rattle.bay_memory.proofs.array.blank_devices.Given as goal

abbrev pub invariant-loop-device : goal.invariant-loop-device
invariant-loop-device l = map view_of l.blank.items ≡ replicate l._device (view_with (replicate l.zones blank_track))
