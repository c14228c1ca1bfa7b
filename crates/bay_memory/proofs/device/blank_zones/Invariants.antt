use Rattle.std.proofs.Common.{◌≡◌, map, replicate}
use Rattle.bay_memory.specs.Past.{blank_track}
use Rattle.bay_memory.specs.Zone.{track_of}
use Rattle.bay_memory.proofs.device.blank_zones.Given as goal

abbrev pub invariant-loop-zone : goal.invariant-loop-zone
invariant-loop-zone l = map track_of l.blank.items ≡ replicate l._zone blank_track
