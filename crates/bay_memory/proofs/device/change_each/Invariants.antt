use Rattle.std.proofs.Common.{◌≡◌, ℕ, ◌<◌, ◌≤◌, map}
use Rattle.bay_memory.specs.Past.{Goes, changed_by}
use Rattle.bay_memory.specs.Zone.{track_of}
use Rattle.bay_memory.specs.Device.{track_in}
use Rattle.bay_memory.proofs.device.change_each.Given as goal

-- the zones so far are changed, and the others as they were
abbrev pub invariant-loop-zone : goal.invariant-loop-zone
invariant-loop-zone l = record {
  changed : (z : ℕ) → z < l.zone-index → Goes l.moment (changed_by l.change) (track_in (map track_of l.initial.zones) z) (track_in (map track_of l.zones) z);
  rest : (z : ℕ) → l.zone-index ≤ z → track_in (map track_of l.zones) z ≡ track_in (map track_of l.initial.zones) z;
}
