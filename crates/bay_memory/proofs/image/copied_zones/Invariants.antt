use Rattle.std.proofs.Common.{map}
use Rattle.bay_memory.specs.Array.{contents_in, firm_in}
use Rattle.bay_memory.specs.Views.{views_of}
use Rattle.bay_memory.specs.Zone.{track_of}
use Rattle.bay_memory.specs.Keep.{kept_with}
use Rattle.bay_memory.specs.Copies.{AreCopies}
use Rattle.bay_memory.proofs.image.copied_zones.Given as goal

-- the zones so far are copies
abbrev pub invariant-loop-zone : goal.invariant-loop-zone
invariant-loop-zone l = AreCopies (kept_with l.crash (contents_in (views_of l.array)) (firm_in (views_of l.array))) l.device l.zone (map track_of l.zones.items)
