use Rattle.std.proofs.Common.{◌≡◌, ℕ, ◌<◌, true}
use Rattle.marker_format.specs.Marker.{is_well_formed}
use Rattle.set_writer.specs.Entry.{at_index}
use Rattle.set_rows.proofs.set_life.is_well_formed.Given as goal

abbrev pub invariant-loop-index : goal.invariant-loop-index
invariant-loop-index l = (i : ℕ) → i < l.index → is_well_formed (at_index i l.marker) ≡ true
