use Rattle.std.proofs.Common.{◌+◌, ◌≤◌}
use Rattle.set_writer.specs.Members.{is_member, FlushesBy}
use Rattle.set_writer.proofs.RoundLaws.{live_below}
use Rattle.set_writer.proofs.members.flush_all.Given as goal

abbrev pub invariant-loop-index : goal.invariant-loop-index
invariant-loop-index g l = record {
  flushed : FlushesBy (is_member l.index l.set) l.initial.table l.table (g.B.Bay.state l.initial.bay) (g.B.Bay.state l.bay);
  calls : (g.B.Bay.state l.bay).moment ≤ (g.B.Bay.state l.initial.bay).moment + live_below l.initial.table l.set l.index;
}
