use Rattle.std.proofs.Common.{◌+◌, ◌≤◌}
use Rattle.set_writer.specs.Members.{of_members, SpreadsBy}
use Rattle.marker_format.specs.Block.{foot_block}
use Rattle.set_writer.proofs.RoundLaws.{live_below}
use Rattle.set_writer.proofs.close.put_feet.Given as goal

abbrev pub invariant-loop-index : goal.invariant-loop-index
invariant-loop-index g l = record {
  spread : SpreadsBy (of_members l.index l.foot.set (λ index. foot_block (record l.foot { index = index }))) l.initial.table l.table (g.B.Bay.state l.initial.bay) (g.B.Bay.state l.bay);
  calls : (g.B.Bay.state l.bay).moment ≤ (g.B.Bay.state l.initial.bay).moment + live_below l.initial.table l.foot.set l.index;
}
