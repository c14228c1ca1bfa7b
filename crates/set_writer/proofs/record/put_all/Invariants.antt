use Rattle.std.proofs.Common.{◌+◌, ◌<◌, ◌≤◌}
use Rattle.gf_field.specs.Field.{AreBytes}
use Rattle.set_writer.specs.Entry.{entry_bytes}
use Rattle.set_writer.specs.Body.{payload_of, entry_of}
use Rattle.set_writer.specs.Members.{of_members, SpreadsBy}
use Rattle.set_writer.proofs.RoundLaws.{live_below}
use Rattle.set_writer.proofs.record.put_all.Given as goal

abbrev pub invariant-loop-index : goal.invariant-loop-index
invariant-loop-index g l = record {
  bytes : 0 < l.index → AreBytes (payload_of l.item.body);
  spread : SpreadsBy (of_members l.index l.item.marker.now.set (entry_bytes l.code.k (entry_of l.item))) l.initial.table l.table (g.B.Bay.state l.initial.bay) (g.B.Bay.state l.bay);
  calls : (g.B.Bay.state l.bay).moment ≤ (g.B.Bay.state l.initial.bay).moment + live_below l.initial.table l.item.marker.now.set l.index;
}
