use Rattle.std.proofs.Common.{arith}
use Rattle.array_scan.specs.SetRead.{array_by}
use Rattle.array_scan.proofs.AgreedLists.{agreed_more}
use Rattle.array_scan.proofs.read_sets.read_agreed.Goals as goal

pub loop-i-preserved : goal.loop-i-preserved
loop-i-preserved g c =
    let before = g.B.Bay.state c.args.bay.now in
    let mid = g.B.Bay.state c.loop-i.bay in
    let after = g.B.Bay.state c.read_zone-in-loop-i.new.bay in
    let zone = c.in_ok-zone.zone in
    agreed_more (array_by c.args.label.now) before mid after c.args.carriers.now _ c.loop-i.i c.loop-i.agreed.records.items zone.records.items c.shared-agreed.result.records.items c.loop-i.agreed.closed zone.closed c.shared-agreed.result.closed
    (omega arith) (omega arith) c.loop-i.invariant c.in_ok-zone.ensures.reads c.in_ok-zone.ensures.records c.in_ok-zone.ensures.foot c.shared-agreed.ensures.records c.shared-agreed.ensures.closed
