use Rattle.std.proofs.Common.{arith}
use Rattle.bay_memory.specs.Past.{changed_by}
use Rattle.bay_memory.proofs.Zones.{more_changed, rest_left}
use Rattle.bay_memory.proofs.device.change_each.Goals as goal

pub loop-zone-preserved : goal.loop-zone-preserved
loop-zone-preserved c =
    let loop = c.loop-zone in
    let count = loop.auto.zones in
    record {
      changed = more_changed c.args.moment loop.zone-index (changed_by c.args.change) c.args.zones.now loop.zones c.zone-item.result c.change.new.self count (omega (arith, count)) c.zone-item.is loop.invariant.changed loop.invariant.rest c.change.ensures;
      rest = rest_left c.args.moment loop.zone-index (changed_by c.args.change) c.args.zones.now loop.zones c.zone-item.result c.change.new.self count (omega (arith, count)) c.zone-item.is loop.invariant.changed loop.invariant.rest c.change.ensures;
    }
