use Rattle.std.proofs.Common.{arith}
use Rattle.set_table.proofs.GroupLaws.{group_passed}
use Rattle.set_table.proofs.drive_zones.next_empty.Goals as goal

pub loop-zone-preserved-then-groups-group-eq0 : goal.loop-zone-preserved-then-groups-group-eq0
loop-zone-preserved-then-groups-group-eq0 c = omega (arith, c.loop-zone.invariant, c.loop-zone-test.true, group_passed c.args.uses.now c.args.groups.now c.loop-zone.zone c.requires.groups c.loop-zone-test.true c.if-groups-group-eq0.true)
