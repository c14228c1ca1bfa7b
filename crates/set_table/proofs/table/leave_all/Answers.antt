use Rattle.std.proofs.Common.{◌∙◌, arith}
use Rattle.set_table.proofs.StayLaws.{stays_first, stays_next, stays_last}
use Rattle.set_table.proofs.table.leave_all.Goals as goal

pub loop-next-init : goal.loop-next-init
loop-next-init c = record {
  stays = stays_first c.args.drives.now c.args.rows.now.rows c.leave.new.rows.rows c.leave.ensures.rows;
  capacity = c.leave.ensures.capacity;
  length_is = c.leave.ensures.length;
}

pub loop-next-preserved : goal.loop-next-preserved
loop-next-preserved c = record {
  stays = stays_next c.args.drives.now c.loop-next.set c.in-Some.next c.args.rows.now.rows c.loop-next.rows.rows c.leave-in-Some.new.rows.rows c.loop-next.invariant.stays c.in-Some.ensures c.leave-in-Some.ensures.rows;
  capacity = c.leave-in-Some.ensures.capacity ∙ c.loop-next.invariant.capacity;
  length_is = omega (arith, c.leave-in-Some.ensures.length, c.loop-next.invariant.length_is);
}

pub returns-clause-rows : goal.returns-clause-rows
returns-clause-rows c = stays_last c.args.drives.now c.loop-next.set c.args.rows.now.rows c.loop-next.rows.rows c.loop-next.invariant.stays c.in_default.ensures
