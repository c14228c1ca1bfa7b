use Rattle.std.proofs.Common.{◌≡◌, ◌+◌, ◌≤◌, ◌<◌, subst, arith}
use Rattle.set_table.specs.Table.{Table}
use Rattle.set_table.proofs.ChoiceLaws.{chosen_none, one_more, no_more, enough}
use Rattle.set_table.proofs.table.SetTable.choose.Goals as goal

pub loop-init : goal.loop-init
loop-init c = chosen_none c.args.self.now

pub returns-in_default : goal.returns-in_default
returns-in_default c =
    no_more c.args.self.now c.loop.chosen c.loop.counter c.loop.invariant (subst (λ (t : Table). t.geometry.drives ≤ 24) c.self.view_is c.self.invariant.within.drives_to)
    (subst (λ (t : Table). c.loop.counter < t.geometry.k + t.geometry.p) c.self.view_is c.loop-test.true) c.in_default.ensures

pub loop-preserved : goal.loop-preserved
loop-preserved c = one_more c.args.self.now c.loop.chosen c.loop.counter c.loop.invariant (subst (λ (t : Table). t.geometry.drives ≤ 24) c.self.view_is c.self.invariant.within.drives_to) c.in-Some.device c.in-Some.ensures

pub returns : goal.returns
returns c =
    enough c.args.self.now c.loop.chosen c.loop.counter c.loop.invariant (subst (λ (t : Table). t.geometry.drives ≤ 24) c.self.view_is c.self.invariant.within.drives_to)
    (subst (λ (t : Table). c.loop.counter ≡ t.geometry.k + t.geometry.p) c.self.view_is (omega (arith, c.loop-test.false)))
