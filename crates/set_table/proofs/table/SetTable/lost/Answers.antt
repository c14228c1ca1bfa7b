use Rattle.std.proofs.Common.{◌≡◌, ◌+◌, ◌-◌, ◌≤◌, length, sym, subst, arith}
use Rattle.set_table.specs.Table.{Table}
use Rattle.set_table.proofs.LostLaws.{one_at_most, lost_short}
use Rattle.set_table.proofs.table.SetTable.lost.Goals as goal

pub overflow_mul-bits : goal.overflow_mul-bits
overflow_mul-bits c =
    let devices = subst (λ (t : Table). length t.lost ≡ t.geometry.drives + 1) c.self.view_is c.self.invariant.devices in
    let drives = subst (λ (t : Table). t.geometry.drives ≤ 24) c.self.view_is c.self.invariant.within.drives_to in
    omega (arith, c.loop-count.invariant, lost_short c.args.self.now.lost (c.len-devices.result - c.loop-count.count) c.args.self.now.geometry.drives devices drives)

pub overflow_add-bits : goal.overflow_add-bits
overflow_add-bits c =
    let devices = subst (λ (t : Table). length t.lost ≡ t.geometry.drives + 1) c.self.view_is c.self.invariant.devices in
    let drives = subst (λ (t : Table). t.geometry.drives ≤ 24) c.self.view_is c.self.invariant.within.drives_to in
    let one = subst (λ n. n ≤ 1) (sym c.from.ensures) (one_at_most c.index.result.now) in
    omega (arith, c.loop-count.invariant, lost_short c.args.self.now.lost (c.len-devices.result - c.loop-count.count) c.args.self.now.geometry.drives devices drives, one)
