use Rattle.std.proofs.Common.{◌+◌, ◌∙◌, min, map, sym, ap, arith}
use Rattle.std.specs.Prelude.{sum_by}
use Rattle.std.specs.List.{range_with_len}
use Rattle.set_table.specs.Table.{empty_on}
use Rattle.set_table.proofs.Counts.{sum_more}
use Rattle.set_table.proofs.table.SetTable.sum_to.Goals as goal

pub loop-device-preserved : goal.loop-device-preserved
loop-device-preserved c =
    let empty = empty_on c.args.self.now in
    let d = c.loop-device.device in
    record {
      sum_is = ap (λ k. k + c.min-sum.result) c.loop-device.invariant.sum_is ∙ ap (λ k. sum_by (min c.args.most) (map empty (range_with_len 0 d)) + k) (c.min-sum.ensures ∙ ap (min c.args.most) (c.from.ensures ∙ c.empty_zones.ensures)) ∙ sym (sum_more (min c.args.most) empty d);
      all = λ high other. omega (arith, sum_more (min other) empty d, c.loop-device.invariant.all high other, c.min-sum.ensures, c.from.ensures, c.empty_zones.ensures, high);
      few = omega (arith, c.loop-device.invariant.few, c.min-sum.ensures, c.from.ensures, c.empty_zones.type_inv);
    }
