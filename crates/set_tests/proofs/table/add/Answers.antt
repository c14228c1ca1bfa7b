use Rattle.std.proofs.Common.{◌≡◌, ap, ◌∙◌}
use Rattle.set_table.specs.declared.zone_use.ZoneUse.TheVariants.{Taken}
use Rattle.set_table.specs.Table.{Table, use_at}
use Rattle.set_tests.proofs.LowestZones.{lowest_is_taken}
use Rattle.set_tests.proofs.table.add.Goals as goal

pub add_carrier-requires-clause-taken : goal.add_carrier-requires-clause-taken
add_carrier-requires-clause-taken c =
    ap (λ (t : Table). use_at t.zones c.args.device c.in-Some.zone) c.take_zone.ensures
    ∙ lowest_is_taken c.reserve.new.self c.args.device c.in-Some.zone c.lowest_empty.result c.lowest_empty.ensures.live c.lowest_empty.ensures.lost c.in-Some.is
