use Rattle.std.proofs.Common.{◌<◌, length, sym, ap, subst, ◌∙◌, arith}
use Rattle.set_table.specs.declared.zone_use.ZoneUse.TheVariants.{Taken}
use Rattle.set_table.specs.Zones.{is_empty}
use Rattle.set_table.specs.Table.{Table, zones_of, use_at, IsTable}
use Rattle.set_table.proofs.UseLaws.{taken_is_bare, bare_where_empty, put_is, table_bare}
use Rattle.set_table.proofs.table.SetTable.take_zone.Goals as goal

pub invariant_of-self : goal.invariant_of-self
invariant_of-self c =
    let zones = c.self.inside.drives.items in
    let drive : c.args.device < length zones = omega (arith, subst (λ (t : Table). c.args.device < t.geometry.drives) (sym c.self.view_is) c.requires.zone.drive, c.self.invariant.drives) in
    let zone : c.args.zone < length (zones_of zones c.args.device) = omega (arith, subst (λ (t : Table). c.args.zone < t.geometry.zones) (sym c.self.view_is) c.requires.zone.to, (c.self.invariant.shaped c.args.device drive).length_is) in
    let bare = bare_where_empty (use_at zones c.args.device c.args.zone) (ap is_empty (ap (λ (t : Table). use_at t.zones c.args.device c.args.zone) c.self.view_is ∙ sym c.use_of.ensures) ∙ sym c.is_empty.ensures ∙ c.if-not-is_empty.false) in
    subst (λ l. IsTable c.self.inside.geometry c.self.inside.lost.items l c.self.inside.rows.rows) (sym (put_is zones c.args.device c.args.zone Taken c.index_mut.result.now c.put.new.self drive c.index_mut.ensures.value c.put.ensures))
    (table_bare c.self.inside.geometry c.self.inside.lost.items zones c.self.inside.rows.rows c.args.device c.args.zone Taken c.self.invariant drive c.requires.zone.from zone bare taken_is_bare)
