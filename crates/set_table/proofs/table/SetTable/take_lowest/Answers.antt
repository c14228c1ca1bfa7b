use Rattle.std.proofs.Common.{◌<◌, ◌∙◌, ℕ, length, sym, ap, subst, arith}
use Rattle.set_table.specs.declared.members.Member.{Member}
use Rattle.set_table.specs.Table.{Table, zones_of, use_at, IsDrive, IsSetZone}
use Rattle.set_table.proofs.UseLaws.{empty_is_bare}
use Rattle.set_table.proofs.FormLaws.{lowest_use, lowest_zone, zone_found}
use Rattle.set_table.proofs.table.SetTable.take_lowest.Goals as goal

pub put_carrier-requires-clause-zone : goal.put_carrier-requires-clause-zone
put_carrier-requires-clause-zone c =
    let t = c.args.self.now in
    let d = c.args.device in
    let drive : d < length c.self.inside.drives.items = omega (arith, subst (λ (t : Table). d < t.geometry.drives) (sym c.self.view_is) c.requires.drive, c.self.invariant.drives) in
    let shaped = subst (λ (t : Table). IsDrive t.geometry.zones (zones_of t.zones d)) c.self.view_is (c.self.invariant.shaped d drive) in
    let zone = zone_found t d c.requires.empty c.self.inside.drives.items c.index.result.now c.lowest_empty.result c.unwrap_or-zone.result drive (ap (λ (t : Table). t.zones) c.self.view_is) c.index.ensures c.lowest_empty.ensures c.unwrap_or-zone.ensures in
    subst (IsSetZone t.geometry d) (sym zone) (lowest_zone t d c.requires.empty shaped c.requires.drive)

pub put_carrier-requires-clause-bare : goal.put_carrier-requires-clause-bare
put_carrier-requires-clause-bare c = λ s i is.
    let t = c.args.self.now in
    let d = c.args.device in
    let drive : d < length c.self.inside.drives.items = omega (arith, subst (λ (t : Table). d < t.geometry.drives) (sym c.self.view_is) c.requires.drive, c.self.invariant.drives) in
    let zone = zone_found t d c.requires.empty c.self.inside.drives.items c.index.result.now c.lowest_empty.result c.unwrap_or-zone.result drive (ap (λ (t : Table). t.zones) c.self.view_is) c.index.ensures c.lowest_empty.ensures c.unwrap_or-zone.ensures in
    empty_is_bare s i (sym (ap (use_at t.zones d) zone ∙ lowest_use t d c.requires.empty) ∙ is)

pub returns-clause-member : goal.returns-clause-member
returns-clause-member c =
    let t = c.args.self.now in
    let d = c.args.device in
    let drive : d < length c.self.inside.drives.items = omega (arith, subst (λ (t : Table). d < t.geometry.drives) (sym c.self.view_is) c.requires.drive, c.self.invariant.drives) in
    let zone = zone_found t d c.requires.empty c.self.inside.drives.items c.index.result.now c.lowest_empty.result c.unwrap_or-zone.result drive (ap (λ (t : Table). t.zones) c.self.view_is) c.index.ensures c.lowest_empty.ensures c.unwrap_or-zone.ensures in
    let member : ℕ → Member = λ z. record { index = c.args.index; device = d; zone = z } in
    ap member zone
