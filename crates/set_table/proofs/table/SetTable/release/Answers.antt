use Rattle.std.proofs.Common.{◌≡◌, ◌-◌, ◌<◌, ◌≤◌, ℕ, length, map, List, set, refl, sym, ap, subst, ◌∙◌, arith}
use Rattle.set_table.specs.declared.zone_use.ZoneUse.{ZoneUse}
use Rattle.set_table.specs.declared.zone_use.ZoneUse.TheVariants.{Empty, Carrier}
use Rattle.set_table.specs.declared.rows.Row.{Row}
use Rattle.set_table.specs.Table.{Table, zones_of, use_at, put_use, IsBare, IsTable, Leaves, Stays, KeepsCarried, marked}
use Rattle.set_table.proofs.TableLaws.{length-put, shaped-put}
use Rattle.set_table.proofs.UseLaws.{empty_is_bare, put_is, had_carrier}
use Rattle.set_table.proofs.StayLaws.{stays_one, stays_none, others_carried, all_carried, table_stays, keeps_carried}
use Rattle.set_table.proofs.table.SetTable.release.Goals as goal
use Rattle.set_table.proofs.table.SetTable.release.Goals.{After-put}

drive : (c : After-put) → c.args.device < length c.self.inside.drives.items
drive c = omega (arith, subst (λ (t : Table). c.args.device < t.geometry.drives) (sym c.self.view_is) c.requires.zone.drive, c.self.invariant.drives)

zone : (c : After-put) → c.args.zone < length (zones_of c.self.inside.drives.items c.args.device)
zone c = omega (arith, subst (λ (t : Table). c.args.zone < t.geometry.zones) (sym c.self.view_is) c.requires.zone.to, (c.self.invariant.shaped c.args.device (drive c)).length_is)

abbrev now : After-put → List (List ZoneUse)
now c = put_use c.args.device c.args.zone Empty c.self.inside.drives.items

zones_are : (c : After-put) → set c.self.inside.drives.items c.args.device c.put.new.self ≡ now c
zones_are c = put_is c.self.inside.drives.items c.args.device c.args.zone Empty c.index_mut.result.now c.put.new.self (drive c) c.index_mut.ensures.value c.put.ensures

had : (c : After-put) (e y s i : ℕ) → use_at (now c) e y ≡ Carrier s i → use_at c.self.inside.drives.items e y ≡ Carrier s i
had c = had_carrier c.self.inside.drives.items c.args.device c.args.zone Empty (drive c) (zone c) empty_is_bare

abbrev table : After-put → List Row → Type 0
table c rows = IsTable c.self.inside.geometry c.self.inside.lost.items (now c) rows

left : (c : After-put) (rows : List Row) → Stays (now c) c.self.inside.rows.rows rows → table c rows
left c rows stays =
    let inside = c.self.inside in
    table_stays (now c) inside.rows.rows rows stays inside.geometry inside.lost.items inside.lost.items inside.drives.items c.self.invariant refl (length-put inside.drives.items c.args.device c.args.zone Empty)
    (shaped-put inside.drives.items c.args.device c.args.zone Empty inside.geometry.zones c.requires.zone.from c.self.invariant.shaped) (had c)

-- the table with these rows, for so many sets more
abbrev with : After-put → List Row → ℕ → Table
with c rows spare = record { geometry = c.self.inside.geometry; array = c.self.inside.array; lost = c.self.inside.lost.items; zones = set c.self.inside.drives.items c.args.device c.put.new.self; sets = map marked rows; spare = spare }

kept : (c : After-put) (rows : List Row) (spare : ℕ) → c.self.inside.rows.capacity - length c.self.inside.rows.rows ≤ spare → Stays (now c) c.self.inside.rows.rows rows → KeepsCarried c.args.self.now (with c rows spare)
kept c rows spare more stays = subst (λ (t : Table). KeepsCarried t (with c rows spare)) c.self.view_is
    (keeps_carried _ (with c rows spare) c.self.inside.rows.rows rows (subst (λ l. Stays l c.self.inside.rows.rows rows) (sym (zones_are c)) stays) refl refl refl more)

bare_stays : (c : After-put) → IsBare (use_at c.self.inside.drives.items c.args.device c.args.zone) → Stays (now c) c.self.inside.rows.rows c.self.inside.rows.rows
bare_stays c bare = stays_none (now c) c.self.inside.rows.rows (all_carried c.self.inside.geometry c.self.inside.lost.items c.self.inside.drives.items c.self.inside.rows.rows c.self.invariant c.args.device c.args.zone (drive c) (zone c) bare)

was_is : (c : After-put) → c.use_of-was.result ≡ use_at c.self.inside.drives.items c.args.device c.args.zone
was_is c = c.use_of-was.ensures ∙ sym (ap (λ (t : Table). use_at t.zones c.args.device c.args.zone) c.self.view_is)

one_stays : (c : After-put) (s i : ℕ) (rows : List Row) → c.use_of-was.result ≡ Carrier s i → Leaves (now c) s c.self.inside.rows.rows rows → Stays (now c) c.self.inside.rows.rows rows
one_stays c s i rows is leaves = stays_one (now c) s c.self.inside.rows.rows rows leaves
    (others_carried c.self.inside.geometry c.self.inside.lost.items c.self.inside.drives.items c.self.inside.rows.rows c.self.invariant c.args.device c.args.zone (drive c) (zone c) s i (sym (was_is c) ∙ is))

pub invariant_of-self : goal.invariant_of-self
invariant_of-self c =
    let at = (goal.at.invariant_of-self c).After-put in
    subst (λ l. IsTable c.self.inside.geometry c.self.inside.lost.items l c.self.inside.rows.rows) (sym (zones_are at))
    (left at c.self.inside.rows.rows (bare_stays at (λ s i is. c.in_default.not-Carrier s i (was_is at ∙ is))))

zones_seen : (c : After-put) → set c.self.inside.drives.items c.args.device c.put.new.self ≡ put_use c.args.device c.args.zone Empty c.args.self.now.zones
zones_seen c = zones_are c ∙ ap (λ (t : Table). put_use c.args.device c.args.zone Empty t.zones) c.self.view_is

pub returns-in_default : goal.returns-in_default
returns-in_default c =
    let at = (goal.at.returns-in_default c).After-put in
    record {
      zones = zones_seen at;
      lost = ap (λ (t : Table). t.lost) c.self.view_is;
      sets = kept at c.self.inside.rows.rows (c.self.inside.rows.capacity - length c.self.inside.rows.rows) (omega arith) (bare_stays at (λ s i is. c.in_default.not-Carrier s i (was_is at ∙ is)));
    }

pub invariant_of-self-2 : goal.invariant_of-self-2
invariant_of-self-2 c =
    let at = (goal.at.invariant_of-self-2 c).After-put in
    let rows = c.leave.new.rows.rows in
    let leaves = subst (λ l. Leaves l c.in-Carrier.set c.self.inside.rows.rows rows) (c.deref.ensures.value ∙ zones_are at) c.leave.ensures.rows in
    subst (λ l. IsTable c.self.inside.geometry c.self.inside.lost.items l rows) (sym (zones_are at)) (left at rows (one_stays at c.in-Carrier.set c.in-Carrier.index rows c.in-Carrier.is leaves))

pub returns-clause-sets : goal.returns-clause-sets
returns-clause-sets c =
    let at = (goal.at.returns-clause-sets c).After-put in
    let rows = c.leave.new.rows.rows in
    let leaves = subst (λ l. Leaves l c.in-Carrier.set c.self.inside.rows.rows rows) (c.deref.ensures.value ∙ zones_are at) c.leave.ensures.rows in
    kept at rows (c.leave.new.rows.capacity - length rows) (omega (arith, c.leave.ensures.capacity, c.leave.ensures.length)) (one_stays at c.in-Carrier.set c.in-Carrier.index rows c.in-Carrier.is leaves)
