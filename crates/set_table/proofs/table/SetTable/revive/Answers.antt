use Rattle.std.proofs.Common.{◌≡◌, ◌-◌, ◌<◌, ◌≤◌, ℕ, false, length, map, List, [], set, refl, sym, ap, subst, ◌∙◌, arith}
use Rattle.std.proofs.lemmas.List.{length-set, get_or_default}
use Rattle.set_table.specs.declared.zone_use.ZoneUse.{ZoneUse}
use Rattle.set_table.specs.declared.zone_use.ZoneUse.TheVariants.{Carrier}
use Rattle.set_table.specs.Zones.{blank}
use Rattle.set_table.specs.Table.{Table, use_at, IsTable, Stays, KeepsCarried, marked}
use Rattle.set_table.proofs.StayLaws.{stays_none, cleared_had, cleared_shaped, table_stays, keeps_carried}
use Rattle.set_table.proofs.table.SetTable.revive.Goals as goal
use Rattle.set_table.proofs.table.SetTable.revive.Goals.{After-clear}

drive : (c : After-clear) → c.args.device < length c.self.inside.drives.items
drive c = omega (arith, subst (λ (t : Table). c.args.device ≤ t.geometry.drives) (sym c.self.view_is) c.requires, c.self.invariant.drives, c.if-device-self.false)

abbrev now : After-clear → List (List ZoneUse)
now c = set c.self.inside.drives.items c.args.device (blank c.self.inside.geometry.zones)

zones_are : (c : After-clear) → set c.self.inside.drives.items c.args.device c.clear.new.self ≡ now c
zones_are c = ap (set c.self.inside.drives.items c.args.device) (c.clear.ensures ∙ ap blank (ap length (c.index_mut-2.ensures.value ∙ get_or_default c.self.inside.drives.items c.args.device c.index_mut-2.result.now [] (drive c)) ∙ (c.self.invariant.shaped c.args.device (drive c)).length_is))

had : (c : After-clear) (e y s i : ℕ) → use_at (now c) e y ≡ Carrier s i → use_at c.self.inside.drives.items e y ≡ Carrier s i
had c = cleared_had c.self.inside.drives.items c.args.device c.self.inside.geometry.zones (drive c)

pub leave_all-requires-clause-places : goal.leave_all-requires-clause-places
leave_all-requires-clause-places c = λ d z s i is.
    let at = (goal.at.leave_all-requires-clause-places c).After-clear in
    c.self.invariant.places d z s i (had at d z s i (subst (λ l. use_at l d z ≡ Carrier s i) (c.deref.ensures.value ∙ zones_are at) is))

pub leave_all-requires-clause-indexes : goal.leave_all-requires-clause-indexes
leave_all-requires-clause-indexes c = λ d z s i is.
    let at = (goal.at.leave_all-requires-clause-indexes c).After-clear in
    c.self.invariant.indexes d z s i (had at d z s i (subst (λ l. use_at l d z ≡ Carrier s i) (c.deref.ensures.value ∙ zones_are at) is))

pub invariant_of-self-2 : goal.invariant_of-self-2
invariant_of-self-2 c =
    let at = (goal.at.invariant_of-self-2 c).After-clear in
    let inside = c.self.inside in
    let rows = c.leave_all.new.rows.rows in
    let lost = set inside.lost.items c.args.device false in
    let stays = subst (λ l. Stays l inside.rows.rows rows) (c.deref.ensures.value ∙ zones_are at) c.leave_all.ensures.rows in
    subst (λ l. IsTable inside.geometry lost l rows) (sym (zones_are at))
    (table_stays (now at) inside.rows.rows rows stays inside.geometry inside.lost.items lost inside.drives.items c.self.invariant (length-set inside.lost.items c.args.device false) (length-set inside.drives.items c.args.device (blank inside.geometry.zones))
    (cleared_shaped inside.drives.items c.args.device inside.geometry.zones (drive at) (omega (arith, c.self.invariant.within)) c.self.invariant.shaped) (had at))

pub returns-clause-drive : goal.returns-clause-drive
returns-clause-drive c = λ below.
    zones_are (goal.at.returns-clause-drive c).After-clear ∙ ap (λ (t : Table). set t.zones c.args.device (blank t.geometry.zones)) c.self.view_is

pub returns-clause-sets : goal.returns-clause-sets
returns-clause-sets c =
    let inside = c.self.inside in
    let rows = c.leave_all.new.rows.rows in
    let zones = set inside.drives.items c.args.device c.clear.new.self in
    let with : Table = record { geometry = inside.geometry; array = inside.array; lost = set inside.lost.items c.args.device false; zones = zones; sets = map marked rows; spare = c.leave_all.new.rows.capacity - length rows } in
    let stays = subst (λ l. Stays l inside.rows.rows rows) c.deref.ensures.value c.leave_all.ensures.rows in
    subst (λ (t : Table). KeepsCarried t with) c.self.view_is
    (keeps_carried _ with inside.rows.rows rows stays refl refl refl (omega (arith, c.leave_all.ensures.capacity, c.leave_all.ensures.length)))

pub returns-then-device-self-clause-sets : goal.returns-then-device-self-clause-sets
returns-then-device-self-clause-sets c =
    let inside = c.self.inside in
    let with : Table = record { geometry = inside.geometry; array = inside.array; lost = set inside.lost.items c.args.device false; zones = inside.drives.items; sets = map marked inside.rows.rows; spare = inside.rows.capacity - length inside.rows.rows } in
    subst (λ (t : Table). KeepsCarried t with) c.self.view_is
    (keeps_carried _ with inside.rows.rows inside.rows.rows (stays_none inside.drives.items inside.rows.rows c.self.invariant.carried) refl refl refl (omega arith))
