use Rattle.std.proofs.Common.{◌≡◌, ◌≢◌, ◌⊎◌, ◌+◌, ◌-◌, ◌≤◌, ◌<◌, ℕ, cond, length, map, set, is_some, IsSome, List, [], get_or, sym, ap, subst, ◌∙◌, arith}
use Rattle.std.proofs.lemmas.List.{get_or_default, length-set, get_or-set_same, get_or-set_other}
use Rattle.smore_base.specs.declared.limits.TheConstants.{MAX_FRAGMENTS}
use Rattle.set_table.specs.declared.zone_use.ZoneUse.{ZoneUse}
use Rattle.set_table.specs.declared.zone_use.ZoneUse.TheVariants.{Carrier}
use Rattle.set_table.specs.declared.rows.Row.{Row}
use Rattle.set_table.specs.Table.{Table, zones_of, use_at, put_use, nowhere, HasPlace, IsBare, without, IsTable, marks_of, marked, Puts}
use Rattle.set_table.proofs.TableLaws.{puts_marks}
use Rattle.set_table.proofs.UseLaws.{put_is, room_for, spare_left}
use Rattle.set_table.proofs.ForgetLaws.{length-without, shaped-without}
use Rattle.set_table.proofs.CarrierLaws.{table_carrier}
use Rattle.set_table.proofs.table.SetTable.put_carrier.Goals as goal
use Rattle.set_table.proofs.table.SetTable.put_carrier.Goals.{After-put-2}

pub put-requires : goal.put-requires
put-requires c = room_for c.self.inside.rows c.args.set c.row_or_new-row.result.set c.row_or_new-row.ensures.set (subst (λ (t : Table). IsSome (marks_of c.args.set t.sets) ⊎ (1 ≤ t.spare)) (sym c.self.view_is) c.requires.room)

pub put-requires-2 : goal.put-requires-2
put-requires-2 c =
    let zones = c.self.inside.drives.items in
    let d = c.args.place.device in
    let drive : d < length zones = omega (arith, subst (λ (t : Table). d < t.geometry.drives) (sym c.self.view_is) c.requires.zone.drive, c.self.invariant.drives) in
    let within : d < length (without c.args.set c.args.index zones) = omega (arith, drive, length-without c.args.set c.args.index zones) in
    let shaped = shaped-without c.args.set c.args.index zones c.self.inside.geometry.zones c.self.invariant.shaped d within in
    let found = c.index_mut.ensures.value ∙ ap (λ l. get_or l d c.index_mut.result.now) c.forget.ensures ∙ get_or_default (without c.args.set c.args.index zones) d c.index_mut.result.now [] within in
    omega (arith, ap length found, shaped.length_is, subst (λ (t : Table). c.args.place.zone < t.geometry.zones) (sym c.self.view_is) c.requires.zone.to)

-- the row that is put in
abbrev changed : After-put-2 → Row
changed c = record c.row_or_new-row.result { places = set c.row_or_new-row.result.places c.args.index c.args.place }

drive : (c : After-put-2) → c.args.place.device < length c.self.inside.drives.items
drive c = omega (arith, subst (λ (t : Table). c.args.place.device < t.geometry.drives) (sym c.self.view_is) c.requires.zone.drive, c.self.invariant.drives)

-- the zones that are left
abbrev left : After-put-2 → List (List ZoneUse)
left c = without c.args.set c.args.index c.self.inside.drives.items

zones_are : (c : After-put-2) → set c.forget.new.drives.items c.args.place.device c.put-2.new.self ≡ put_use c.args.place.device c.args.place.zone (Carrier c.args.set c.args.index) (left c)
zones_are c =
    let d = c.args.place.device in
    put_is c.forget.new.drives.items d c.args.place.zone (Carrier c.args.set c.args.index) c.index_mut.result.now c.put-2.new.self
    (omega (arith, drive c, ap length c.forget.ensures, length-without c.args.set c.args.index c.self.inside.drives.items)) c.index_mut.ensures.value c.put-2.ensures
    ∙ ap (put_use d c.args.place.zone (Carrier c.args.set c.args.index)) c.forget.ensures

pub invariant_of-self : goal.invariant_of-self
invariant_of-self c =
    let at = (goal.at.invariant_of-self c).After-put-2 in
    let inside = c.self.inside in
    let zones = inside.drives.items in
    let row = c.row_or_new-row.result in
    let d = c.args.place.device in
    let z = c.args.place.zone in
    let here = drive at in
    let named = c.row_or_new-row.ensures.set in
    let zone : z < length (zones_of zones d) = omega (arith, subst (λ (t : Table). z < t.geometry.zones) (sym c.self.view_is) c.requires.zone.to, (c.self.invariant.shaped d here).length_is) in
    let bare = subst (λ (t : Table). IsBare (use_at t.zones d z)) (sym c.self.view_is) c.requires.bare in
    let others : (i e y : ℕ) → i ≢ c.args.index → use_at zones e y ≡ Carrier row.set i → HasPlace (changed at) i e y = λ i e y other is.
    get_or-set_other row.places c.args.index i c.args.place nowhere other
    ∙ c.row_or_new-row.ensures.places i e y (subst (λ (t : Table). use_at t.zones e y ≡ Carrier c.args.set i) c.self.view_is (is ∙ ap (λ n. Carrier n i) named)) in
    let small : c.args.index < MAX_FRAGMENTS = omega (arith, c.self.invariant.within, subst (λ (t : Table). c.args.index < t.geometry.k + t.geometry.p) (sym c.self.view_is) c.requires.index) in
    let table = table_carrier inside.geometry inside.lost.items zones inside.rows.rows c.put.new.self.rows (changed at) d z c.args.index
    c.self.invariant here c.requires.zone.from zone bare small
    (length-set row.places c.args.index c.args.place ∙ c.row_or_new-row.ensures.length)
    (get_or-set_same row.places c.args.index c.args.place nowhere (omega (arith, small, c.row_or_new-row.ensures.length))) others c.put.ensures.rows in
    subst (λ l. IsTable inside.geometry inside.lost.items l c.put.new.self.rows) (sym (zones_are at))
    (subst (λ n. IsTable inside.geometry inside.lost.items (put_use d z (Carrier n c.args.index) (without n c.args.index zones)) c.put.new.self.rows) named table)

pub returns : goal.returns
returns c =
    let at = (goal.at.returns c).After-put-2 in
    let inside = c.self.inside in
    let rows = c.put.new.self.rows in
    let d = c.args.place.device in
    let z = c.args.place.zone in
    let u = Carrier c.args.set c.args.index in
    let now : List (List ZoneUse) → Table = λ l. record { geometry = inside.geometry; array = inside.array; lost = inside.lost.items; zones = l; sets = map marked rows; spare = c.put.new.self.capacity - length rows } in
    let new = now (set c.forget.new.drives.items d c.put-2.new.self) in
    record {
      zones = subst (λ (t : Table). new ≡ record new { geometry = t.geometry; array = t.array; lost = t.lost; zones = put_use d z u (without c.args.set c.args.index t.zones) }) c.self.view_is (ap now (zones_are at));
      sets = subst (λ m. Puts m c.args.self.now.sets (map marked rows)) c.row_or_new-row.ensures.marks
          (subst (λ (t : Table). Puts (marked c.row_or_new-row.result) t.sets (map marked rows)) c.self.view_is (puts_marks (changed at) inside.rows.rows rows c.put.ensures.rows));
      spare = subst (λ (t : Table). c.put.new.self.capacity - length rows ≡ t.spare - cond (is_some (marks_of c.args.set t.sets)) 0 1) c.self.view_is
          (spare_left inside.rows.rows c.args.set c.row_or_new-row.result.set c.put.new.self.capacity inside.rows.capacity (length rows) c.row_or_new-row.ensures.set c.put.ensures.capacity c.put.ensures.length);
    }
