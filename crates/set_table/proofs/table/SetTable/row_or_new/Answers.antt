use Rattle.std.proofs.Common.{◌≡◌, length, option_map, IfSome, sym, ap, subst, ◌∙◌}
use Rattle.smore_base.specs.declared.limits.TheConstants.{MAX_FRAGMENTS}
use Rattle.set_table.specs.declared.zone_use.ZoneUse.TheVariants.{Carrier}
use Rattle.set_table.specs.declared.rows.Row.{Row}
use Rattle.set_table.specs.Table.{Table, use_at, marked, marks_of, or_unmarked}
use Rattle.set_table.proofs.TableLaws.{marks_row}
use Rattle.set_table.proofs.MarkLaws.{row_named}
use Rattle.set_table.proofs.UseLaws.{carried_by_none, carried_at}
use Rattle.set_table.proofs.table.SetTable.row_or_new.Goals as goal

pub returns-in-Some-clause-set : goal.returns-in-Some-clause-set
returns-in-Some-clause-set c = row_named c.self.inside.rows.rows c.args.set c.in-Some.row.now c.in-Some.ensures

pub returns-in-Some-clause-places : goal.returns-in-Some-clause-places
returns-in-Some-clause-places c = λ index d z is.
    let inside = c.self.inside in
    carried_at inside.geometry inside.lost.items inside.drives.items inside.rows.rows c.self.invariant c.args.set c.in-Some.row.now c.in-Some.ensures index d z (subst (λ (t : Table). use_at t.zones d z ≡ Carrier c.args.set index) (sym c.self.view_is) is)

pub returns-in-Some-clause-marks : goal.returns-in-Some-clause-marks
returns-in-Some-clause-marks c =
    ap (λ o. or_unmarked c.args.set (option_map marked o)) c.in-Some.ensures
    ∙ ap (or_unmarked c.args.set) (sym (marks_row c.self.inside.rows.rows c.args.set))
    ∙ ap (λ (t : Table). or_unmarked c.args.set (marks_of c.args.set t.sets)) c.self.view_is

pub returns-in-None-clause-set : goal.returns-in-None-clause-set
returns-in-None-clause-set c = ap (λ (r : Row). r.set) c.new.ensures

pub returns-in-None-clause-places : goal.returns-in-None-clause-places
returns-in-None-clause-places c = λ index d z is.
    let inside = c.self.inside in
    absurd (carried_by_none inside.geometry inside.lost.items inside.drives.items inside.rows.rows c.self.invariant c.args.set c.in-None.ensures index d z (subst (λ (t : Table). use_at t.zones d z ≡ Carrier c.args.set index) (sym c.self.view_is) is))

pub returns-in-None-clause-marks : goal.returns-in-None-clause-marks
returns-in-None-clause-marks c =
    ap marked c.new.ensures
    ∙ ap (λ o. or_unmarked c.args.set (option_map marked o)) c.in-None.ensures
    ∙ ap (or_unmarked c.args.set) (sym (marks_row c.self.inside.rows.rows c.args.set))
    ∙ ap (λ (t : Table). or_unmarked c.args.set (marks_of c.args.set t.sets)) c.self.view_is

pub returns-in-Some-clause-length : goal.returns-in-Some-clause-length
returns-in-Some-clause-length c = subst (λ o. IfSome o (λ r. length r.places ≡ MAX_FRAGMENTS)) (sym c.in-Some.ensures) (c.self.invariant.full c.args.set)
