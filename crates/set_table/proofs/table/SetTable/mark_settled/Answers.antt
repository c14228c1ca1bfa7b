use Rattle.std.proofs.Common.{◌≡◌, ◌-◌, ℕ, true, length, map, Some, inl, is_some, refl, sym, ap, subst}
use Rattle.set_table.specs.Table.{Table, Marked, marks_of, Changes, marked}
use Rattle.set_table.proofs.MarkLaws.{row_named, row_found, none_marked, table_marked, changes_marks, spare_stays}
use Rattle.set_table.proofs.table.SetTable.mark_settled.Goals as goal

pub put-requires : goal.put-requires
put-requires c = inl (sym (ap is_some (row_found c.self.inside.rows.rows c.args.set c.in-Some.row.now c.in-Some.ensures)))

pub invariant_of-self : goal.invariant_of-self
invariant_of-self c =
    let row = c.in-Some.row.now in
    let old = c.self.inside.rows.rows in
    table_marked old c.put.new.self.rows row (record row { is_settled = true }) (row_found old c.args.set row c.in-Some.ensures) c.put.ensures.rows c.self.inside.geometry c.self.inside.lost.items c.self.inside.drives.items refl c.self.invariant

pub returns-in-Some-clause-sets : goal.returns-in-Some-clause-sets
returns-in-Some-clause-sets c =
    let row = c.in-Some.row.now in
    let old = c.self.inside.rows.rows in
    let change = λ (m : Marked). record m { is_settled = true } in
    let is = changes_marks old c.put.new.self.rows row (record row { is_settled = true }) (row_found old c.args.set row c.in-Some.ensures) c.put.ensures.rows change refl in
    subst (λ (t : Table). Changes change c.args.set t.sets (map marked c.put.new.self.rows)) c.self.view_is
    (subst (λ n. Changes change n (map marked old) (map marked c.put.new.self.rows)) (row_named old c.args.set row c.in-Some.ensures) is)

pub returns-in-Some-clause-others : goal.returns-in-Some-clause-others
returns-in-Some-clause-others c =
    let row = c.in-Some.row.now in
    let old = c.self.inside.rows.rows in
    let rows = c.put.new.self.rows in
    let same = spare_stays old rows row (record row { is_settled = true }) (row_found old c.args.set row c.in-Some.ensures) c.put.ensures.rows c.put.new.self.capacity c.self.inside.rows.capacity c.put.ensures.capacity c.put.ensures.length in
    let now : ℕ → Table = λ n. record { geometry = c.self.inside.geometry; array = c.self.inside.array; lost = c.self.inside.lost.items; zones = c.self.inside.drives.items; sets = map marked rows; spare = n } in
    subst (λ (t : Table). now (c.put.new.self.capacity - length rows) ≡ record t { sets = map marked rows }) c.self.view_is (ap now same)

pub returns-in_default-clause-sets : goal.returns-in_default-clause-sets
returns-in_default-clause-sets c = λ m had.
    absurd (none_marked c.self.inside.rows.rows c.args.set c.in_default.ensures m (subst (λ (t : Table). marks_of c.args.set t.sets ≡ Some m) (sym c.self.view_is) had))
