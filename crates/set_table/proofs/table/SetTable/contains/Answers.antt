use Rattle.std.proofs.Common.{IsSome, option_map, refl, sym, ap, subst, ◌∙◌}
use Rattle.set_table.specs.Table.{Table, marks_of, marked}
use Rattle.set_table.proofs.TableLaws.{marks_row, some_marks}
use Rattle.set_table.proofs.table.SetTable.contains.Goals as goal

pub returns-in-Some-clause-there : goal.returns-in-Some-clause-there
returns-in-Some-clause-there c = λ e. subst (λ (t : Table). IsSome (marks_of c.args.set t.sets)) c.self.view_is (some_marks c.self.inside.rows.rows c.args.set (subst IsSome c.in-Some.ensures refl))

pub returns-in-None-clause-absent : goal.returns-in-None-clause-absent
returns-in-None-clause-absent c = λ e. sym (ap (λ (t : Table). marks_of c.args.set t.sets) c.self.view_is) ∙ marks_row c.self.inside.rows.rows c.args.set ∙ sym (ap (option_map marked) c.in-None.ensures)
