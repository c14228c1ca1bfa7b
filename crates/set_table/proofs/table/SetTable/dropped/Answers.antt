use Rattle.std.proofs.Common.{ap, ◌∙◌}
use Rattle.set_table.specs.Table.{Table, Marked, marks_of, is_marked}
use Rattle.set_table.proofs.TableLaws.{marked_some, marked_none}
use Rattle.set_table.proofs.table.SetTable.dropped.Goals as goal

pub returns-in-Some : goal.returns-in-Some
returns-in-Some c =
    marked_some (λ (m : Marked). m.is_dropped) c.self.inside.rows.rows c.args.set c.in-Some.row.now c.in-Some.ensures
    ∙ ap (λ (t : Table). is_marked (λ m. m.is_dropped) (marks_of c.args.set t.sets)) c.self.view_is

pub returns-in-None : goal.returns-in-None
returns-in-None c =
    marked_none (λ (m : Marked). m.is_dropped) c.self.inside.rows.rows c.args.set c.in-None.ensures
    ∙ ap (λ (t : Table). is_marked (λ m. m.is_dropped) (marks_of c.args.set t.sets)) c.self.view_is
