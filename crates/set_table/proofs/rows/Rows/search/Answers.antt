use Rattle.std.proofs.Common.{rules}
use Rattle.std.proofs.lemmas.List.Sorted.{answers_always}
use Rattle.set_table.specs.declared.rows.Row.{Row}
use Rattle.set_table.proofs.RowLaws.{searched}
use Rattle.set_table.proofs.rows.Rows.search.Goals as goal

pub returns-clause-found : goal.returns-clause-found
returns-clause-found c =
    let facts = c.binary_search_by_key.ensures in
    let by_key = facts.position (λ (row : Row). row.set) (answers_always _ _ _ (λ f a r g called. search rules)) in
    let known = searched _ (rw c.deref.ensures.value c.self.invariant) c.args.set _ facts.bound by_key in
    rw (← c.self.view_is, ← c.deref.ensures.value) known.found

pub returns-clause-absent : goal.returns-clause-absent
returns-clause-absent c =
    let facts = c.binary_search_by_key.ensures in
    let by_key = facts.position (λ (row : Row). row.set) (answers_always _ _ _ (λ f a r g called. search rules)) in
    let known = searched _ (rw c.deref.ensures.value c.self.invariant) c.args.set _ facts.bound by_key in
    rw (← c.self.view_is, ← c.deref.ensures.value) known.absent

pub returns-clause-rising : goal.returns-clause-rising
returns-clause-rising c = rw (← c.self.view_is) c.self.invariant
