use Rattle.std.proofs.Common.{◌≡◌, ℕ, List, Some, Vec, Global, sym, ap, subst, ◌∙◌}
use Rattle.std.specs.Ordering.{eq_by_cmp}
use Rattle.std.specs.Map.{lookup, KeepsOthers}
use Rattle.std.specs.BTreeMap.{is_at}
use Rattle.store_core.proofs.IndexMaps.{at, keys_cmp, get-by_name, by_name-inserted}
use Rattle.store_core.proofs.index.Index.set_note.Goals as goal

abbrev items : Vec ℕ Global → List ℕ
items k = k.items

pub returns-clause-old : goal.returns-clause-old
returns-clause-old c =
    let es = c.args.self.now.names.entries in
    c.in_ok-insert.ensures.old ∙ ap (λ (l : List ℕ). lookup (is_at (at items l)) es) c.in_ok-name.ensures.items ∙ sym (get-by_name items es c.args.name.now)

pub returns-clause-notes : goal.returns-clause-notes
returns-clause-notes c =
    let updates = c.in_ok-insert.ensures.updates in
    let es = c.args.self.now.names.entries in
    let new = c.insert.new.self.entries in
    by_name-inserted items es new c.args.name.now c.args.note
    (subst (λ (l : List ℕ). lookup (is_at (at items l)) new ≡ Some c.args.note) c.in_ok-name.ensures.items updates.1)
    (subst (λ (l : List ℕ). KeepsOthers (eq_by_cmp (keys_cmp items)) (is_at (at items l)) es new) c.in_ok-name.ensures.items updates.3)
