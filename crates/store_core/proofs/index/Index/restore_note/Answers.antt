use Rattle.std.proofs.Common.{◌≡◌, ℕ, true, List, Some, None, Vec, Global, sym, ap, ◌∙◌}
use Rattle.std.proofs.Common.{Option, MutBor}
use Rattle.std.specs.Prelude.{is_some}
use Rattle.std.specs.Option.{option_copied_mut}
use Rattle.store_core.specs.Index.{with_note, notes_in}
use Rattle.store_core.proofs.IndexMaps.{get-by_name, by_name-inserted}
use Rattle.store_core.proofs.index.Index.restore_note.Goals as goal

abbrev items : Vec ℕ Global → List ℕ
items k = k.items

pub returns-in-Some-get_mut-clause-notes : goal.returns-in-Some-get_mut-clause-notes
returns-in-Some-get_mut-clause-notes c =
    let es = c.args.self.now.names.entries in
    let there = ap is_some (sym (get-by_name items es c.args.name.now)) ∙ c.requires in
    let updates = (c.get_mut.follows.holds c.in-Some.note).3 there in
    by_name-inserted items es (c.get_mut.follows.lender c.in-Some.note).entries c.args.name.now c.in-Some.note updates.1 updates.3
    ∙ ap (λ o. with_note c.args.name.now o (notes_in c.args.self.now)) (sym c.in-Some.is)

not_found : {A : Type 0} (r : Option (MutBor A)) (o : Option A) → r ≡ None → option_copied_mut r ≡ o → is_some o ≡ true → ⊥
not_found None o is value there = absurd cc
not_found (Some x) o is value there = absurd cc

pub returns-in_default-clause-notes : goal.returns-in_default-clause-notes
returns-in_default-clause-notes c =
    let es = c.args.self.now.names.entries in
    let there = ap is_some (sym (get-by_name items es c.args.name.now)) ∙ c.requires in
    absurd (not_found (c.get_mut.result) _ c.in_default.is c.get_mut.ensures.value there)
