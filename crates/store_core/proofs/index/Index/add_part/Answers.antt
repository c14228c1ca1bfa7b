use Rattle.std.proofs.Common.{cond, sym, ap, ◌∙◌}
use Rattle.std.specs.Prelude.{is_some}
use Rattle.std.specs.FinMap.{insert}
use Rattle.store_core.specs.Index.{PartKey, parts_in}
use Rattle.store_core.proofs.IndexMaps.{get-by_part, by_part-inserted}
use Rattle.store_core.proofs.index.Index.add_part.Goals as goal

pub returns-in_ok-insert-clause-added : goal.returns-in_ok-insert-clause-added
returns-in_ok-insert-clause-added c =
    let es = c.args.self.now.parts.entries in
    let key : PartKey = (c.args.upload, c.args.number) in
    let parts = parts_in c.args.self.now in
    by_part-inserted es c.insert.new.self.entries key c.args.part c.in_ok-insert.ensures.updates.0
    ∙ ap (λ b. cond b parts (insert parts key c.args.part)) (c.if-not-contains_key.ensures ∙ sym (ap is_some (get-by_part es key)))

pub returns-else-not-contains_key-clause-added : goal.returns-else-not-contains_key-clause-added
returns-else-not-contains_key-clause-added c =
    let es = c.args.self.now.parts.entries in
    let key : PartKey = (c.args.upload, c.args.number) in
    let parts = parts_in c.args.self.now in
    ap (λ b. cond b parts (insert parts key c.args.part)) (c.if-not-contains_key.ensures ∙ sym (ap is_some (get-by_part es key)))
