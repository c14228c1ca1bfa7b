use Rattle.std.proofs.Common.{sym, ◌∙◌}
use Rattle.store_core.proofs.IndexMaps.{get-by_name}
use Rattle.store_core.proofs.index.Index.note.Goals as goal

pub returns : goal.returns
returns c = c.copied.ensures ∙ c.get.ensures.value ∙ sym (get-by_name (λ k. k.items) c.args.self.now.names.entries c.args.name.now)
