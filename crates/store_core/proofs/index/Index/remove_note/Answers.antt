use Rattle.store_core.proofs.IndexMaps.{by_name-removed}
use Rattle.store_core.proofs.index.Index.remove_note.Goals as goal

pub returns-clause-notes : goal.returns-clause-notes
returns-clause-notes c = by_name-removed (λ k. k.items) c.args.self.now.names.entries c.remove.new.self.entries c.args.name.now c.remove.ensures.updates.1 c.remove.ensures.updates.3
