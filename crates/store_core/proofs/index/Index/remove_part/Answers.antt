use Rattle.store_core.proofs.IndexMaps.{by_part-removed}
use Rattle.store_core.proofs.index.Index.remove_part.Goals as goal

pub returns-clause-parts : goal.returns-clause-parts
returns-clause-parts c = by_part-removed c.args.self.now.parts.entries c.remove.new.self.entries (c.args.upload, c.args.number) c.remove.ensures.updates.0
