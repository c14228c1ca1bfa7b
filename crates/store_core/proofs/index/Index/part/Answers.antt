use Rattle.std.proofs.Common.{sym, ◌∙◌}
use Rattle.store_core.proofs.IndexMaps.{get-by_part}
use Rattle.store_core.proofs.index.Index.part.Goals as goal

pub returns : goal.returns
returns c = c.copied.ensures ∙ c.get.ensures.value ∙ sym (get-by_part c.args.self.now.parts.entries (c.args.upload, c.args.part))
