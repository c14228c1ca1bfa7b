use Rattle.std.proofs.Common.{ℕ, Vec, Global, sym, ◌∙◌}
use Rattle.store_core.proofs.IndexMaps.{get-by_name}
use Rattle.store_core.proofs.said.Said.stamp.Goals as goal

pub returns : goal.returns
returns c = c.copied.ensures ∙ c.get.ensures.value ∙ sym (get-by_name (λ (k : Vec ℕ Global). k.items) c.args.self.now.stamps.entries c.args.name.now)
