use Rattle.std.proofs.Common.{map, ap, ◌∙◌}
use Rattle.std.specs.List.{remove}
use Rattle.set_digest.specs.Pool.{Pooled, listed_by}
use Rattle.set_digest.proofs.PoolLaws.{map-remove, remove-set}
use Rattle.set_digest.proofs.pool.Pool.take_row.Goals as goal

pub returns-clause-listed : goal.returns-clause-listed
returns-clause-listed c =
    let by = listed_by c.self.inside.lines.items in
    ap (map by) c.remove.ensures.items
    ∙ map-remove by c.self.inside.rows.items c.args.at
    ∙ ap (λ (p : Pooled). remove p.listed c.args.at) c.self.view_is
    ∙ ap (λ l. remove l c.args.at) c.cut_row.ensures.listed
    ∙ remove-set c.args.self.now.listed c.args.at _
