use Rattle.std.proofs.Common.{◌<◌, length, get_or, set, ap, ◌∙◌, arith}
use Rattle.std.proofs.lemmas.List.{get_or_default}
use Rattle.std.proofs.lemmas.List.Edits.{map_over_more}
use Rattle.set_digest.specs.Pool.{no_row, moved_down}
use Rattle.set_digest.proofs.pool.move_down.Goals as goal

pub loop-row-preserved : goal.loop-row-preserved
loop-row-preserved c =
    let rows = c.loop-row.row-items in
    let at = c.loop-row.row-index in
    let row = get_or rows at no_row in
    let within : at < length rows = omega (arith, c.loop-row-test.true, c.loop-row.auto.row-items) in
    ap (set rows at) c.moved_down.ensures ∙ map_over_more (moved_down c.args.end c.args.count) c.args.rows.now rows at row c.loop-row-test.true c.loop-row.invariant (get_or_default rows at no_row row within)
