use Rattle.std.proofs.Common.{◌<◌, length, get_or, set, ap, sym, ◌∙◌, arith}
use Rattle.std.proofs.lemmas.List.{get_or_default}
use Rattle.std.proofs.lemmas.List.Edits.{map_over_more}
use Rattle.set_digest.specs.Pool.{no_row, moved_up}
use Rattle.set_digest.proofs.PoolLaws.{none_behind}
use Rattle.set_digest.proofs.pool.move_up.Goals as goal

pub returns-then-from-lines : goal.returns-then-from-lines
returns-then-from-lines c = sym (none_behind c.args.rows.now c.args.lines.now c.args.from c.requires (omega (arith, c.if-from-lines.true)))

pub loop-row-preserved : goal.loop-row-preserved
loop-row-preserved c =
    let rows = c.loop-row.row-items in
    let at = c.loop-row.row-index in
    let row = get_or rows at no_row in
    let within : at < length rows = omega (arith, c.loop-row-test.true, c.loop-row.auto.row-items) in
    ap (set rows at) c.moved_up.ensures ∙ map_over_more (moved_up c.args.from) c.args.rows.now rows at row c.loop-row-test.true c.loop-row.invariant (get_or_default rows at no_row row within)
