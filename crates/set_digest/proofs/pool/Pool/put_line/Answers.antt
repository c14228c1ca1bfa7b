use Rattle.std.proofs.Common.{◌≡◌, ◌+◌, ◌<◌, ◌++◌, List, length, take, drop, map, set, cond, is_ok, true, ap, ◌∙◌, arith}
use Rattle.std.specs.List.{insert}
use Rattle.std.proofs.lemmas.List.{take_at, get_or_default, length-map}
use Rattle.set_digest.specs.declared.pool.Row.{Row}
use Rattle.set_digest.specs.Catalogue.{lengthened}
use Rattle.set_digest.specs.Pool.{Pooled, no_row, row_at, begin_of, listed_at, listed_by, moved_up}
use Rattle.set_digest.proofs.PoolLaws.{HasLine, has_line_as}
use Rattle.set_digest.proofs.pool.Pool.put_line.Goals as goal
use Rattle.set_digest.proofs.pool.Pool.put_line.Goals.{After-insert}

abbrev grown : After-insert → Row
grown c = record { set = c.index-row.result.now.set; start = c.begin-start.result; count = c.index-row.result.now.count + 1 }

abbrev moved : After-insert → List Row
moved c = take c.self.inside.rows.len (c.move_up.new.rows ++ drop (length c.move_up.new.rows) c.self.inside.rows.items)

has : (c : After-insert) → HasLine c.self.inside.rows.items c.self.inside.lines.items c.args.at c.args.line (set (moved c) c.args.at (grown c)) c.insert.new.self.items
has c =
    let rows = c.self.inside.rows.items in
    let lines = c.self.inside.lines.items in
    let within : c.args.at < length rows = omega (arith, c.requires.row, ap (λ (p : Pooled). length p.listed) c.self.view_is, length-map rows (listed_by lines)) in
    let room : c.self.inside.lines.len < c.self.inside.lines.cap = omega (arith, c.requires.room, ap (λ (p : Pooled). p.spare_lines) c.self.view_is, c.self.inside.lines.ok) in
    let ok : is_ok c.insert.result ≡ true = c.insert.ensures.succeeds room in
    let row_is : c.index-row.result.now ≡ row_at rows c.args.at = c.index-row.ensures ∙ get_or_default rows c.args.at c.index-row.result.now no_row within in
    let len_is = c.len.ensures ∙ c.self.inside.lines.ok.0 in
    let by = moved_up (c.begin-start.result + c.index-row.result.now.count) in
    let map_is : c.move_up.new.rows ≡ map by rows = c.move_up.ensures ∙ ap (map by) c.deref_mut.ensures.value in
    let long : length c.move_up.new.rows ≡ c.self.inside.rows.len = omega (arith, ap (λ (l : List Row). length l) map_is, length-map rows by, c.self.inside.rows.ok) in
    has_line_as rows lines c.args.at c.args.line c.self.invariant within c.index-row.result.now c.begin-start.result (moved c) c.insert.new.self.items row_is
    (c.begin-start.ensures ∙ ap (λ n. begin_of n c.index-row.result.now) len_is)
    (take_at c.move_up.new.rows (drop (length c.move_up.new.rows) rows) c.self.inside.rows.len long ∙ map_is)
    (c.insert.ensures.items ∙ ap (λ b. cond b (insert lines (c.begin-start.result + c.index-row.result.now.count) c.args.line) lines) ok)

pub invariant_of-self : goal.invariant_of-self
invariant_of-self c = (has c).keeps

pub returns-clause-listed : goal.returns-clause-listed
returns-clause-listed c =
    (has c).listed ∙ ap (λ (p : Pooled). set p.listed c.args.at (lengthened c.args.line (listed_at p.listed c.args.at))) c.self.view_is
