use Rattle.std.proofs.Common.{◌≡◌, ◌<◌, List, length, map, is_ok, true, cond, ap, ◌∙◌, arith}
use Rattle.std.specs.List.{insert}
use Rattle.std.proofs.lemmas.List.Edits.{length-insert}
use Rattle.set_digest.specs.declared.line.Line.{Line}
use Rattle.set_digest.specs.declared.pool.Row.{Row}
use Rattle.set_digest.specs.Catalogue.{begun_by}
use Rattle.set_digest.specs.Pool.{Pooled, listed_by}
use Rattle.set_digest.proofs.PoolLaws.{listed_more}
use Rattle.set_digest.proofs.pool.Pool.put_row.Goals as goal
use Rattle.set_digest.proofs.pool.Pool.put_row.Goals.{After-insert-2}

-- both had room
record Inserted (c : After-insert-2) : Type 0 where
  start : c.len-start.result ≡ length c.self.inside.lines.items
  rows_room : c.self.inside.rows.len < c.self.inside.rows.cap
  rows : c.insert.new.self.items ≡ insert c.self.inside.rows.items c.args.at (record { set = c.args.set; start = c.len-start.result; count = 1 })
  lines_room : c.self.inside.lines.len < c.self.inside.lines.cap
  lines : c.insert-2.new.self.items ≡ insert c.self.inside.lines.items c.len-start.result c.args.line

inserted : (c : After-insert-2) → Inserted c
inserted c =
    let row : Row = record { set = c.args.set; start = c.len-start.result; count = 1 } in
    let rows_room : c.self.inside.rows.len < c.self.inside.rows.cap = omega (arith, c.requires.room, ap (λ (p : Pooled). p.spare_rows) c.self.view_is, c.self.inside.rows.ok) in
    let lines_room : c.self.inside.lines.len < c.self.inside.lines.cap = omega (arith, c.requires.line_room, ap (λ (p : Pooled). p.spare_lines) c.self.view_is, c.self.inside.lines.ok) in
    let rows_ok : is_ok c.insert.result ≡ true = c.insert.ensures.succeeds rows_room in
    let lines_ok : is_ok c.insert-2.result ≡ true = c.insert-2.ensures.succeeds lines_room in
    record {
      start = c.len-start.ensures ∙ c.self.inside.lines.ok.0;
      rows_room = rows_room;
      rows = c.insert.ensures.items ∙ ap (λ b. cond b (insert c.self.inside.rows.items c.args.at row) c.self.inside.rows.items) rows_ok;
      lines_room = lines_room;
      lines = c.insert-2.ensures.items ∙ ap (λ b. cond b (insert c.self.inside.lines.items c.len-start.result c.args.line) c.self.inside.lines.items) lines_ok;
    }

pub returns-clause-listed : goal.returns-clause-listed
returns-clause-listed c =
    let it = inserted c in
    let lines = c.self.inside.lines.items in
    let rows = c.self.inside.rows.items in
    (λ i. map (listed_by (it.lines i)) (it.rows i))
    ∙ ap (λ n. map (listed_by (insert lines n c.args.line)) (insert rows c.args.at (record { set = c.args.set; start = n; count = 1 }))) it.start
    ∙ listed_more lines c.args.line rows c.args.at c.args.set c.self.invariant
    ∙ ap (λ (p : Pooled). insert p.listed c.args.at (begun_by c.args.set c.args.line)) c.self.view_is

pub returns-clause-lines : goal.returns-clause-lines
returns-clause-lines c =
    let it = inserted c in
    let lines = c.self.inside.lines.items in
    let long = ap (λ (l : List Line). length l) it.lines ∙ length-insert lines c.len-start.result c.args.line (omega (arith, it.start)) in
    omega (arith, it.lines_room, long, (c.insert-2.ensures.in_place it.lines_room).1.0, ap (λ (p : Pooled). p.spare_lines) c.self.view_is, c.self.inside.lines.ok)
