use Rattle.std.proofs.Common.{◌≡◌, ◌-◌, ◌<◌, ◌++◌, List, length, take, drop, map, set, ap, ◌∙◌, arith}
use Rattle.std.proofs.lemmas.List.{take_at, get_or_default, length-map, length-take}
use Rattle.set_digest.specs.declared.pool.Row.{Row}
use Rattle.set_digest.specs.Catalogue.{Listed, shortened}
use Rattle.set_digest.specs.Pool.{Pooled, no_row, row_at, end_of, listed_at, listed_by, moved_down}
use Rattle.set_digest.proofs.PoolLaws.{HasFewer, has_fewer_as, listed_at-map}
use Rattle.set_digest.proofs.pool.Pool.cut_row.Goals as goal
use Rattle.set_digest.proofs.pool.Pool.cut_row.Goals.{After-take_out}

abbrev own : After-take_out → Row
own c = record { set = c.index-row.result.now.set; start = c.begin.result; count = c.args.count }

abbrev moved : After-take_out → List Row
moved c = take c.self.inside.rows.len (c.move_down.new.rows ++ drop (length c.move_down.new.rows) c.self.inside.rows.items)

has : (c : After-take_out) → HasFewer c.self.inside.rows.items c.self.inside.lines.items c.args.at c.args.count (set (moved c) c.args.at (own c)) c.take_out.new.lines.items
has c =
    let rows = c.self.inside.rows.items in
    let lines = c.self.inside.lines.items in
    let row = c.index-row.result.now in
    let within : c.args.at < length rows = omega (arith, c.requires.row, ap (λ (p : Pooled). length p.listed) c.self.view_is, length-map rows (listed_by lines)) in
    let row_is : row ≡ row_at rows c.args.at = c.index-row.ensures ∙ get_or_default rows c.args.at row no_row within in
    let by = moved_down (end_of row) (row.count - c.args.count) in
    let map_is : c.move_down.new.rows ≡ map by rows = c.move_down.ensures ∙ ap (map by) c.deref_mut.ensures.value in
    let long : length c.move_down.new.rows ≡ c.self.inside.rows.len = omega (arith, ap (λ (l : List Row). length l) map_is, length-map rows by, c.self.inside.rows.ok) in
    let has_now = ap (λ (p : Pooled). length (listed_at p.listed c.args.at).lines) c.self.view_is in
    let here = ap (λ (l : Listed). length l.lines) (listed_at-map lines rows c.args.at within) in
    let some = length-take (row_at rows c.args.at).count (drop (row_at rows c.args.at).start lines) in
    let fewer : c.args.count < row.count = omega (arith, c.requires.has, c.if-count-row.false, has_now, here, some, ap (λ (r : Row). r.count) row_is) in
    has_fewer_as rows lines c.args.at c.args.count c.self.invariant within row c.begin.result (moved c) c.take_out.new.lines.items row_is fewer c.begin.ensures
    (take_at c.move_down.new.rows (drop (length c.move_down.new.rows) rows) c.self.inside.rows.len long ∙ map_is)
    c.take_out.ensures.items

pub invariant_of-self : goal.invariant_of-self
invariant_of-self c = (has c).keeps

pub returns-clause-listed : goal.returns-clause-listed
returns-clause-listed c =
    (has c).listed ∙ ap (λ (p : Pooled). set p.listed c.args.at (shortened c.args.count (listed_at p.listed c.args.at))) c.self.view_is
