use Rattle.std.proofs.Common.{◌≡◌, ◌+◌, ◌-◌, ◌*◌, ◌≤◌, length, take, drop, get_or, ◌∙◌, arith}
use Rattle.std.proofs.lemmas.List.{get_or_default}
use Rattle.set_table.specs.declared.members.Member.{Member}
use Rattle.set_reader.proofs.RowLaws.{rows_more}
use Rattle.set_reader.proofs.rows.read_rows.Goals as goal

abbrev none : Member
none = record { index = 0; device = 0; zone = 0 }

pub loop-at-preserved : goal.loop-at-preserved
loop-at-preserved g c =
    let at = c.loop-at.at in
    let f = c.args.f in
    let m = get_or c.args.members.now at none in
    let room = c.loop-at.auto.rows ∙ c.requires.size in
    let below = c.loop-at-test.true in
    let within : at * f + f ≤ length c.loop-at.rows = grind (arith, room, below) in
    let part : length (take ((at * f + f) - (at * f)) (drop (at * f) c.loop-at.rows)) ≡ f = grind (arith, within) in
    rows_more c.args.block f _ c.args.members.now (g.B.Bay.state c.args.bay.now) (g.B.Bay.state c.loop-at.bay) (g.B.Bay.state c.read_row.new.bay) c.loop-at.rows c.read_row.new.out at _ m below
    (get_or_default c.args.members.now at none m below)
    room c.read_row.auto.out part
    c.loop-at.invariant c.in_ok-read_row.ensures.reads c.in_ok-read_row.ensures.fragment
