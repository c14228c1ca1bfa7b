use Rattle.set_reader.proofs.RowLaws.{RowsRead}
use Rattle.set_reader.proofs.rows.read_rows.Given as goal

abbrev pub invariant-loop-at : goal.invariant-loop-at
invariant-loop-at g l = RowsRead l.block l.f l.members (g.B.Bay.state l.fn.bay) (g.B.Bay.state l.bay) l.rows l.at
