use Rattle.set_writer.proofs.PartLaws.{Digested}
use Rattle.set_writer.proofs.writer.SetWriter.put_digest.Given as goal

abbrev pub invariant-loop-part : goal.invariant-loop-part
invariant-loop-part g l = Digested l.fn.self l.part l.blocks l.self l.fn.table l.table (g.B.Bay.state l.fn.bay) (g.B.Bay.state l.bay)
