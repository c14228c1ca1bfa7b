use Rattle.std.proofs.Common.{ap, subst}
use Rattle.set_writer.specs.Members.{Flushes}
use Rattle.set_writer.specs.Writer.{Writer}
use Rattle.set_writer.proofs.writer.SetWriter.flush.Goals as goal

pub returns-clause-flushed : goal.returns-clause-flushed
returns-clause-flushed g c = subst (λ s. Flushes s c.args.table.now c.flush_all.new.table (g.B.Bay.state c.args.bay.now) (g.B.Bay.state c.flush_all.new.bay)) (ap (λ (w : Writer). w.set) c.self.view_is) c.flush_all.ensures.flushed
