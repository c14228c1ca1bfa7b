use Rattle.std.proofs.Common.{length, ap, subst, ◌∙◌}
use Rattle.set_writer.specs.Writer.{Writer, CanDigest}
use Rattle.set_writer.proofs.FitLaws.{open_can}
use Rattle.set_writer.proofs.writer.SetWriter.can_be_closed.Goals as goal

pub returns : goal.returns
returns c = λ open_.
    let w = c.self.inside in
    let can = open_can w.geometry (record { set = w.set; used = w.used; records = w.records; lines = length w.lines.items; is_closed = w.is_closed }) (ap (λ (v : Writer). v.is_closed) c.self.view_is ∙ open_) c.self.invariant.can in
    subst CanDigest c.self.view_is (record {
      within = c.self.invariant.within;
      id = c.if-prove.false;
      set_from = c.self.invariant.set_from;
      set_to = c.self.invariant.set_to;
      lines = can.2;
      blocks = can.0;
      records = can.1;
    })
