use Rattle.std.proofs.Common.{ℕ, ◌+◌, ◌/◌, List, ap, ◌∙◌}
use Rattle.set_writer.specs.Writer.{Writer}
use Rattle.set_writer.proofs.RoomierLaws.{fits_still}
use Rattle.set_writer.proofs.writer.SetWriter.reserve.Goals as goal

pub returns-then-room-self-clause-held : goal.returns-then-room-self-clause-held
returns-then-room-self-clause-held c =
    λ es t held fits. fits_still c.args.self.now _ es t held
    (ap (λ (l : List ℕ). record { geometry = c.self.inside.geometry; id = c.self.inside.array; set = c.self.inside.set; used = c.self.inside.used; records = c.self.inside.records; lines = l; is_closed = c.self.inside.is_closed; room = c.len.result / 320 + c.in-Some.lines }) c.reserve.ensures.items
    ∙ ap (λ (x : Writer). record x { room = c.len.result / 320 + c.in-Some.lines }) c.self.view_is)
    fits
