use Rattle.set_writer.proofs.SetImageRead.{set_image_is_read, opened_image_is_read, opening_is_read, next_is_read}
use Rattle.set_writer.proofs.payloads.images_are_read.Goals as goal

pub returns-clause-set : goal.returns-clause-set
returns-clause-set g c = set_image_is_read

pub returns-clause-opened : goal.returns-clause-opened
returns-clause-opened g c = opened_image_is_read

pub returns-clause-opening : goal.returns-clause-opening
returns-clause-opening g c = λ old new. opening_is_read (g.B.Bay.state old) (g.B.Bay.state new)

pub returns-clause-next : goal.returns-clause-next
returns-clause-next g c = λ old new. next_is_read (g.B.Bay.state old) (g.B.Bay.state new)
