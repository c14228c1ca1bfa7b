use Rattle.set_writer.proofs.TableRoom.{room_keeps_bytes, room_keeps_held, room_keeps_of}
use Rattle.set_writer.proofs.tables.room_changes_nothing.Goals as goal

pub returns-clause-bytes : goal.returns-clause-bytes
returns-clause-bytes g c = room_keeps_bytes

pub returns-clause-held : goal.returns-clause-held
returns-clause-held g c = room_keeps_held

pub returns-clause-of : goal.returns-clause-of
returns-clause-of g c = λ bay. room_keeps_of (g.B.Bay.state bay)
