use Rattle.set_writer.proofs.TableRoom.{written_is_open}
use Rattle.set_writer.proofs.tables.written_sets_are_open.Goals as goal

pub returns : goal.returns
returns c = written_is_open
