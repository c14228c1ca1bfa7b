use Rattle.set_writer.proofs.SetImages.{image_has_first}
use Rattle.set_writer.proofs.WriterImages.{writer_bytes, writer_has_first}
use Rattle.set_writer.proofs.OpeningImages.{opened_are_set_bytes}
use Rattle.set_writer.proofs.images.images_have_the_first.Goals as goal

pub returns-clause-set : goal.returns-clause-set
returns-clause-set c = image_has_first

pub returns-clause-writer : goal.returns-clause-writer
returns-clause-writer c = writer_has_first

pub returns-clause-written : goal.returns-clause-written
returns-clause-written c = writer_bytes

pub returns-clause-opened : goal.returns-clause-opened
returns-clause-opened c = opened_are_set_bytes
