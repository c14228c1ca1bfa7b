use Rattle.set_writer.proofs.SetImageRead.{set_image_has_payloads, opened_image_has_payloads}
use Rattle.set_writer.proofs.SetsRead.{image_has_payloads}
use Rattle.set_writer.proofs.payloads.images_have_payloads.Goals as goal

pub returns-clause-set : goal.returns-clause-set
returns-clause-set c = set_image_has_payloads

pub returns-clause-opened : goal.returns-clause-opened
returns-clause-opened c = opened_image_has_payloads

pub returns-clause-written : goal.returns-clause-written
returns-clause-written c = image_has_payloads
