use Rattle.set_writer.proofs.KeptCarriers.{lists_are_one, places_are_alone}
use Rattle.set_writer.proofs.kept.sets_hang_together.Goals as goal

pub returns-clause-lists : goal.returns-clause-lists
returns-clause-lists c = lists_are_one

pub returns-clause-alone : goal.returns-clause-alone
returns-clause-alone c = places_are_alone

pub returns-clause-once : goal.returns-clause-once
returns-clause-once c = λ t set' drives together d z e y index drive other one same. together.once d z e y set' index one same
