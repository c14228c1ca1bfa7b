use Rattle.set_writer.proofs.SetsRead.{image_is_read, members_are_carriers, whole_is_read, digest_is_read, opening_is_ready, opened_stands, closed_is_settled}
use Rattle.set_writer.proofs.FoundCarriers.{live_are_carried}
use Rattle.set_writer.proofs.payloads.sets_are_read.Goals as goal

pub returns-clause-image : goal.returns-clause-image
returns-clause-image c = image_is_read

pub returns-clause-members : goal.returns-clause-members
returns-clause-members c = members_are_carriers

pub returns-clause-whole : goal.returns-clause-whole
returns-clause-whole c = whole_is_read

pub returns-clause-ready : goal.returns-clause-ready
returns-clause-ready c = opening_is_ready

pub returns-clause-opened : goal.returns-clause-opened
returns-clause-opened c = λ w es t view holds ready enough. opened_stands w es t view holds enough ready

pub returns-clause-closed : goal.returns-clause-closed
returns-clause-closed c = λ w es t view sets holds ready closed enough. closed_is_settled w es t view holds enough sets ready closed

pub returns-clause-digest : goal.returns-clause-digest
returns-clause-digest c = λ w es t view index holds below closed enough. digest_is_read w es t view holds enough index below closed

pub returns-clause-live : goal.returns-clause-live
returns-clause-live c = live_are_carried
