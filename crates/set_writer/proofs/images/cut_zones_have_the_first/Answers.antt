use Rattle.set_writer.proofs.CutZones.{cut_list_has_first, cut_digests_have_first, cut_zone_has_those, foot_is_whole}
use Rattle.set_writer.proofs.images.cut_zones_have_the_first.Goals as goal

pub returns-clause-list : goal.returns-clause-list
returns-clause-list c = cut_list_has_first

pub returns-clause-digest : goal.returns-clause-digest
returns-clause-digest c = cut_digests_have_first

pub returns-clause-zone : goal.returns-clause-zone
returns-clause-zone c = λ n w es index below wrote. cut_zone_has_those w es index below wrote n

pub returns-clause-foot : goal.returns-clause-foot
returns-clause-foot c = foot_is_whole
