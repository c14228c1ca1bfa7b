use Rattle.zone_bay.proofs.Images.{flush_leaves_fewer, flush_keeps_device, flush_leaves_others}
use Rattle.zone_bay.proofs.laws.flush_leaves_fewer.Goals as goal

pub returns-clause-fewer : goal.returns-clause-fewer
returns-clause-fewer c = flush_leaves_fewer

pub returns-clause-whole : goal.returns-clause-whole
returns-clause-whole c = flush_keeps_device

pub returns-clause-others : goal.returns-clause-others
returns-clause-others c = flush_leaves_others
