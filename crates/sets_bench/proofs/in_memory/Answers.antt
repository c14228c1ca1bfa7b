use Rattle.std.proofs.Common.{ap}
use Rattle.zone_bay.specs.Contents.{Contents}
use Rattle.sets_bench.proofs.in_memory.Goals as goal

pub append_parts-requires : goal.append_parts-requires
append_parts-requires c = λ d z. ap (λ (held : Contents). held d z) c.in_ok-bay.ensures.contents
