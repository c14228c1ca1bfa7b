use Rattle.std.proofs.Common.{[], ap, ◌∙◌}
use Rattle.zone_bay.specs.Contents.{Contents}
use Rattle.bay_memory.specs.Views.{views_of}
use Rattle.bay_memory.specs.Array.{contents_in}
use Rattle.set_table.specs.Table.{array_of}
use Rattle.set_writer.specs.Writer.{opening}
use Rattle.set_tests.proofs.writer.life.Goals as goal

pub open_set-requires-clause-empty : goal.open_set-requires-clause-empty
open_set-requires-clause-empty g c = λ d z live is. ap (λ a. contents_in (views_of a) d z) c.fail_at.ensures.array.array ∙ ap (λ (h : Contents). h d z) c.in_ok-bay.ensures.contents

pub close_with_digest-closed-requires-clause-held : goal.close_with_digest-closed-requires-clause-held
close_with_digest-closed-requires-clause-held g c = (opening (array_of c.reserve.new.self) 1 [], c.flush-flushed.ensures.held (opening (array_of c.reserve.new.self) 1 []) c.in-Ok.ensures.held)
