use Rattle.std.proofs.Common.{◌∙◌, ap, map}
use Rattle.array_scan.specs.SetRead.{placed_of}
use Rattle.array_scan.proofs.AgreedLists.{shared_by}
use Rattle.array_scan.proofs.read_sets.shared.Goals as goal

pub returns-clause-records : goal.returns-clause-records
returns-clause-records c = λ ms more are also is others.
    ap (map placed_of) c.truncate.ensures.items
    ∙ shared_by c.common_len-count.result c.deref.result.now c.args.zone.records.items c.deref-2.result.now c.args.others.now.records.items ms more c.deref.ensures.value c.deref-2.ensures.value c.common_len-count.ensures.common are also is others
