use Rattle.std.proofs.Common.{cond, ap, ◌∙◌}
use Rattle.std.specs.Prelude.{is_some}
use Rattle.std.specs.FinMap.{insert, remove}
use Rattle.store_core.specs.Index.{PartKey, parts_in}
use Rattle.zone_bay.proofs.OneDevice.{on_err}
use Rattle.store_core.proofs.IndexMaps.{part_taken_back}
use Rattle.store_core.proofs.index.Index.add_put.Goals as goal

pub returns-then-is_err-clause-kept_parts : goal.returns-then-is_err-clause-kept_parts
returns-then-is_err-clause-kept_parts c =
    let key : PartKey = (c.args.upload, 0) in
    let parts = parts_in c.args.self.now in
    let added = c.in_ok-add_part.ensures.added ∙ ap (λ o. cond (is_some o) parts (insert parts key c.args.part)) c.requires.fresh in
    on_err c.set_note-old.result (λ failed. c.remove_part.ensures.parts ∙ ap (λ m. remove m key) (c.set_note-old.ensures.parts ∙ added) ∙ part_taken_back parts key c.args.part c.requires.fresh)
