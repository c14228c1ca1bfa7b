use Rattle.std.proofs.Common.{ℕ, List, ap, sym, ◌∙◌, arith}
use Rattle.sets_bench.specs.Ready.{part_marker}
use Rattle.sets_bench.proofs.PartLaws.{geometry_is, appendable}
use Rattle.sets_bench.proofs.parts.next_part.Goals as goal

pub returns-then-is_well_formed : goal.returns-then-is_well_formed
returns-then-is_well_formed c =
    let w = c.args.writer.now in
    let payload = c.payload_len-2.result in
    let is =
    c.marker_of-part.ensures.is
    ∙ ap (λ (a : List ℕ). part_marker a c.set.result c.records.result payload) c.array.ensures
    ∙ ap (λ (s : ℕ). part_marker c.args.table.now.array s c.records.result payload) c.set.ensures
    ∙ ap (λ (r : ℕ). part_marker c.args.table.now.array w.set r payload) c.records.ensures in
    let few = c.if-payload_len-gt-PART.false in
    appendable w c.args.table.now c.marker_of-part.result c.args.body.now payload c.requires.array (sym c.geometry.ensures.same ∙ geometry_is c.geometry.result.now c.if-ne.ensures) c.requires.code is c.payload_len-2.ensures
    (omega (arith, few, c.payload_len.ensures, c.payload_len-2.ensures)) c.marker_of-part.ensures.widths (sym c.is_well_formed.ensures ∙ c.if-is_well_formed.true)
