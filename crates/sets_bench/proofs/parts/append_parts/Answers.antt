use Rattle.std.proofs.Common.{[], ap, sym, subst, ◌∙◌}
use Rattle.smore_base.specs.declared.geometry.Geometry.{Geometry}
use Rattle.zone_bay.specs.Contents.{IsOfBay}
use Rattle.set_table.specs.Table.{Table}
use Rattle.set_table.specs.Table.{array_of}
use Rattle.set_writer.specs.Writer.{opening}
use Rattle.sets_bench.proofs.PartLaws.{reserved, opened, ours}
use Rattle.sets_bench.proofs.parts.append_parts.Goals as goal

pub append_rounds-requires-clause-ready : goal.append_rounds-requires-clause-ready
append_rounds-requires-clause-ready g c =
    let old = g.B.Bay.state c.args.bay.now in
    let new = g.B.Bay.state c.open_set.new.bay in
    let t = c.in_ok-table.table in
    let t' = c.open_set.new.table in
    let w = c.in-Ok.writer in
    let answer = c.in-Ok.ensures.answer in
    let devices = c.if-devices-ne-DEVICES.false in
    let zones = c.if-zones-ne-ZONES.false in
    let blocks = c.if-blocks.false in
    let shape : IsOfBay ours old.shape = record { devices = sym devices ∙ c.devices.ensures; zones = sym zones ∙ c.zones.ensures; blocks = sym blocks ∙ c.blocks-else-zones-ne-ZONES.ensures } in
    let of_bay = subst (λ (g : Geometry). IsOfBay g old.shape) (sym (ap (λ (x : Table). x.geometry) c.in_ok-table.ensures)) shape in
    let ready = opened w t t' old new 1 answer.2.0 (opening (array_of t) 1 []) answer.0 answer.1 answer.2.1 of_bay c.in-Ok.ensures.held in
    reserved w c.reserve.new.self t' new c.reserve.ensures.kept c.reserve.ensures.held ready
