use Rattle.std.proofs.Common.{sym, ◌∙◌}
use Rattle.sets_bench.proofs.PartLaws.{reserved, answered, appended}
use Rattle.sets_bench.proofs.parts.append_part.Goals as goal

pub append_record-requires-clause-held : goal.append_record-requires-clause-held
append_record-requires-clause-held g c =
    let ready = reserved c.args.writer.now c.reserve.new.self c.args.table.now (g.B.Bay.state c.args.bay.now) c.reserve.ensures.kept c.reserve.ensures.held c.requires.ready in
    ready.held

pub returns : goal.returns
returns g c ok =
    let ready = reserved c.args.writer.now c.reserve.new.self c.args.table.now (g.B.Bay.state c.args.bay.now) c.reserve.ensures.kept c.reserve.ensures.held c.requires.ready in
    let fits = answered c.append_record.result _ _ (sym c.is_ok.ensures.value ∙ ok) c.append_record.ensures.answer in
    appended c.reserve.new.self c.append_record.new.self c.args.table.now c.append_record.new.table (g.B.Bay.state c.args.bay.now) (g.B.Bay.state c.append_record.new.bay) c.in-Some.part c.args.body.now _
    ready (c.append_record.ensures.writer fits.1.0) (c.append_record.ensures.spread fits.1.0) (c.append_record.ensures.held fits.1.0)
