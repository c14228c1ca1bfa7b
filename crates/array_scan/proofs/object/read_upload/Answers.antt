use Rattle.std.proofs.Common.{◌++◌, ap, ◌∙◌}
use Rattle.array_scan.specs.Calls.{lost_by}
use Rattle.array_scan.proofs.Calls.{read_then, failed_call}
use Rattle.array_scan.proofs.ReadObjects.{read_more, read_missing}
use Rattle.array_scan.proofs.object.read_upload.Goals as goal

pub returns-in_default-clause-object : goal.returns-in_default-clause-object
returns-in_default-clause-object g c =
    let note = c.args.note.now in
    read_missing c.args.code.now.k (g.B.Bay.state c.args.bay.now) (g.B.Bay.state c.loop-part.bay) c.args.records.now note.upload note.parts c.loop-part.part c.loop-part.bytes.items c.loop-part-test.true c.loop-part.invariant note.length c.in_default.ensures.payload

pub returns-in_err-payload-clause-reads : goal.returns-in_err-payload-clause-reads
returns-in_err-payload-clause-reads g c =
    let mid = g.B.Bay.state c.loop-part.bay in
    let after = g.B.Bay.state c.read_payload.new.bay in
    read_then (g.B.Bay.state c.args.bay.now) mid after (lost_by c.from_residual.result) c.loop-part.invariant.read
    (failed_call mid after c.read_payload.result c.in_err-payload.field-0.0 c.from_residual.result c.in_err-payload.was c.from_residual.ensures.1 c.read_payload.ensures.reads)

pub loop-part-preserved : goal.loop-part-preserved
loop-part-preserved g c =
    let note = c.args.note.now in
    read_more c.args.code.now.k (g.B.Bay.state c.args.bay.now) (g.B.Bay.state c.loop-part.bay) c.args.records.now note.upload note.parts c.loop-part.part c.loop-part.bytes.items c.loop-part-test.true c.loop-part.invariant
    (g.B.Bay.state c.read_payload.new.bay) c.in-Some.valid c.in_ok-payload.payload.items c.extend_from_slice.new.self.items c.in_ok-payload.ensures.reads c.in-Some.ensures.payload c.in_ok-payload.ensures.payload
    (c.in_ok-extend_from_slice.ensures.items ∙ ap (λ l. c.loop-part.bytes.items ++ l) c.deref.ensures.value)
