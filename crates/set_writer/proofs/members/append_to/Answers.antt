use Rattle.std.proofs.Common.{sym, ◌∙◌}
use Rattle.set_writer.proofs.OneMember.{append_none, append_at, append_fails}
use Rattle.set_writer.proofs.RoundLaws.{one_call}
use Rattle.set_writer.proofs.members.append_to.Goals as goal

pub returns-in_default-clause-spread : goal.returns-in_default-clause-spread
returns-in_default-clause-spread g c = append_none c.args.table.now c.args.set c.args.index c.args.bytes.now _ c.in_default.ensures

pub returns-then-is_err-clause-spread : goal.returns-then-is_err-clause-spread
returns-then-is_err-clause-spread g c = append_fails c.args.table.now c.lose.new.self c.args.set c.args.index c.in-Some.device c.in-Some.zone c.args.bytes.now _ _ c.append.result c.in-Some.ensures (g.met.B.Bay.sound c.args.bay.now) (sym c.is_err.ensures.value ∙ c.if-is_err.true) c.lose.ensures c.append.ensures.call

pub returns-else-is_err-clause-spread : goal.returns-else-is_err-clause-spread
returns-else-is_err-clause-spread g c = append_at c.args.table.now c.args.set c.args.index c.in-Some.device c.in-Some.zone c.args.bytes.now _ _ c.append.result c.in-Some.ensures (g.met.B.Bay.sound c.args.bay.now) (sym c.is_err.ensures.value ∙ c.if-is_err.false) c.append.ensures.call

pub returns-then-is_err-clause-calls : goal.returns-then-is_err-clause-calls
returns-then-is_err-clause-calls g c = one_call c.args.table.now c.args.set c.args.index c.in-Some.device c.in-Some.zone _ _ c.geometry.ensures.together c.in-Some.ensures c.append.ensures.call.later

pub returns-else-is_err-clause-calls : goal.returns-else-is_err-clause-calls
returns-else-is_err-clause-calls g c = one_call c.args.table.now c.args.set c.args.index c.in-Some.device c.in-Some.zone _ _ c.geometry.ensures.together c.in-Some.ensures c.append.ensures.call.later
