use Rattle.std.proofs.Common.{sym, ◌∙◌}
use Rattle.set_writer.proofs.OneMember.{flush_none, flush_at, flush_fails}
use Rattle.set_writer.proofs.RoundLaws.{one_call}
use Rattle.set_writer.proofs.members.flush_of.Goals as goal

pub returns-in_default-clause-flushed : goal.returns-in_default-clause-flushed
returns-in_default-clause-flushed g c = flush_none c.args.table.now c.args.set c.args.index _ c.in_default.ensures

pub returns-then-is_err-clause-flushed : goal.returns-then-is_err-clause-flushed
returns-then-is_err-clause-flushed g c = flush_fails c.args.table.now c.lose.new.self c.args.set c.args.index c.in-Some.device c.in-Some.field-0-1 _ _ c.flush.result c.in-Some.ensures (g.met.B.Bay.sound c.args.bay.now) (sym c.is_err.ensures.value ∙ c.if-is_err.true) c.lose.ensures c.flush.ensures.call

pub returns-else-is_err-clause-flushed : goal.returns-else-is_err-clause-flushed
returns-else-is_err-clause-flushed g c = flush_at c.args.table.now c.args.set c.args.index c.in-Some.device c.in-Some.field-0-1 _ _ c.flush.result c.in-Some.ensures (g.met.B.Bay.sound c.args.bay.now) (sym c.is_err.ensures.value ∙ c.if-is_err.false) c.flush.ensures.call

pub returns-then-is_err-clause-calls : goal.returns-then-is_err-clause-calls
returns-then-is_err-clause-calls g c = one_call c.args.table.now c.args.set c.args.index c.in-Some.device c.in-Some.field-0-1 _ _ c.geometry.ensures.together c.in-Some.ensures c.flush.ensures.call.later

pub returns-else-is_err-clause-calls : goal.returns-else-is_err-clause-calls
returns-else-is_err-clause-calls g c = one_call c.args.table.now c.args.set c.args.index c.in-Some.device c.in-Some.field-0-1 _ _ c.geometry.ensures.together c.in-Some.ensures c.flush.ensures.call.later
