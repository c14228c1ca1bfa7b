use Rattle.smore_top.proofs.RunLaws.{ends_asking, ends_idle, ends_sending, answers}
use Rattle.smore_top.proofs.turn.answer_next.Goals as goal

pub returns-then-is_err-clause-turn : goal.returns-then-is_err-clause-turn
returns-then-is_err-clause-turn g c = ends_idle g.B.Bay.state (g.S.Source.left c.args.source.now) (g.K.Sink.held c.args.sink.now) c.args.core.now

pub returns-in-Err-clause-turn : goal.returns-in-Err-clause-turn
returns-in-Err-clause-turn g c = ends_asking g.B.Bay.state c.in-Err.end (g.S.Source.left c.args.source.now) (g.S.Source.left c.next_call.new.source) (g.K.Sink.held c.args.sink.now) c.args.core.now c.in-Err.ensures.end (rw c.requires at c.in-Err.ensures.asked)

pub returns-in-Err-send_reply-clause-turn : goal.returns-in-Err-send_reply-clause-turn
returns-in-Err-send_reply-clause-turn g c =
    ends_sending g.B.Bay.state c.in-Ok.op c.step-reply.result (g.S.Source.left c.args.source.now) (g.S.Source.left c.next_call.new.source) (g.K.Sink.held c.args.sink.now) (g.K.Sink.held c.send_reply.new.sink) c.args.core.now c.step-reply.new.self
    (rw c.requires at c.in-Ok.ensures.asked) c.step-reply.ensures c.in-Err-send_reply.end c.in-Err-send_reply.ensures.end c.in-Err-send_reply.ensures.sent

pub returns-clause-turn : goal.returns-clause-turn
returns-clause-turn g c =
    answers g.B.Bay.state c.in-Ok.op c.step-reply.result (g.S.Source.left c.args.source.now) (g.S.Source.left c.next_call.new.source) (g.K.Sink.held c.args.sink.now) (g.K.Sink.held c.send_reply.new.sink) c.args.core.now c.step-reply.new.self
    (rw c.requires at c.in-Ok.ensures.asked) c.step-reply.ensures
    c.in-Ok-send_reply.ensures.sent
