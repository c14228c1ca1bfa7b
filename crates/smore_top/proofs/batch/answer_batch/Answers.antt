use Rattle.std.proofs.Common.{inr}
use Rattle.smore_top.specs.Headline.{sides}
use Rattle.smore_top.specs.Turn.{ran_of}
use Rattle.smore_top.proofs.Through.{marks_rise, opened_run}
use Rattle.smore_top.proofs.batch.answer_batch.Goals as goal

pub returns-clause-batch : goal.returns-clause-batch
returns-clause-batch g c =
    let before = sides (g.S.Source.left c.args.source.now) (g.K.Sink.held c.args.sink.now) c.args.bay in
    let after = sides (g.S.Source.left c.answer_all-run.new.source) (g.K.Sink.held c.answer_all-run.new.sink) c.into_bay.result in
    inr (opened_run g.B.Bay g.met.B.Bay.sound (ran_of c.answer_all-run.result) before after c.in-Ok.core c.answer_all-run.new.core c.in-Ok.ensures c.answer_all-run.ensures.runs c.into_bay.ensures.same c.into_bay.ensures.map)

pub returns-clause-rising : goal.returns-clause-rising
returns-clause-rising g c = marks_rise g.B.Bay.state _ _ _ c.answer_all-run.ensures.runs
