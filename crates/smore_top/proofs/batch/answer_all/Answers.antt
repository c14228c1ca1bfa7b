use Rattle.std.proofs.Common.{arith, refl, sym, ap, ◌∙◌}
use Rattle.store_core.specs.Core.{coding_of}
use Rattle.smore_top.specs.declared.end.End.TheVariants.{NoMemory}
use Rattle.smore_top.proofs.RunLaws.{same_coding, starts, continues, stops, ends_idle}
use Rattle.smore_top.proofs.batch.answer_all.Goals as goal

pub loop-calls-preserved : goal.loop-calls-preserved
loop-calls-preserved g c =
    let turn = c.in-Ok.ensures in
    record {
      so_far = continues g.B.Bay.state _ _ _ c.loop-calls.calls c.loop-calls.desk.marks.items c.answer_next.new.desk.marks.items c.loop-calls.invariant.so_far turn.turn turn.marks;
      coder = c.loop-calls.invariant.coder ∙ sym (same_coding g.B.Bay.state _ _ turn.turn);
      source = turn.source ∙ c.loop-calls.invariant.source;
      sink = turn.sink ∙ c.loop-calls.invariant.sink;
    }

pub loop-calls-init : goal.loop-calls-init
loop-calls-init g c = record {
  so_far = starts g.B.Bay.state _ 0 c.new-desk.result.marks.items refl c.new-desk.ensures;
  coder = c.new-coder.ensures ∙ ap coding_of c.geometry.ensures.same;
  source = refl;
  sink = refl;
}

pub returns-in-Err-clause-runs : goal.returns-in-Err-clause-runs
returns-in-Err-clause-runs g c =
    stops g.B.Bay.state _ _ _ c.loop-calls.calls _ c.loop-calls.desk.marks.items c.answer_next.new.desk.marks.items c.in-Err.halt.end c.in-Err.halt.calls refl c.in-Err.ensures.marks c.loop-calls.invariant.so_far c.in-Err.ensures.turn

pub returns-clause-runs : goal.returns-clause-runs
returns-clause-runs g c =
    stops g.B.Bay.state _ _ _ c.loop-calls.calls _ c.loop-calls.desk.marks.items c.loop-calls.desk.marks.items NoMemory 0 (omega arith) refl c.loop-calls.invariant.so_far (ends_idle g.B.Bay.state (g.S.Source.left c.loop-calls.source) (g.K.Sink.held c.loop-calls.sink) c.loop-calls.core)
