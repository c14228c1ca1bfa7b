use Rattle.std.proofs.Common.{◌≡◌}
use Rattle.store_core.specs.Core.{geometry_of, coding_of}
use Rattle.smore_top.specs.Headline.{sides}
use Rattle.smore_top.proofs.RunLaws.{Continues}
use Rattle.smore_top.proofs.batch.answer_all.Given as goal

abbrev pub invariant-loop-calls : goal.invariant-loop-calls
invariant-loop-calls g l = record {
  so_far : Continues g.B.Bay.state (sides (g.S.Source.left l.fn.source) (g.K.Sink.held l.fn.sink) l.fn.core) (sides (g.S.Source.left l.source) (g.K.Sink.held l.sink) l.core) l.calls l.desk.marks.items;
  coder : l.coder ≡ coding_of (geometry_of l.core);
  source : g.S.Source.faults l.source ≡ g.S.Source.faults l.fn.source;
  sink : g.K.Sink.faults l.sink ≡ g.K.Sink.faults l.fn.sink;
}
