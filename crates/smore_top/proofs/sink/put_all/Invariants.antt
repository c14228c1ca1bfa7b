use Rattle.std.proofs.Common.{◌≡◌, List, ℕ, ◌++◌, length, Ok}
use Rattle.smore_base.specs.Told.{Told}
use Rattle.zone_bay.specs.declared.failed.Failed.{Failed}
use Rattle.zone_bay.specs.Outside.{HasCause}
use Rattle.smore_top.proofs.sink.put_all.Given as goal

abbrev pub invariant-loop-rest : goal.invariant-loop-rest
invariant-loop-rest g l = record {
  put : Told (g.K.Sink.held l.fn.sink) (g.K.Sink.held l.sink) (λ before after. (gone : List ℕ) × (l.bytes ≡ gone ++ l.rest) × (after ≡ before ++ gone));
  cause : HasCause {T = Unit {0}} {E = Failed} (Ok tt) (g.K.Sink.faults l.fn.sink) (g.K.Sink.faults l.sink);
}

abbrev pub decreases-loop-rest : goal.decreases-loop-rest
decreases-loop-rest g l = length l.rest
