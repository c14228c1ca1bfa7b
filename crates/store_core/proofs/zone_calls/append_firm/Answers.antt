use Rattle.store_core.proofs.AppendSteps.{append_failed, append_flushed}
use Rattle.store_core.proofs.zone_calls.append_firm.Goals as goal

pub returns-in_err-append : goal.returns-in_err-append
returns-in_err-append g c = append_failed c.args.bytes.now _ _ (g.met.B.Bay.sound c.args.bay.now) _ _ c.in_err-append.ensures.call _ c.from_residual.ensures.1

pub returns : goal.returns
returns g c = append_flushed c.args.bytes.now _ _ (g.met.B.Bay.sound c.args.bay.now) _ c.in_ok-append.ensures.call (g.met.B.Bay.sound c.append.new.self) _ _ c.flush.ensures.call
